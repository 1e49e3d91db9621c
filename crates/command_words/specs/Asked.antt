-- What a command line asks for, or the first thing that is wrong with it: its shape, then its seed, then its cycles.
--
-- `rsim` has four names, of the executable, the configuration, the bound on the cycles and the order; with one seed it has
-- the last three. `rsimcheck` has two, of the executable and the order; with one seed it has the last.
use Rattle.std.specs.Prelude.{ℕ, Bool, ◌&&◌, nat_le, if◌then◌else◌, List, [], ◌∷◌, length, Option, Some, None, Result, Ok, Err}
use Rattle.std.specs.Str.Parse.{digits_value}
use Rattle.rsim_base.specs.Decimals.{is_number}
use Rattle.rsim_base.specs.Limits.{max_steps}
use Rattle.command_words.specs.declared.fault.WordsFault.{WordsFault}
use Rattle.command_words.specs.declared.fault.WordsFault.TheVariants.{Shape, Seed, Cycles}
use Rattle.command_words.specs.Words.{Text, Said, said}

-- ---- shapes

-- an executable by its name, or to be made from a seed
pub data Origin : Type 0 where
  named : Text → Origin
  seeded : Text → Origin

pub record RunShape : Type 0 where
  pub executable : Origin
  pub config : Text
  pub cycles : Text
  pub order : Text

pub record CheckShape : Type 0 where
  pub executable : Origin
  pub order : Text

abbrev pub run_shape : List Text → List Text → Option RunShape
run_shape (executable ∷ config ∷ cycles ∷ order ∷ []) [] =
    Some (record { executable = named executable; config = config; cycles = cycles; order = order })
run_shape (config ∷ cycles ∷ order ∷ []) (seed ∷ []) =
    Some (record { executable = seeded seed; config = config; cycles = cycles; order = order })
run_shape _ _ = None

abbrev pub check_shape : List Text → List Text → Option CheckShape
check_shape (executable ∷ order ∷ []) [] = Some (record { executable = named executable; order = order })
check_shape (order ∷ []) (seed ∷ []) = Some (record { executable = seeded seed; order = order })
check_shape _ _ = None

abbrev pub run_shape_of : Option Said → Option RunShape
run_shape_of None = None
run_shape_of (Some s) = run_shape s.names s.seeds

abbrev pub check_shape_of : Option Said → Option CheckShape
check_shape_of None = None
check_shape_of (Some s) = check_shape s.names s.seeds

-- ---- numbers

-- the number from `least` to `most` that a word gives
unfoldable pub number_from : ℕ → ℕ → Text → Option ℕ
number_from least most word =
    if is_number word && nat_le least (digits_value 10 word) && nat_le (digits_value 10 word) most then Some (digits_value 10 word) else None

abbrev pub seed_of : Text → Option ℕ
seed_of = number_from 0 4294967295

abbrev pub cycles_of : Text → Option ℕ
cycles_of = number_from 1 max_steps

-- ---- what is asked

-- the executable of a file, or the one that a seed makes
pub data AskedExecutable : Type 0 where
  file : Text → AskedExecutable
  generated : ℕ → AskedExecutable

pub record RunAsked : Type 0 where
  pub executable : AskedExecutable
  pub config : Text
  pub cycles : ℕ
  pub order : Text

pub record CheckAsked : Type 0 where
  pub executable : AskedExecutable
  pub order : Text

-- the value, or this fault where there is none
abbrev pub or_fault : {X : Type 0} → WordsFault → Option X → Result X WordsFault
or_fault fault (Some x) = Ok x
or_fault fault None = Err fault

abbrev pub and_then : {X Y : Type 0} → Result X WordsFault → (X → Result Y WordsFault) → Result Y WordsFault
and_then (Ok x) next = next x
and_then (Err fault) next = Err fault

abbrev pub executable_from : Origin → Result AskedExecutable WordsFault
executable_from (named name) = Ok (file name)
executable_from (seeded seed) = and_then (or_fault Seed (seed_of seed)) (λ n. Ok (generated n))

unfoldable pub asked_of_run : List Text → Result RunAsked WordsFault
asked_of_run words =
    and_then (or_fault Shape (run_shape_of (said words))) (λ shape.
    and_then (executable_from shape.executable) (λ executable.
    and_then (or_fault Cycles (cycles_of shape.cycles)) (λ cycles.
    Ok (record { executable = executable; config = shape.config; cycles = cycles; order = shape.order }))))

unfoldable pub asked_of_check : List Text → Result CheckAsked WordsFault
asked_of_check words =
    and_then (or_fault Shape (check_shape_of (said words))) (λ shape.
    and_then (executable_from shape.executable) (λ executable.
    Ok (record { executable = executable; order = shape.order })))
