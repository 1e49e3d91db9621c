-- What the words of a command line say, after the program's name: names, and seeds of an executable that is to be made.
--
-- No words say nothing. A word `--` makes every later word a name, and is none itself. `--generate` takes the word after it
-- as its value, which has to be there and may not look like an option. `--generate=V` gives V. Any other word that looks
-- like an option is refused. All else is a name, also `-` and the empty word.
use Rattle.std.specs.Prelude.{ℕ, ◌==◌, Bool, ◌&&◌, nat_le, nat_eq, if◌then◌else◌, List, [], ◌∷◌, length, drop, codes, slice_index, Option, Some, None, option_map}
use Rattle.std.specs.List.{starts_with}
use Rattle.std.specs.Str.{bytes_eq}

abbrev pub Text : Type 0
Text = List ℕ

-- the names and the seeds, each in order
pub record Said : Type 0 where
  pub names : List Text
  pub seeds : List Text

-- `--`, `--generate`, and `--generate=V`
abbrev pub is_dashes : Text → Bool
is_dashes word = bytes_eq word (codes "--")

abbrev pub is_generate : Text → Bool
is_generate word = bytes_eq word (codes "--generate")

abbrev pub has_value : Text → Bool
has_value word = starts_with nat_eq word (codes "--generate=")

-- it looks like an option: two or more bytes that begin with '-'
abbrev pub is_option : Text → Bool
is_option word = nat_le 2 (length word) && (slice_index word 0 == 45)

-- names alone
abbrev pub only_names : List Text → Option Said
only_names words = Some (record { names = words; seeds = [] })

-- a first name, or a first seed, and what is said later
abbrev pub with_name : Text → Option Said → Option Said
with_name word later = option_map {T = Said} {U = Said} (λ s. record s { names = word ∷ s.names }) later

abbrev pub with_seed : Text → Option Said → Option Said
with_seed seed later = option_map {T = Said} {U = Said} (λ s. record s { seeds = seed ∷ s.seeds }) later

-- a word that takes no other with it
abbrev pub alone : Text → Option Said → Option Said
alone word later = if has_value word then with_seed (drop 11 word) later
    else (if is_option word then None else with_name word later)

-- what words say, or none where they are refused
unfoldable pub said : List Text → Option Said
said [] = only_names []
said (word ∷ []) = if is_dashes word then only_names [] else alone word (only_names [])
said (word ∷ next ∷ rest) = if is_dashes word then only_names (next ∷ rest)
    else (if is_generate word then (if is_option next then None else with_seed next (said rest))
    else alone word (said (next ∷ rest)))
