-- A processor's run: so many steps from its start on given loaded values, the accesses that it made, and the
-- bytes that it put.
use Rattle.std.specs.Prelude.{ℕ, zero, suc, Bool, false, not, ◌&&◌, map, if◌then◌else◌, List, [], ◌∷◌, ◌++◌, length, Option, Some, None, is_none, option_and_then, option_to_list, unwrap_or, slice_get, decimal}
use Rattle.rsim_base.specs.Accesses.{loads}
use Rattle.rsim_base.specs.Made.{Fences, Made, no_fences, fenced}
use Rattle.rsim_base.specs.declared.memory.Access.{Access}
use Rattle.elf64_load.specs.Image.{ImageView}
use Rattle.sparc_meaning.specs.declared.acts.Act.{Act}
use Rattle.sparc_meaning.specs.declared.acts.Act.TheVariants.{Fence, Out}
use Rattle.sparc_meaning.specs.declared.acts.Spoken.{Spoken}
use Rattle.sparc_meaning.specs.declared.acts.Spoken.TheVariants.{Byte, Number}
use Rattle.sparc_meaning.specs.declared.arch.Arch.{Arch}
use Rattle.sparc_meaning.specs.Accesses.{access_of, by_access}
use Rattle.sparc_meaning.specs.Arch.{boot, is_running}
use Rattle.sparc_meaning.specs.Step.{step}
use Rattle.sparc_meaning.specs.Stepped.{Stepped}

-- the accesses are numbered from 0, loads, stores and atomics alike
pub record Ran : Type 0 where
  pub state : Arch
  pub accesses : List Made
  pub fences : Fences
  pub output : List ℕ

-- a byte, or a number in decimal and a line feed
abbrev pub spoken_text : Spoken → List ℕ
spoken_text (Byte byte) = byte ∷ []
spoken_text (Number number) = decimal number ++ 10 ∷ []

abbrev pub output_of : Act → List ℕ
output_of (Out spoken) = spoken_text spoken
output_of act = []

-- whether a step uses the value that it was given
abbrev pub uses_value : Act → Bool
uses_value act = by_access false (λ a. loads a.kind) act

-- the access of processor p with this number that a step makes, in a list
abbrev pub accesses_of : ℕ → ℕ → Act → List Access
accesses_of p i act = option_to_list (access_of p i act)

-- how many fences there are after a step
abbrev pub fences_after : Act → Fences → Fences
fences_after (Fence mask) fences = fenced mask fences
fences_after act fences = fences

abbrev pub made_after : Fences → Access → Made
made_after fences access = record { access = access; fences = fences }

-- the run with one step more
abbrev pub after : ℕ → Ran → Stepped → Ran
after p ran s = record {
  state = s.state;
  accesses = ran.accesses ++ map (made_after ran.fences) (accesses_of p (length ran.accesses) s.act);
  fences = fences_after s.act ran.fences;
  output = ran.output ++ output_of s.act;
}

-- One step more, with the next of the loaded values. A processor that has ended makes none, and a step that
-- reads memory needs a value.
abbrev pub advanced : ImageView → ℕ → List ℕ → Ran → Option Ran
advanced image p values ran =
    let value = slice_get values (length ran.accesses) in
    let s = step image ran.state (unwrap_or value 0) in
    if is_running ran.state.end && not (uses_value s.act && is_none value) then Some (after p ran s) else None

-- k steps of processor p of n. Access i, where it loads, takes value i.
abbrev pub run : ImageView → ℕ → ℕ → ℕ → List ℕ → Option Ran
run image p n zero values = Some (record { state = boot image p n; accesses = []; fences = no_fences; output = [] })
run image p n (suc k) values = option_and_then (advanced image p values) (run image p n k values)
