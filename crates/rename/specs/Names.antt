-- The registers of a core: what holds each architectural register, and what is free.
use Rattle.std.specs.Prelude.{◌≡◌, ℕ, ◌∷◌, List, [], slice_index, slice_set, Option, None, Result, Ok, Err}
use Rattle.rsim_base.specs.declared.processor.Renamed.{Renamed}
use Rattle.rsim_base.specs.declared.refusals.NoneFree.{NoneFree}

pub record NamesView : Type 0 where
  -- by architectural register: 0 to 7 the globals, 8 to 135 the windowed ones, 136 the condition codes, 137 Y
  pub current : List ℕ
  -- the one that has been free longest first
  pub free : List ℕ
  -- by register: nothing where it has not been written
  pub values : List (Option ℕ)

-- register r gets register x, the first free one of x and rest
abbrev pub taken : ℕ → ℕ → List ℕ → NamesView → NamesView
taken r x rest v = record { current = slice_set v.current r x; free = rest; values = slice_set v.values x None }

abbrev pub take_of : ℕ → ℕ → NamesView → Renamed
take_of r x v = record { reg = record { 0 = r }; new = record { 0 = x }; old = record { 0 = slice_index v.current r } }

-- the first free register is given; where none is free nothing changes
abbrev pub TakesOf : ℕ → NamesView → List ℕ → Result Renamed NoneFree → NamesView → Type 0
TakesOf r old [] result new = (result ≡ Err (record {})) × (new ≡ old)
TakesOf r old (x ∷ rest) result new = (result ≡ Ok (take_of r x old)) × (new ≡ taken r x rest old)

abbrev pub Takes : ℕ → NamesView → Result Renamed NoneFree → NamesView → Type 0
Takes r old result new = TakesOf r old old.free result new
