-- A file that is written in pieces.
use Rattle.std.specs.Prelude.{◌≡◌, ℕ, List, ◌++◌, Option, Result, Ok, Err}
use Rattle.rsim_io.specs.Files.{Files}
use Rattle.rsim_io.specs.declared.shelf.StoreFault.{StoreFault}
use Rattle.rsim_top.specs.Outside.{HasFile, HasPrefixOfFile}

-- the file has so much of a text, and a piece holds what follows
pub record IsSoFar (name so_far : List ℕ) (old now : Option Files) (piece : List ℕ) : Type 0 where
  pub done : List ℕ
  pub file : HasFile name done old now
  pub follows : done ++ piece ≡ so_far

-- Behind whatever was written so far come these bytes, or the file has a prefix of all that.
abbrev pub GoesOn : List ℕ → List ℕ → Option Files → List ℕ → Option Files → List ℕ → Result (Unit {0}) StoreFault → Type 0
GoesOn name more before piece now grown (Ok _) =
    (old : Option Files) (so_far : List ℕ) → IsSoFar name so_far old before piece → IsSoFar name (so_far ++ more) old now grown
GoesOn name more before piece now grown (Err _) =
    (old : Option Files) (so_far : List ℕ) → IsSoFar name so_far old before piece → HasPrefixOfFile name (so_far ++ more) old now
