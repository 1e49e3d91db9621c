-- The outside as a command meets it: what can be seen of the files and of what was written, and what a command leaves.
use Rattle.std.specs.Prelude.{◌≡◌, ◌⊎◌, ℕ, Bool, IsTrue, List, ◌++◌, Option, option_map}
use Rattle.std.specs.FinMap.{insert}
use Rattle.rsim_io.specs.Faults.{Rose}
use Rattle.rsim_io.specs.Files.{Files}
use Rattle.rsim_io.specs.Written.{and_then}

-- ---- what is seen

-- a shelf: its files, where it tells them; how many of its calls have failed; and whether it is sure, so that it keeps what
-- it is given and has what it holds
pub record Shelf : Type 0 where
  pub files : Option Files
  pub faults : ℕ
  pub is_sure : Bool

-- a sink: what was written, where it tells that; how many of its calls have failed; and whether none ever fails
pub record Sink : Type 0 where
  pub written : Option (List ℕ)
  pub faults : ℕ
  pub is_sure : Bool

pub record Outside : Type 0 where
  pub shelf : Shelf
  pub sink : Sink

-- a shelf and a sink by what they mean
abbrev pub shelf_of : {S : Type 0} → (S → Option Files) → (S → ℕ) → (S → Bool) → S → Shelf
shelf_of holds faults sure s = record { files = holds s; faults = faults s; is_sure = sure s }

abbrev pub sink_of : {K : Type 0} → (K → Option (List ℕ)) → (K → ℕ) → (K → Bool) → K → Sink
sink_of written faults sure k = record { written = written k; faults = faults k; is_sure = sure k }

abbrev pub outside : Shelf → Sink → Outside
outside shelf sink = record { shelf = shelf; sink = sink }

-- ---- what a command leaves

-- the files and what was written are as before
pub record IsUntouched (old new : Outside) : Type 0 where
  pub files : new.shelf.files ≡ old.shelf.files
  pub written : new.sink.written ≡ old.sink.written

-- the file of this name has these bytes, and every other one is as before
abbrev pub HasFile : List ℕ → List ℕ → Option Files → Option Files → Type 0
HasFile name bytes old new = new ≡ option_map (λ files. insert files name bytes) old

-- a prefix of these bytes
abbrev pub IsPrefix : List ℕ → List ℕ → Type 0
IsPrefix part bytes = (rest : List ℕ) × (bytes ≡ part ++ rest)

-- the file has a prefix of these bytes or is as before, and every other one is as before
abbrev pub HasPrefixOfFile : List ℕ → List ℕ → Option Files → Option Files → Type 0
HasPrefixOfFile name bytes old new = (new ≡ old) ⊎ ((part : List ℕ) × IsPrefix part bytes × HasFile name part old new)

-- these bytes were written behind the old ones
abbrev pub HasWritten : List ℕ → Option (List ℕ) → Option (List ℕ) → Type 0
HasWritten bytes old new = new ≡ option_map (and_then bytes) old

-- a prefix of these bytes was
abbrev pub HasPrefixWritten : List ℕ → Option (List ℕ) → Option (List ℕ) → Type 0
HasPrefixWritten bytes old new = (part : List ℕ) × IsPrefix part bytes × HasWritten part old new

-- ---- failures

-- a call that writes may have failed: the count of faults rose, and no promise was given that none fails
abbrev pub MayFail : Bool → ℕ → ℕ → Type 0
MayFail is_sure before now = Rose before now × (IsTrue is_sure → ⊥)
