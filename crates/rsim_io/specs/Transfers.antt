-- What reads and writes do to the bytes of a reader and a writer that tell them.
use Rattle.std.specs.Prelude.{◌≡◌, ℕ, ◌+◌, ◌<◌, List, ◌++◌, length, take, Option, Result, Ok, Err, IfSome}
use Rattle.std.specs.Io.KnownBytes.{Consumes, IsAtEnd, Appends}
use Rattle.rsim_io.specs.declared.shelf.FetchFault.{FetchFault}
use Rattle.rsim_io.specs.declared.shelf.FetchFault.TheVariants.{Failed, TooLarge, Memory}
use Rattle.rsim_io.specs.declared.shelf.StoreFault.{StoreFault}

-- Ok has all the bytes of the reader, and TooLarge the first `limit + 1` of more than that many.
abbrev pub ReadsUpTo : Option (List ℕ) → ℕ → Result (Unit {0}) FetchFault → List ℕ → Type 0
ReadsUpTo rest limit (Ok _) bytes = IfSome rest (λ all. bytes ≡ all)
ReadsUpTo rest limit (Err TooLarge) bytes =
    IfSome rest (λ all. (limit < length all) × (bytes ≡ take (limit + 1) all))
ReadsUpTo rest limit (Err Failed) bytes = Unit {0}
ReadsUpTo rest limit (Err Memory) bytes = Unit {0}

-- One read took these bytes from the reader, and put them behind the old ones.
pub record ReadsMore (before after : Option (List ℕ)) (count : ℕ) (old new : List ℕ) : Type 0 where
  pub came : List ℕ
  pub grown : new ≡ old ++ came
  pub counted : length came ≡ count
  pub consumed : Consumes before after came
  pub at_end : count ≡ 0 → IsAtEnd after

-- Ok has put all the bytes behind those of the writer, and a fault a prefix of them.
abbrev pub WritesWhole : Option (List ℕ) → List ℕ → Result (Unit {0}) StoreFault → Option (List ℕ) → Type 0
WritesWhole before bytes (Ok _) after = Appends before after bytes
WritesWhole before bytes (Err _) after = (part : ℕ) × Appends before after (take part bytes)
