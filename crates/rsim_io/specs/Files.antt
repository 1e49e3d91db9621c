-- What a shelf holds, and what each of its calls leaves. What a shelf holds is told only by some:
-- where it is not, the clauses on the bytes of files claim nothing.
use Rattle.std.specs.Prelude.{◌≡◌, ◌⊎◌, ℕ, ◌+◌, ◌<◌, ◌≤◌, List, [], ◌++◌, length, take, Option, Some, Result, Ok, Err, IfSome, IsSomeAnd, option_map, unwrap_or}
use Rattle.std.specs.Ordering.{nat_cmp}
use Rattle.std.specs.Cmp.Lexicographic.{slice_cmp}
use Rattle.std.specs.FinMap.{FinMap, get, insert}
use Rattle.rsim_io.specs.declared.shelf.FetchFault.{FetchFault}
use Rattle.rsim_io.specs.declared.shelf.FetchFault.TheVariants.{Failed as FetchFailed, TooLarge, Memory as FetchMemory}
use Rattle.rsim_io.specs.declared.shelf.StoreFault.{StoreFault}
use Rattle.rsim_io.specs.declared.shelf.StoreFault.TheVariants.{Failed, Memory}

-- a finite map from the names of files to their bytes
abbrev pub Files : Type 0
Files = FinMap {K = List ℕ} (slice_cmp nat_cmp) (List ℕ)

-- the bytes under a name; a name that is not held counts as an empty file
abbrev pub content_of : Files → List ℕ → List ℕ
content_of files name = unwrap_or (get files name) []

-- the files after the one under this name was made, or emptied
abbrev pub with_empty : List ℕ → Files → Files
with_empty name files = insert files name []

-- the files after these bytes were put behind the end of the one under this name
abbrev pub with_more : List ℕ → List ℕ → Files → Files
with_more name bytes files = insert files name (content_of files name ++ bytes)

-- What a fetch leaves. Ok leaves the whole file, at most `limit` bytes. TooLarge comes for a file
-- that is longer, and leaves its first `limit + 1` bytes. After another fault nothing is said.
abbrev pub Fetches : Option Files → List ℕ → ℕ → Result (Unit {0}) FetchFault → List ℕ → Type 0
Fetches holds name limit (Ok _) bytes =
    (length bytes ≤ limit) × IfSome holds (λ files. get files name ≡ Some bytes)
Fetches holds name limit (Err TooLarge) bytes =
    (length bytes ≡ limit + 1)
    × IfSome holds (λ files. IsSomeAnd (get files name) (λ file. (limit < length file) × (bytes ≡ take (limit + 1) file)))
Fetches holds name limit (Err FetchFailed) bytes = Unit {0}
Fetches holds name limit (Err FetchMemory) bytes = Unit {0}

-- What `create` leaves. Ok leaves the file empty. Where the call failed it is as before or empty,
-- and where memory was short it is as before. No other file changes.
abbrev pub Creates : Option Files → List ℕ → Result (Unit {0}) StoreFault → Option Files → Type 0
Creates old name (Ok _) new = new ≡ option_map (with_empty name) old
Creates old name (Err Failed) new = (new ≡ old) ⊎ (new ≡ option_map (with_empty name) old)
Creates old name (Err Memory) new = new ≡ old

-- What `append` leaves. Ok leaves the file with the bytes behind its old end. After a fault it has
-- grown by a prefix of the bytes, or is as before. No other file changes.
abbrev pub Appends : Option Files → List ℕ → List ℕ → Result (Unit {0}) StoreFault → Option Files → Type 0
Appends old name bytes (Ok _) new = new ≡ option_map (with_more name bytes) old
Appends old name bytes (Err _) new =
    (new ≡ old) ⊎ ((part : ℕ) × (new ≡ option_map (with_more name (take part bytes)) old))
