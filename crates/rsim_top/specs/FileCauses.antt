-- The causes of what a command answers of the two files that it fetches, the other way round: what is wrong is always refused,
-- with its own refusal, and where nothing is wrong nothing is refused.
use Rattle.std.specs.Prelude.{◌≡◌, ◌⊎◌, ℕ, IsTrue, List, Option, Some, None, Result, Ok, Err, IfSome, ⊤}
use Rattle.std.specs.FinMap.{get}
use Rattle.rsim_io.specs.Faults.{Rose}
use Rattle.rsim_io.specs.Files.{Files}
use Rattle.rsim_top.specs.declared.refusal.Refusal.{Refusal}
use Rattle.rsim_top.specs.declared.refusal.Refusal.TheVariants.{Read, Memory}
use Rattle.rsim_top.specs.Outside.{Outside}
use Rattle.rsim_top.specs.TwoFiles.{TwoFiles, fetch_refusal, first_refusal}

-- the shelf tells its files, and has this one under the name
pub record IsHeld (told : Option Files) (name bytes : List ℕ) : Type 0 where
  pub files : Files
  pub are_told : told ≡ Some files
  pub found : get files name ≡ Some bytes

-- the shelf tells its files, and has none under the name
pub record IsMissing (told : Option Files) (name : List ℕ) : Type 0 where
  pub files : Files
  pub are_told : told ≡ Some files
  pub missing : get files name ≡ None

-- Both files are there, and nothing is refused of them.
pub record AreReady (f : TwoFiles) (old : Outside) : Type 0 where
  pub one : List ℕ
  pub two : List ℕ
  pub has_one : IsHeld old.shelf.files f.first_name one
  pub has_two : IsHeld old.shelf.files f.second_name two
  pub accepted : first_refusal f (Some one) (Some two) ≡ None

module _ {A : Type 0} where
  -- the answer is this refusal, or memory was short
  abbrev pub IsRefused : Refusal → Result A Refusal → Type 0
  IsRefused why result = (result ≡ Err why) ⊎ (result ≡ Err Memory)

  -- nothing was refused, but memory may have been short
  abbrev pub IsDone : Result A Refusal → Type 0
  IsDone (Ok done) = ⊤
  IsDone (Err Memory) = ⊤
  IsDone (Err _) = ⊥

  -- Each cause, unless memory was short. A fetch may have failed.
  pub record AreExact (f : TwoFiles) (old : Outside) (result : Result A Refusal) : Type 0 where
    -- a first file that is not there
    pub no_first : IsMissing old.shelf.files f.first_name → IsRefused (Read f.first) result
    -- one that is too long, whatever the second is
    pub long_first : (one : List ℕ) (why : Refusal) → IsHeld old.shelf.files f.first_name one → fetch_refusal f.first f.first_limit (Some one) ≡ Some why
        → IsRefused why result ⊎ (result ≡ Err (Read f.first))
    -- a second that is not there
    pub no_second : (one : List ℕ) → IsHeld old.shelf.files f.first_name one → fetch_refusal f.first f.first_limit (Some one) ≡ None → IsMissing old.shelf.files f.second_name
        → IsRefused (Read f.second) result ⊎ (result ≡ Err (Read f.first))
    -- what is wrong with two files that are there
    pub wrong_files : (one two : List ℕ) (why : Refusal) → IsHeld old.shelf.files f.first_name one → IsHeld old.shelf.files f.second_name two → first_refusal f (Some one) (Some two) ≡ Some why
        → IsRefused why result ⊎ ((result ≡ Err (Read f.first)) ⊎ (result ≡ Err (Read f.second)))

  -- Where nothing is wrong and nothing fails, nothing is refused.
  pub record AreComplete (f : TwoFiles) (old new : Outside) (result : Result A Refusal) : Type 0 where
    -- no count of faults rose
    pub without_faults : AreReady f old → (Rose old.shelf.faults new.shelf.faults → ⊥) → (Rose old.sink.faults new.sink.faults → ⊥) → IsDone result
    -- neither the shelf nor the sink can fail
    pub where_sure : AreReady f old → IsTrue old.shelf.is_sure → IsTrue old.sink.is_sure → IsDone result
    -- a sure shelf has each file that it holds
    pub sure_first : IsTrue old.shelf.is_sure → result ≡ Err (Read f.first) → IfSome old.shelf.files (λ files. get files f.first_name ≡ None)
    pub sure_second : IsTrue old.shelf.is_sure → result ≡ Err (Read f.second) → IfSome old.shelf.files (λ files. get files f.second_name ≡ None)
