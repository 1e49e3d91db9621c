-- Two files that a command fetches, one after the other, and what it refuses then.
use Rattle.std.specs.Prelude.{◌≡◌, ◌⊎◌, ℕ, nat_lt, IsTrue, List, [], length, Option, Some, None, unwrap_or, if◌then◌else◌, Bool, IfSome, Result, Err}
use Rattle.std.specs.FinMap.{get}
use Rattle.std.specs.Option.{option_or}
use Rattle.rsim_io.specs.Faults.{Rose}
use Rattle.rsim_top.specs.declared.refusal.File.{File}
use Rattle.rsim_top.specs.declared.refusal.Refusal.{Refusal}
use Rattle.rsim_top.specs.declared.refusal.Refusal.TheVariants as refusal
use Rattle.rsim_top.specs.Outside.{Outside, Shelf, IsUntouched}

pub record TwoFiles : Type 0 where
  pub first : File
  pub first_name : List ℕ
  pub first_limit : ℕ
  pub second : File
  pub second_name : List ℕ
  pub second_limit : ℕ
  -- what is refused of the bytes of both
  pub refuses : List ℕ → List ℕ → Option Refusal

-- ---- fetching

-- What a fetch came to: the file's bytes, or nothing where it failed. It fails only where the shelf's count of faults rose,
-- and on a sure shelf only for a name that is not held.
abbrev pub IsFetched : Shelf → Shelf → List ℕ → Option (List ℕ) → Type 0
IsFetched old new name (Some bytes) = IfSome old.files (λ files. get files name ≡ Some bytes)
IsFetched old new name None = Rose old.faults new.faults × (IsTrue old.is_sure → IfSome old.files (λ files. get files name ≡ None))

abbrev pub when : Bool → Refusal → Option Refusal
when holds why = if holds then Some why else None

-- a file that could not be read, and one that is too long
abbrev pub fetch_refusal : File → ℕ → Option (List ℕ) → Option Refusal
fetch_refusal which limit None = Some (refusal.Read which)
fetch_refusal which limit (Some bytes) = when (nat_lt limit (length bytes)) (refusal.Big which)

-- What the two fetches came to. The second file is fetched only after a first one that is not refused for its length.
pub record Fetched (old new : Outside) (f : TwoFiles) : Type 0 where
  pub one : Option (List ℕ)
  pub two : Option (List ℕ)
  pub is_one : IsFetched old.shelf new.shelf f.first_name one
  pub is_two : fetch_refusal f.first f.first_limit one ≡ None → IsFetched old.shelf new.shelf f.second_name two

-- the first refusal of what was fetched
abbrev pub first_refusal : TwoFiles → Option (List ℕ) → Option (List ℕ) → Option Refusal
first_refusal f one two =
    option_or (fetch_refusal f.first f.first_limit one)
    (option_or (fetch_refusal f.second f.second_limit two) (f.refuses (unwrap_or one []) (unwrap_or two [])))

-- ---- what is answered

module _ {A : Type 0} where
  -- Memory was short before anything was written: all is as before.
  abbrev pub LacksMemory : Outside → Outside → Result A Refusal → Type 0
  LacksMemory old new result = (result ≡ Err refusal.Memory) × IsUntouched old new

  -- The first refusal is answered, and all is as before; without one it is as `Says` has it of the bytes of both.
  abbrev pub AnswersFetched : (List ℕ → List ℕ → Result A Refusal → Type 0) → Outside → Outside → List ℕ → List ℕ → Option Refusal → Result A Refusal → Type 0
  AnswersFetched Says old new one two (Some why) result = (result ≡ Err why) × IsUntouched old new
  AnswersFetched Says old new one two None result = Says one two result

  abbrev pub AnswersFiles : (List ℕ → List ℕ → Result A Refusal → Type 0) → Outside → Outside → TwoFiles → Result A Refusal → Type 0
  AnswersFiles Says old new f result =
      LacksMemory old new result
      ⊎ ((came : Fetched old new f) × AnswersFetched Says old new (unwrap_or came.one []) (unwrap_or came.two []) (first_refusal f came.one came.two) result)
