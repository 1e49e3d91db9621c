-- What a fetch came to, from what the shelf answered.
use Rattle.std.proofs.Common.{◌≡◌, ℕ, ◌+◌, ◌<◌, ◌≤◌, List, length, take, Option, Some, None, IfSome, IsSomeAnd, refl, arith}
use Rattle.std.proofs.lemmas.Bool.{le-ltb, lt-ltb}
use Rattle.std.specs.FinMap.{get}
use Rattle.rsim_io.specs.Files.{Files}
use Rattle.rsim_top.specs.declared.refusal.File.{File}
use Rattle.rsim_top.specs.declared.refusal.Refusal.TheVariants.{Big}
use Rattle.rsim_top.specs.TwoFiles.{fetch_refusal}

-- a file that is longer than the limit, where the files are told, and else some file that is
pub long_file : (told : Option Files) (name : List ℕ) (bytes : List ℕ) (limit : ℕ) → length bytes ≡ limit + 1 →
    IfSome told (λ files. IsSomeAnd (get files name) (λ whole. (limit < length whole) × (bytes ≡ take (limit + 1) whole))) →
    (whole : List ℕ) × IfSome told (λ files. get files name ≡ Some whole) × (limit < length whole)
long_file None name bytes limit size is = (bytes, tt, omega arith)
long_file (Some files) name bytes limit size is = of_found (get files name) refl is
  where
    of_found : (found : Option (List ℕ)) → get files name ≡ found → IsSomeAnd found (λ whole. (limit < length whole) × (bytes ≡ take (limit + 1) whole)) →
        (whole : List ℕ) × (get files name ≡ Some whole) × (limit < length whole)
    of_found (Some whole) at found = (whole, at, found.0)
    of_found None at found = absurd found

pub fetch_refusal-long : (which : File) (limit : ℕ) (bytes : List ℕ) → limit < length bytes → fetch_refusal which limit (Some bytes) ≡ Some (Big which)
fetch_refusal-long which limit bytes long = rw (lt-ltb limit (length bytes) long) refl

pub fetch_refusal-short : (which : File) (limit : ℕ) (bytes : List ℕ) → length bytes ≤ limit → fetch_refusal which limit (Some bytes) ≡ None
fetch_refusal-short which limit bytes short = rw (le-ltb limit (length bytes) short) refl
