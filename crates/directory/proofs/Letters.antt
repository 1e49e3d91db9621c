-- Requests that wait: one comes, one is taken.
use Rattle.std.proofs.Common.{◌≡◌, ℕ, ◌<◌, ◌==◌, Bool, true, false, cond, List, [], ◌∷◌, ◌++◌, slice_get, Some, sym, ap, subst, ◌∙◌, ⊎_elim}
use Rattle.std.specs.List.{remove}
use Rattle.std.proofs.lemmas.Bool.{eqb-true}
use Rattle.std.proofs.lemmas.List.Quantifiers.{position-Some}
use Rattle.std.proofs.lemmas.Option.{get_or_from_slice_get}
use Rattle.list_facts.specs.Places.{slice_get_more, slice_get-remove}
use Rattle.directory.specs.Homes.{first_for}
use Rattle.memory_contracts.specs.Letters.{Letter}
use Rattle.directory.specs.HomeParts.{AreFrom}

pub from-push_if : (n : ℕ) (letters : List Letter) (w : Letter) → AreFrom n letters → w.from < n → (waits : Bool) → AreFrom n (cond waits (letters ++ w ∷ []) letters)
from-push_if n letters w asked from false = asked
from-push_if n letters w asked from true = λ i v at.
    ⊎_elim (λ there. asked i v there) (λ new. subst (λ (v : Letter). v.from < n) (sym new.1) from) (slice_get_more letters w i v at)

pub from-remove : (n : ℕ) (letters : List Letter) (place : ℕ) → AreFrom n letters → AreFrom n (remove letters place)
from-remove n letters place asked = λ i v at. let (j, was) = slice_get-remove letters place i v at in asked j v was

-- the first letter about a line is about that line
pub first_for-line : (line : ℕ) (letters : List Letter) (place : ℕ) (w : Letter) → first_for line letters ≡ Some place → slice_get letters place ≡ Some w → w.line ≡ line
first_for-line line letters place w first at =
    let (_, passes, _) = position-Some (λ (v : Letter). v.line == line) letters place w first in
    let same = get_or_from_slice_get letters place w w at in
    eqb-true w.line line (ap (λ (v : Letter). v.line == line) (sym same) ∙ passes)
