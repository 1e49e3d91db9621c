-- The first place that passes a test, and what stands before it and behind it.
use Rattle.std.specs.Prelude.{find, position, unwrap_or}
use Rattle.std.specs.List.{list_any, position_or_len, prefix_len, slice_split}
use Rattle.std.proofs.Common.{◌≡◌, ℕ, ◌-◌, ◌<◌, Bool, true, false, cond, not, ltb, List, [], ◌∷◌, map, length, take, drop, get_or, Option, Some, None, refl, ◌∙◌, arith}
use Rattle.std.proofs.lemmas.Bool.{ltb-false, or_parts, cond-false}
use Rattle.std.proofs.lemmas.List.Quantifiers.{position-Some}
use Rattle.std.proofs.lemmas.List.Recursion.{found_at, found_nowhere, or_at, or_from_places}
use Rattle.std.proofs.lemmas.List.{length-map, length-drop}
use Rattle.std.proofs.Math.Seq.{take-length}
use Rattle.std.proofs.lemmas.List.Sums.{prefix_len-le-length, fails_before_first}
use Rattle.std.proofs.lemmas.List.Splits.{slice_split_none}

some_or : (b : Bool) (n m : ℕ) → (b ≡ false → m ≡ n) → unwrap_or (cond b (Some n) None) m ≡ n
some_or true n m h = refl
some_or false n m h = h refl

-- the first place, or the length where there is none
pub unwrap_or-position : {X : Type 0} (p : X → Bool) (xs : List X) → unwrap_or (position p xs) (length xs) ≡ position_or_len p xs
unwrap_or-position p xs =
    some_or (ltb (position_or_len p xs) (length xs)) _ _
    (λ past. let bound = prefix_len-le-length (λ x. not (p x)) xs in let above = ltb-false _ _ past in omega (arith, bound, above))

-- the same, of what `position` answered
pub first_place : {X : Type 0} (p : X → Bool) (xs : List X) (r : Option ℕ) (n : ℕ) → r ≡ position p xs → n ≡ length xs → unwrap_or r n ≡ position_or_len p xs
first_place p xs r n found length_is = rw (found, length_is) (unwrap_or-position p xs)

prefix_len-map : {X Y : Type 0} (f : X → Y) (p : Y → Bool) (xs : List X) → prefix_len p (map f xs) ≡ prefix_len (λ x. p (f x)) xs
prefix_len-map f p [] = refl
prefix_len-map f p (x ∷ xs) = rw (prefix_len-map f p xs) refl

-- the place in a list of images
pub position-map : {X Y : Type 0} (f : X → Y) (p : Y → Bool) (xs : List X) → position p (map f xs) ≡ position (λ x. p (f x)) xs
position-map f p xs = rw (prefix_len-map f (λ y. not (p y)) xs, length-map xs f) refl

-- a list without an element that passes is one part
pub slice_split-none : {X : Type 0} (p : X → Bool) (xs : List X) → position_or_len p xs ≡ length xs → slice_split p xs ≡ xs ∷ []
slice_split-none p xs e = slice_split_none p xs (λ k d below. fails_before_first p xs k d (omega arith))

-- the rest of a list, as a range up to its end
pub take-rest : {X : Type 0} (n : ℕ) (xs : List X) → take (length xs - n) (drop n xs) ≡ drop n xs
take-rest n xs = rw (← length-drop n xs) (take-length (drop n xs))

-- ---- what `position` answered

some_when : (b : Bool) (n k : ℕ) → cond b (Some n) None ≡ Some k → n ≡ k
some_when true n k e = cc
some_when false n k e = cc

none_when : (b : Bool) (n : ℕ) → cond b (Some n) None ≡ None → b ≡ false
none_when true n e = cc
none_when false n e = refl

pub position-first : {X : Type 0} (p : X → Bool) (xs : List X) (k : ℕ) → position p xs ≡ Some k → position_or_len p xs ≡ k
position-first p xs k found = some_when _ _ _ found

-- where it found none, each element fails
pub position-None : {X : Type 0} (p : X → Bool) (xs : List X) → position p xs ≡ None → (k : ℕ) (d : X) → k < length xs → p (get_or xs k d) ≡ false
position-None p xs none k d below =
    let past = ltb-false _ _ (none_when _ _ none) in fails_before_first p xs k d (omega (arith, below, past))

pub find-Some : {X : Type 0} (p : X → Bool) (xs : List X) (k : ℕ) (d : X) → position p xs ≡ Some k → find p xs ≡ Some (get_or xs k d)
find-Some p xs k d found =
    let (below, here, before) = position-Some p xs k d found in
    found_at (find p) p (λ x. Some x) None refl (λ _ _. refl) xs k d below before here

pub find-None : {X : Type 0} (p : X → Bool) (xs : List X) (d : X) → position p xs ≡ None → find p xs ≡ None
find-None p xs d none =
    found_nowhere (find p) p (λ x. Some x) None refl (λ _ _. refl) xs d (λ k below. position-None p xs none k d below)

pub list_any-Some : {X : Type 0} (p : X → Bool) (xs : List X) (k : ℕ) (d : X) → position p xs ≡ Some k → list_any p xs ≡ true
list_any-Some p xs k d found =
    let (below, here, before) = position-Some p xs k d found in or_at (list_any p) p refl (λ _ _. refl) xs k d below here

pub list_any-None : {X : Type 0} (p : X → Bool) (xs : List X) (d : X) → position p xs ≡ None → list_any p xs ≡ false
list_any-None p xs d none = or_from_places (list_any p) p refl (λ _ _. refl) xs d (λ k below. position-None p xs none k d below)

-- no element that passes is found where none passes
pub find-none : {X : Type 0} (p : X → Bool) (xs : List X) → list_any p xs ≡ false → find p xs ≡ None
find-none p [] none = refl
find-none p (x ∷ xs) none =
    let (head, tail) = or_parts (p x) (list_any p xs) none in cond-false (p x) _ _ head ∙ find-none p xs tail
