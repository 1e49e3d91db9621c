-- How many elements of a list pass a test.
use Rattle.std.proofs.Common.{◌≡◌, ℕ, ◌+◌, ◌<◌, ◌≤◌, ◌==◌, Bool, true, false, not, ◌&&◌, ◌||◌, cond, eqb, List, [], ◌∷◌, ◌++◌, map, filter, find, count_by, length, get_or, Option, Some, None, option_map, arith, refl, sym, ap, ◌∙◌}
use Rattle.std.proofs.lemmas.Bool.{eq-eqb}
use Rattle.std.proofs.lemmas.List.Elements.{filter_agree}
use Rattle.std.proofs.lemmas.List.Filters.{sum_by-filter_both}
use Rattle.std.proofs.lemmas.List.Sums.{sum_by-cons, sum_by-append, sum_by-le-sum_by, length-filter, get_or-le-sum_by}

-- what an element adds to a count
abbrev pub one_if : Bool → ℕ
one_if b = cond b 1 0

pub count_by-cons : {X : Type 0} (p : X → Bool) (x : X) (xs : List X) → count_by p (x ∷ xs) ≡ cond (p x) 1 0 + count_by p xs
count_by-cons p x xs = sum_by-cons (λ y. cond (p y) 1 0) x xs

pub count_by-append : {X : Type 0} (p : X → Bool) (xs ys : List X) → count_by p (xs ++ ys) ≡ count_by p xs + count_by p ys
count_by-append p xs ys = sum_by-append (λ y. cond (p y) 1 0) xs ys

cond_le : (b c : Bool) → (b ≡ true → c ≡ true) → cond b 1 0 ≤ cond c 1 0
cond_le true true h = omega arith
cond_le true false h = let absent : false ≡ true = h refl in absurd cc
cond_le false true h = omega arith
cond_le false false h = omega arith

pub cond_le_one : (b : Bool) → cond b 1 0 ≤ 1
cond_le_one true = omega arith
cond_le_one false = omega arith

pub count_by_le : {X : Type 0} (p q : X → Bool) (xs : List X) → ((x : X) → p x ≡ true → q x ≡ true) → count_by p xs ≤ count_by q xs
count_by_le p q xs h = sum_by-le-sum_by (λ x. cond (p x) 1 0) (λ x. cond (q x) 1 0) xs (λ x. cond_le (p x) (q x) (h x))

pub count_by_agree : {X : Type 0} (p q : X → Bool) (xs : List X) → ((x : X) → p x ≡ q x) → count_by p xs ≡ count_by q xs
count_by_agree p q xs h = sym (length-filter p xs) ∙ (ap length (filter_agree p q h xs) ∙ length-filter q xs)

pub count_by_never : {X : Type 0} (p : X → Bool) (xs : List X) → ((x : X) → p x ≡ false) → count_by p xs ≡ 0
count_by_never p [] h = refl
count_by_never p (x ∷ xs) h =
    let here = count_by-cons p x xs in
    let none : one_if (p x) ≡ 0 = ap one_if (h x) in
    omega (arith, here, none, count_by_never p xs h)

-- those that pass both tests are no more than those that pass the first
and_first : (a b : Bool) → (a && b) ≡ true → a ≡ true
and_first true b e = refl
and_first false b e = e

pub count_by_both_le : {X : Type 0} (p q : X → Bool) (xs : List X) → count_by (λ x. p x && q x) xs ≤ count_by p xs
count_by_both_le p q xs = count_by_le (λ x. p x && q x) p xs (λ x. and_first (p x) (q x))

-- of those that pass the first test some pass the second, and the others do not
split_at : (a b : Bool) → cond (a && b) 1 0 + cond (a && not b) 1 0 ≡ cond a 1 0
split_at true true = refl
split_at true false = refl
split_at false b = refl

pub count_by_split : {X : Type 0} (p q : X → Bool) (xs : List X) → count_by (λ x. p x && q x) xs + count_by (λ x. p x && not (q x)) xs ≡ count_by p xs
count_by_split p q [] = refl
count_by_split p q (x ∷ xs) =
    let a = count_by-cons (λ y. p y && q y) x xs in
    let b = count_by-cons (λ y. p y && not (q y)) x xs in
    let c = count_by-cons p x xs in
    omega (arith, a, b, c, split_at (p x) (q x), count_by_split p q xs)

-- those that pass either test are no more than those that pass the one and those that pass the other
either_head : (a b : Bool) → cond (a || b) 1 0 ≤ cond a 1 0 + cond b 1 0
either_head true b = omega arith
either_head false b = omega arith

pub count_by_either : {X : Type 0} (p q : X → Bool) (xs : List X) → count_by (λ x. p x || q x) xs ≤ count_by p xs + count_by q xs
count_by_either p q [] = omega arith
count_by_either p q (x ∷ xs) =
    let a = count_by-cons (λ y. p y || q y) x xs in
    let b = count_by-cons p x xs in
    let c = count_by-cons q x xs in
    omega (arith, a, b, c, either_head (p x) (q x), count_by_either p q xs)

-- ---- a list whose elements at some places are changed

changed_head : {X : Type 0} (p : X → Bool) (change : X → X) (x : X) (at : Bool) →
    cond (p (cond at (change x) x)) 1 0 + cond (at && p x) 1 0 ≡ cond (p x) 1 0 + cond (at && p (change x)) 1 0
changed_head p change x true = omega arith
changed_head p change x false = refl

pub count_by-changed : {X : Type 0} (p at : X → Bool) (change : X → X) (xs : List X) →
    count_by p (map (λ x. cond (at x) (change x) x) xs) + count_by (λ x. at x && p x) xs ≡ count_by p xs + count_by (λ x. at x && p (change x)) xs
count_by-changed p at change [] = refl
count_by-changed p at change (x ∷ xs) =
    let a = count_by-cons p (cond (at x) (change x) x) (map (λ y. cond (at y) (change y) y) xs) in
    let b = count_by-cons (λ y. at y && p y) x xs in
    let c = count_by-cons p x xs in
    let d = count_by-cons (λ y. at y && p (change y)) x xs in
    omega (arith, a, b, c, d, changed_head p change x (at x), count_by-changed p at change xs)

-- what passes a test in front of what does not
pub count_by-parted : {X : Type 0} (p q : X → Bool) (xs : List X) → count_by q (filter p xs ++ filter (λ x. not (p x)) xs) ≡ count_by q xs
count_by-parted p q xs =
    count_by-append q (filter p xs) (filter (λ x. not (p x)) xs) ∙ sum_by-filter_both p (λ x. not (p x)) (λ _. refl) (λ x. cond (q x) 1 0) xs

-- ---- what `find` tells of a count

none_parts : {X : Type 0} (b : Bool) (x : X) (rest : Option X) → cond b (Some x) rest ≡ None → (one_if b ≡ 0) × (rest ≡ None)
none_parts true x rest e = absurd cc
none_parts false x rest e = (refl, e)

pub count_by_none : {X : Type 0} (p : X → Bool) (xs : List X) → find p xs ≡ None → count_by p xs ≡ 0
count_by_none p [] e = refl
count_by_none p (x ∷ xs) e =
    let (here, later) = none_parts (p x) x (find p xs) e in
    omega (arith, count_by-cons p x xs, here, count_by_none p xs later)

-- one that `find` finds counts, also by its key
found_here : {X : Type 0} (key : X → ℕ) (b : Bool) (x : X) (rest : Option X) (k n : ℕ) →
    option_map key (cond b (Some x) rest) ≡ Some k → (option_map key rest ≡ Some k → 1 ≤ n) → 1 ≤ cond (eqb (key x) k && b) 1 0 + n
found_here key true x rest k n e later =
    let same : key x ≡ k = cc in
    let test : (eqb (key x) k && true) ≡ true = ap (λ b. b && true) (eq-eqb (key x) k same) in
    let one : one_if (eqb (key x) k && true) ≡ 1 = ap one_if test in
    omega (arith, one)
found_here key false x rest k n e later = omega (arith, later e)

pub count_by_found : {X : Type 0} (key : X → ℕ) (p : X → Bool) (xs : List X) (k : ℕ) →
    option_map key (find p xs) ≡ Some k → 1 ≤ count_by (λ x. (key x == k) && p x) xs
count_by_found key p [] k e = absurd cc
count_by_found key p (x ∷ xs) k e =
    let here = count_by-cons (λ y. (key y == k) && p y) x xs in
    omega (arith, here, found_here key (p x) x (find p xs) k (count_by (λ y. (key y == k) && p y) xs) e (count_by_found key p xs k))

-- an element counts itself
pub count_by_at : (xs : List ℕ) (i d : ℕ) → i < length xs → 1 ≤ count_by (λ x. x == get_or xs i d) xs
count_by_at xs i d h =
    let k = get_or xs i d in
    let itself : one_if (eqb k k) ≡ 1 = ap one_if (eq-eqb k k refl) in
    omega (arith, itself, get_or-le-sum_by (λ x. cond (x == k) 1 0) xs i d h)

-- where none counts, a filter keeps nothing, and its opposite all
filter_none_head : {X : Type 0} (b : Bool) (x : X) (kept left all : List X) →
    one_if b ≡ 0 → (kept ≡ []) × (left ≡ all) → (cond b (x ∷ kept) kept ≡ []) × (cond (not b) (x ∷ left) left ≡ x ∷ all)
filter_none_head true x kept left all e h = absurd (omega arith)
filter_none_head false x kept left all e h = (h.0, ap (λ ys. x ∷ ys) h.1)

pub filter_none : {X : Type 0} (p : X → Bool) (xs : List X) → count_by p xs ≡ 0 → (filter p xs ≡ []) × (filter (λ x. not (p x)) xs ≡ xs)
filter_none p [] e = (refl, refl)
filter_none p (x ∷ xs) e =
    let here = count_by-cons p x xs in
    filter_none_head (p x) x (filter p xs) (filter (λ y. not (p y)) xs) xs (omega (arith, here)) (filter_none p xs (omega (arith, here)))
