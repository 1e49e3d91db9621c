-- A slot is put first by turning the front of a list that ends with it.
use Rattle.std.proofs.Common.{◌≡◌, ℕ, ◌+◌, ◌-◌, ◌<◌, ◌≤◌, ◌==◌, Bool, true, false, not, cond, nat_lt, List, [], ◌∷◌, ◌++◌, length, get_or, take, drop, filter, position, count_by, Some, None, arith, refl, sym, ap, ◌∙◌}
use Rattle.std.specs.List.{position_or_len}
use Rattle.std.proofs.lemmas.Bool.{ltb-true, ltb-false}
use Rattle.std.proofs.lemmas.List.{take-append-drop, drop_more, take_more, length-take-le, take_at, drop_at}
use Rattle.std.proofs.lemmas.List.Elements.{filter-append}
use Rattle.std.proofs.lemmas.List.Sums.{passes_at_first}
use Rattle.cache_sets.specs.Layout.{slot_first}
use Rattle.cache_sets.proofs.Counts.{one_if, count_by-cons, count_by-append, filter_none}

-- ---- what `position` tells

some_parts : (b : Bool) (n at : ℕ) → cond b (Some n) None ≡ Some at → (b ≡ true) × (n ≡ at)
some_parts true n at e = (refl, cc)
some_parts false n at e = absurd cc

-- the place that is found passes
pub passes_at_place : {X : Type 0} (p : X → Bool) (xs : List X) (at : ℕ) (d : X) → position p xs ≡ Some at → (at < length xs) × (p (get_or xs at d) ≡ true)
passes_at_place p xs at d e =
    let (test, same) = some_parts (nat_lt (position_or_len p xs) (length xs)) (position_or_len p xs) at e in
    let below = ltb-true (position_or_len p xs) (length xs) test in
    (omega (arith, below, same), ap (λ (k : ℕ). p (get_or xs k d)) (sym same) ∙ passes_at_first p xs d below)

none_fails : (b : Bool) (n : ℕ) → cond b (Some n) None ≡ None → b ≡ false
none_fails true n e = absurd cc
none_fails false n e = refl

count_of_long_head : (b : Bool) (rest more all : ℕ) → more + 1 ≤ cond (not b) (1 + rest) 0 → (more ≤ rest → all ≡ 0) → cond b 1 0 + all ≡ 0
count_of_long_head true rest more all h later = absurd (omega arith)
count_of_long_head false rest more all h later = let none : all ≡ 0 = later (omega arith) in omega arith

count_of_long : {X : Type 0} (p : X → Bool) (xs : List X) → length xs ≤ position_or_len p xs → count_by p xs ≡ 0
count_of_long p [] h = refl
count_of_long p (x ∷ xs) h =
    count_by-cons p x xs ∙ count_of_long_head (p x) (position_or_len p xs) (length xs) (count_by p xs) (omega (arith, h)) (count_of_long p xs)

pub count_by_no_place : {X : Type 0} (p : X → Bool) (xs : List X) → position p xs ≡ None → count_by p xs ≡ 0
count_by_no_place p xs e =
    count_of_long p xs (ltb-false (position_or_len p xs) (length xs) (none_fails (nat_lt (position_or_len p xs) (length xs)) (position_or_len p xs) e))

-- ---- one that passes among others that do not

parted_head : {X : Type 0} (b : Bool) (x : X) (kept left rest : List X) → b ≡ true → kept ≡ [] → left ≡ rest → (cond b (x ∷ kept) kept ≡ x ∷ []) × (cond (not b) (x ∷ left) left ≡ rest)
parted_head true x kept left rest e k l = (ap (λ xs. x ∷ xs) k, l)
parted_head false x kept left rest e k l = absurd cc

parted : {X : Type 0} (p : X → Bool) (front : List X) (x : X) (back : List X) → p x ≡ true → count_by p (front ++ x ∷ back) ≤ 1 →
    filter p (front ++ x ∷ back) ++ filter (λ y. not (p y)) (front ++ x ∷ back) ≡ x ∷ (front ++ back)
parted p front x back passes once =
    let here : one_if (p x) ≡ 1 = ap one_if passes in
    let counts = count_by-append p front (x ∷ back) in
    let tail = count_by-cons p x back in
    let (front_kept, front_left) = filter_none p front (omega (arith, here, counts, tail, once)) in
    let (back_kept, back_left) = filter_none p back (omega (arith, here, counts, tail, once)) in
    let (kept, left) = parted_head (p x) x (filter p back) (filter (λ y. not (p y)) back) back passes back_kept back_left in
    let firsts : filter p (front ++ x ∷ back) ≡ x ∷ [] = filter-append p front (x ∷ back) ∙ cc (front_kept, kept) in
    let others : filter (λ y. not (p y)) (front ++ x ∷ back) ≡ front ++ back = filter-append (λ y. not (p y)) front (x ∷ back) ∙ cc (front_left, left) in
    cc (firsts, others)

pub slot_first-turned : (slots turned : List ℕ) (slot at : ℕ) → at < length slots → (get_or slots at 0 == slot) ≡ true → count_by (λ s. s == slot) slots ≤ 1 →
    turned ≡ drop (length (take (at + 1) slots) - 1) (take (at + 1) slots) ++ take (length (take (at + 1) slots) - 1) (take (at + 1) slots) →
    turned ++ drop (at + 1) slots ≡ slot_first slot slots
slot_first-turned slots turned slot at below is once turns =
    let x = get_or slots at 0 in
    let front = take at slots in
    let back = drop (at + 1) slots in
    let whole : front ++ x ∷ back ≡ slots = ap (λ ys. front ++ ys) (sym (drop_more slots at 0 below)) ∙ take-append-drop at slots in
    let end : take (at + 1) slots ≡ front ++ x ∷ [] = take_more slots at 0 below in
    let size : length (take (at + 1) slots) ≡ at + 1 = length-take-le (at + 1) slots (omega arith) in
    let last : length (take (at + 1) slots) - 1 ≡ at = omega (arith, size) in
    let front_size : length front ≡ at = length-take-le at slots (omega arith) in
    let dropped : drop (length (take (at + 1) slots) - 1) (take (at + 1) slots) ≡ x ∷ [] =
    ap (λ (n : ℕ). drop n (take (at + 1) slots)) last ∙ (ap (drop at) end ∙ drop_at front (x ∷ []) at front_size) in
    let taken : take (length (take (at + 1) slots) - 1) (take (at + 1) slots) ≡ front =
    ap (λ (n : ℕ). take n (take (at + 1) slots)) last ∙ (ap (take at) end ∙ take_at front (x ∷ []) at front_size) in
    let counted : count_by (λ s. s == slot) (front ++ x ∷ back) ≤ 1 = omega (arith, ap (count_by (λ (s : ℕ). s == slot)) whole, once) in
    let turned_is : turned ≡ x ∷ front = turns ∙ cc (dropped, taken) in
    ap (λ ys. ys ++ back) turned_is ∙ (sym (parted (λ s. s == slot) front x back is counted) ∙ ap (slot_first slot) whole)

pub slot_first-none : (slots : List ℕ) (slot : ℕ) → count_by (λ s. s == slot) slots ≡ 0 → slots ≡ slot_first slot slots
slot_first-none slots slot none =
    let (kept, left) = filter_none (λ s. s == slot) slots none in
    sym (cc (kept, left))
