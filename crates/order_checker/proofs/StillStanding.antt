-- The accesses that still stand behind a place: the first of them that passes, and the walk by one place more.
use Rattle.std.proofs.Common.{◌≡◌, ◌<◌, ◌≤◌, ◌&&◌, nat_le, nat_lt, ℕ, zero, suc, Bool, true, false, if◌then◌else◌, List, [], ◌∷◌, ◌++◌, length, slice_index, Option, None, Some, refl, sym, ap, subst, ⊎_elim, ◌∙◌, append_assoc, arith}
use Rattle.std.specs.List.{find, take_while, list_all}
use Rattle.std.specs.Option.{option_or}
use Rattle.std.proofs.lemmas.Bool.{and_parts, and_from, cases_lt, cond-true, cond-false, lt-ltb, le-ltb, le-leb, lt-leb}
use Rattle.std.proofs.lemmas.List.Sums.{take_while-cons}
use Rattle.order_checker.specs.Firsts.{least}
use Rattle.order_checker.specs.Standing.{passing, stands_from, IsWalked}
use Rattle.order_checker.proofs.FirstOnes.{below_suc, first-same}

pub passing-same : (t u : ℕ → Bool) (n : ℕ) → ((k : ℕ) → k < n → t k ≡ u k) → passing t n ≡ passing u n
passing-same t u zero same = refl
passing-same t u (suc n) same =
    ap (λ b. if b then passing t n ++ n ∷ [] else passing t n) (same n (omega arith)) ∙ ap (λ xs. if u n then xs ++ n ∷ [] else xs) (passing-same t u n (λ k below. same k (omega arith)))

-- where i passes, those below it come before it
pub passing_split : (t : ℕ → Bool) (i n : ℕ) → t i ≡ true → i < n → (behind : List ℕ) × (passing t n ≡ passing t i ++ i ∷ behind)
passing_split t i zero passes below = absurd (omega arith)
passing_split t i (suc n) passes below = ⊎_elim (λ lt. more (t n) refl (passing_split t i n passes lt)) (λ e. ([], here e)) (below_suc i n below)
  where
    here : i ≡ n → passing t (suc n) ≡ passing t i ++ i ∷ []
    here e = subst (λ m. passing t (suc m) ≡ passing t i ++ i ∷ []) e (cond-true (t i) (passing t i ++ i ∷ []) (passing t i) passes)

    more : (b : Bool) → t n ≡ b → (behind : List ℕ) × (passing t n ≡ passing t i ++ i ∷ behind) → (behind : List ℕ) × (passing t (suc n) ≡ passing t i ++ i ∷ behind)
    more true is (behind, e) = (behind ++ n ∷ [], cond-true (t n) (passing t n ++ n ∷ []) (passing t n) is ∙ ap (λ xs. xs ++ n ∷ []) e ∙ append_assoc (passing t i) (i ∷ behind) (n ∷ []))
    more false is (behind, e) = (behind, cond-false (t n) (passing t n ++ n ∷ []) (passing t n) is ∙ e)

find-append : (u : ℕ → Bool) (xs ys : List ℕ) → find u (xs ++ ys) ≡ option_or (find u xs) (find u ys)
find-append u [] ys = refl
find-append u (x ∷ xs) ys = by_test (u x) (find-append u xs ys)
  where
    by_test : (b : Bool) → find u (xs ++ ys) ≡ option_or (find u xs) (find u ys) → (if b then Some x else find u (xs ++ ys)) ≡ option_or (if b then Some x else find u xs) (find u ys)
    by_test true rest = refl
    by_test false rest = rest

-- the first that passes of those that pass
pub find-passing : (u t : ℕ → Bool) (n : ℕ) → find u (passing t n) ≡ least (λ k. u k && t k) n
find-passing u t zero = refl
find-passing u t (suc n) = by_tests (u n) (t n) refl ∙ ap (λ o. option_or o (if u n && t n then Some n else None)) (find-passing u t n)
  where
    by_tests : (a b : Bool) → u n ≡ a → find u (if b then passing t n ++ n ∷ [] else passing t n) ≡ option_or (find u (passing t n)) (if a && b then Some n else None)
    by_tests true true is = find-append u (passing t n) (n ∷ []) ∙ ap (λ c. option_or (find u (passing t n)) (if c then Some n else None)) is
    by_tests false true is = find-append u (passing t n) (n ∷ []) ∙ ap (λ c. option_or (find u (passing t n)) (if c then Some n else None)) is
    by_tests true false is = without (find u (passing t n))
      where
        without : (o : Option ℕ) → o ≡ option_or o None
        without None = refl
        without (Some k) = refl
    by_tests false false is = without (find u (passing t n))
      where
        without : (o : Option ℕ) → o ≡ option_or o None
        without None = refl
        without (Some k) = refl

list_all-append : (p : ℕ → Bool) (xs : List ℕ) (x : ℕ) → list_all p xs ≡ true → p x ≡ true → list_all p (xs ++ x ∷ []) ≡ true
list_all-append p [] x all here = and_from (p x) true here refl
list_all-append p (y ∷ xs) x all here = let parts = and_parts (p y) (list_all p xs) all in and_from (p y) (list_all p (xs ++ x ∷ [])) parts.0 (list_all-append p xs x parts.1 here)

passing_below : (t : ℕ → Bool) (n i : ℕ) → n ≤ i → list_all (λ k. nat_lt k i) (passing t n) ≡ true
passing_below t zero i low = refl
passing_below t (suc n) i low = by_test (t n) (passing_below t n i (omega arith))
  where
    by_test : (b : Bool) → list_all (λ k. nat_lt k i) (passing t n) ≡ true → list_all (λ k. nat_lt k i) (if b then passing t n ++ n ∷ [] else passing t n) ≡ true
    by_test true all = list_all-append (λ k. nat_lt k i) (passing t n) n all (lt-ltb n i (omega arith))
    by_test false all = all

take_while_front : (p : ℕ → Bool) (xs : List ℕ) (x : ℕ) (behind : List ℕ) → list_all p xs ≡ true → p x ≡ false → take_while p (xs ++ x ∷ behind) ≡ xs
take_while_front p [] x behind all here = take_while-cons p x behind ∙ cond-false (p x) (x ∷ take_while p behind) [] here
take_while_front p (y ∷ xs) x behind all here =
    let parts = and_parts (p y) (list_all p xs) all in take_while-cons p y (xs ++ x ∷ behind) ∙ cond-true (p y) (y ∷ take_while p (xs ++ x ∷ behind)) [] parts.0 ∙ ap (λ ys. y ∷ ys) (take_while_front p xs x behind parts.1 here)

-- of those that pass, the ones below i, where it passes
pub take_while-passing : (t : ℕ → Bool) (i n : ℕ) → t i ≡ true → i < n → take_while (λ k. nat_lt k i) (passing t n) ≡ passing t i
take_while-passing t i n passes below =
    let parts = passing_split t i n passes below in
    ap (take_while (λ k. nat_lt k i)) parts.1 ∙ take_while_front (λ k. nat_lt k i) (passing t i) i parts.0 (passing_below t i i (omega arith)) (le-ltb i i (omega arith))

-- of the accesses below i that are left at i's own place, the first that passes is the least that stands behind it
pub first_standing : (places : List ℕ) (j i next : ℕ) (left : List ℕ) (u : ℕ → Bool) → IsWalked places j next left → i < next → slice_index places i ≡ j →
    ((k : ℕ) → k < i → slice_index places k ≡ j → ⊥) → find u (take_while (λ k. nat_lt k i) left) ≡ least (λ k. u k && nat_lt j (slice_index places k)) i
first_standing places j i next left u walked below at apart =
    ap (λ xs. find u (take_while (λ k. nat_lt k i) xs)) walked.are_left
    ∙ ap (find u) (take_while-passing (stands_from places j) i next (le-leb j (slice_index places i) (omega (arith, at))) below)
    ∙ find-passing u (stands_from places j) i
    ∙ first-same (λ k. if u k && stands_from places j k then Some k else None) (λ k. if u k && nat_lt j (slice_index places k) then Some k else None) i
    (λ k lt. ap (λ b. if u k && b then Some k else None) (strict k lt))
  where
    strict : (k : ℕ) → k < i → nat_le j (slice_index places k) ≡ nat_lt j (slice_index places k)
    strict k lt = ⊎_elim
        (λ above. le-leb j (slice_index places k) (omega arith) ∙ sym (lt-ltb j (slice_index places k) above))
        (λ low. lt-leb j (slice_index places k) (less k lt low) ∙ sym (le-ltb j (slice_index places k) low)) (cases_lt j (slice_index places k))
      where
        less : (k : ℕ) → k < i → slice_index places k ≤ j → slice_index places k < j
        less k lt low = ⊎_elim (λ strictly. strictly) (λ ge. absurd (apart k lt (omega arith))) (cases_lt (slice_index places k) j)

-- a line of another processor leaves the same
pub walked_past : (places : List ℕ) (j next : ℕ) (left : List ℕ) → IsWalked places j next left → ((k : ℕ) → k < length places → slice_index places k ≡ j → ⊥) → IsWalked places (suc j) next left
walked_past places j next left walked apart = record {
  are_left = walked.are_left ∙ passing-same (stands_from places j) (stands_from places (suc j)) next (λ k below. same k (omega (arith, walked.few)));
  others = λ i past below. let low = walked.others i past below in above i below low;
  few = walked.few;
}
  where
    above : (i : ℕ) → i < length places → j ≤ slice_index places i → suc j ≤ slice_index places i
    above i below low = ⊎_elim (λ lt. omega arith) (λ ge. absurd (apart i below (omega arith))) (cases_lt j (slice_index places i))

    same : (k : ℕ) → k < length places → stands_from places j k ≡ stands_from places (suc j) k
    same k below = ⊎_elim
        (λ lt. le-leb j (slice_index places k) (omega arith) ∙ sym (le-leb (suc j) (slice_index places k) (omega arith)))
        (λ ge. ⊎_elim (λ lt. lt-leb j (slice_index places k) lt ∙ sym (lt-leb (suc j) (slice_index places k) (omega arith))) (λ le. absurd (apart k below (omega arith))) (cases_lt (slice_index places k) j))
        (cases_lt j (slice_index places k))

-- one number more is reached
pub walked_on : (places : List ℕ) (j next : ℕ) (left : List ℕ) → IsWalked places j next left → next < length places → IsWalked places j (suc next) (left ++ next ∷ [])
walked_on places j next left walked below = record {
  are_left = ap (λ xs. xs ++ next ∷ []) walked.are_left ∙ sym (cond-true _ _ _ (le-leb j (slice_index places next) (walked.others next (omega arith) below)));
  others = λ i past within. walked.others i (omega arith) within;
  few = omega arith;
}
