-- The accesses at the front of a list that come before another, one by one.
use Rattle.std.proofs.Common.{◌≡◌, ℕ, ◌+◌, ◌<◌, ◌≤◌, nat_lt, Bool, true, false, List, [], ◌∷◌, length, slice_index_or, Option, None, Some, drop, find, fold, sym, ap, ◌∙◌, arith}
use Rattle.std.specs.List.{take_while}
use Rattle.std.proofs.lemmas.Bool.{cond-true, cond-false}
use Rattle.std.proofs.lemmas.List.{drop_more, drop_all}
use Rattle.std.proofs.lemmas.List.Sums.{take_while-cons}

-- the one at this place passes
pub take_while-at : (p : ℕ → Bool) (xs : List ℕ) (n k : ℕ) → n < length xs → k ≡ slice_index_or xs n k → p k ≡ true → take_while p (drop n xs) ≡ k ∷ take_while p (drop (n + 1) xs)
take_while-at p xs n k within is passes =
    ap (take_while p) (drop_more xs n k within ∙ ap (λ (x : ℕ). x ∷ drop (n + 1) xs) (sym is))
    ∙ take_while-cons p k (drop (n + 1) xs) ∙ cond-true (p k) (k ∷ take_while p (drop (n + 1) xs)) [] passes

-- it does not
pub take_while-stops : (p : ℕ → Bool) (xs : List ℕ) (n k : ℕ) → n < length xs → k ≡ slice_index_or xs n k → p k ≡ false → take_while p (drop n xs) ≡ []
take_while-stops p xs n k within is fails =
    ap (take_while p) (drop_more xs n k within ∙ ap (λ (x : ℕ). x ∷ drop (n + 1) xs) (sym is))
    ∙ take_while-cons p k (drop (n + 1) xs) ∙ cond-false (p k) (k ∷ take_while p (drop (n + 1) xs)) [] fails

-- there is none
pub take_while-past : (p : ℕ → Bool) (xs : List ℕ) (n : ℕ) → length xs ≤ n → take_while p (drop n xs) ≡ []
take_while-past p xs n past = ap (take_while p) (drop_all n xs past)

-- those that come before access i, of the list from place n on
abbrev pub before : ℕ → ℕ → List ℕ → List ℕ
before i n left = take_while (λ k. nat_lt k i) (drop n left)

-- A walk over those before access i has come to place n: what is sought among the rest is what is sought among all. The
-- last place of what it has passed is `found`.
pub record IsRest (needed : ℕ → Bool) (step : Option ℕ → ℕ → Option ℕ) (i n : ℕ) (found : Option ℕ) (left : List ℕ) : Type 0 where
  pub first : find needed (before i n left) ≡ find needed (take_while (λ k. nat_lt k i) left)
  pub latest : fold step found (before i n left) ≡ fold step None (take_while (λ k. nat_lt k i) left)
  pub count : n + length (before i n left) ≡ length (take_while (λ k. nat_lt k i) left)

pub IsRest-more : (needed : ℕ → Bool) (step : Option ℕ → ℕ → Option ℕ) (i n k : ℕ) (found later : Option ℕ) (left : List ℕ) → before i n left ≡ k ∷ before i (n + 1) left → needed k ≡ false → later ≡ step found k →
    IsRest needed step i n found left → IsRest needed step i (n + 1) later left
IsRest-more needed step i n k found later left is fails next rest = record {
  first = sym (ap (find needed) is ∙ cond-false (needed k) (Some k) (find needed (before i (n + 1) left)) fails) ∙ rest.first;
  latest = ap (λ o. fold step o (before i (n + 1) left)) next ∙ sym (ap (fold step found) is) ∙ rest.latest;
  count = let len = ap length is in let was = rest.count in omega (arith, len, was);
}

-- the first that is needed
pub IsRest-needed : (needed : ℕ → Bool) (step : Option ℕ → ℕ → Option ℕ) (i n k : ℕ) (found : Option ℕ) (left : List ℕ) → before i n left ≡ k ∷ before i (n + 1) left → needed k ≡ true →
    IsRest needed step i n found left → find needed (take_while (λ k. nat_lt k i) left) ≡ Some k
IsRest-needed needed step i n k found left is passes rest = sym rest.first ∙ ap (find needed) is ∙ cond-true (needed k) (Some k) (find needed (before i (n + 1) left)) passes

-- none is left
pub IsRest-none : (needed : ℕ → Bool) (step : Option ℕ → ℕ → Option ℕ) (i n : ℕ) (found : Option ℕ) (left : List ℕ) → before i n left ≡ [] → IsRest needed step i n found left → find needed (take_while (λ k. nat_lt k i) left) ≡ None
IsRest-none needed step i n found left is rest = sym rest.first ∙ ap (find needed) is

pub IsRest-latest : (needed : ℕ → Bool) (step : Option ℕ → ℕ → Option ℕ) (i n : ℕ) (found : Option ℕ) (left : List ℕ) → before i n left ≡ [] → IsRest needed step i n found left → found ≡ fold step None (take_while (λ k. nat_lt k i) left)
IsRest-latest needed step i n found left is rest = sym (ap (fold step found) is) ∙ rest.latest

pub IsRest-count : (needed : ℕ → Bool) (step : Option ℕ → ℕ → Option ℕ) (i n : ℕ) (found : Option ℕ) (left : List ℕ) → before i n left ≡ [] → IsRest needed step i n found left → n ≡ length (take_while (λ k. nat_lt k i) left)
IsRest-count needed step i n found left is rest = let len = ap length is in let all = rest.count in omega (arith, len, all)
