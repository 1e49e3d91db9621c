-- What is known of the first and the last of several.
use Rattle.std.proofs.Common.{◌≡◌, ◌⊎◌, ◌<◌, ℕ, zero, suc, Bool, true, false, if◌then◌else◌, Option, None, Some, option_map, refl, sym, ap, subst, inl, inr, ⊎_elim, ◌∙◌, arith}
use Rattle.std.specs.Option.{option_or}
use Rattle.std.proofs.lemmas.Bool.{cases_lt, cases_Bool, cond-true, cond-false}
use Rattle.order_checker.specs.Firsts.{first, least, last}
use Rattle.order_checker.specs.Lasts.{IsLast}

pub below_suc : (k n : ℕ) → k < suc n → (k < n) ⊎ (k ≡ n)
below_suc k n below = ⊎_elim (λ lt. inl lt) (λ ge. inr (omega arith)) (cases_lt k n)

pub option_or_none : {A : Type 0} (a b : Option A) → option_or a b ≡ None → (a ≡ None) × (b ≡ None)
option_or_none None b e = (refl, e)
option_or_none (Some x) b e = absurd cc

-- what a loop finds at k after nothing before
pub first_found : {A : Type 0} (f : ℕ → Option A) (k n : ℕ) (x : A) → first f k ≡ None → f k ≡ Some x → k < n → first f n ≡ Some x
first_found f k zero x none is below = absurd (omega arith)
first_found f k (suc n) x none is below =
    ⊎_elim (λ lt. ap (λ o. option_or o (f n)) (first_found f k n x none is lt))
    (λ e. ap (λ o. option_or o (f n)) (subst (λ (m : ℕ). first f m ≡ None) e none) ∙ subst (λ (m : ℕ). f m ≡ Some x) e is) (below_suc k n below)

pub first_none-at : {A : Type 0} (f : ℕ → Option A) (n k : ℕ) → first f n ≡ None → k < n → f k ≡ None
first_none-at f zero k none below = absurd (omega arith)
first_none-at f (suc n) k none below =
    let parts = option_or_none (first f n) (f n) none in
    ⊎_elim (λ lt. first_none-at f n k parts.0 lt) (λ e. subst (λ (m : ℕ). f m ≡ None) (sym e) parts.1) (below_suc k n below)

pub first_none-more : {A : Type 0} (f : ℕ → Option A) (n : ℕ) → first f n ≡ None → f n ≡ None → first f (suc n) ≡ None
first_none-more f n none here = ap (λ o. option_or o (f n)) none ∙ here

pub first_none-from : {A : Type 0} (f : ℕ → Option A) (n : ℕ) → ((k : ℕ) → k < n → f k ≡ None) → first f n ≡ None
first_none-from f zero all = refl
first_none-from f (suc n) all = first_none-more f n (first_none-from f n (λ k below. all k (omega arith))) (all n (omega arith))

pub first-same : {A : Type 0} (f g : ℕ → Option A) (n : ℕ) → ((k : ℕ) → k < n → f k ≡ g k) → first f n ≡ first g n
first-same f g zero same = refl
first-same f g (suc n) same = ap (λ o. option_or o (f n)) (first-same f g n (λ k below. same k (omega arith))) ∙ ap (option_or (first g n)) (same n (omega arith))

-- a first one of these, by the least that passes
pub first-least : {A : Type 0} (g : ℕ → A) (test : ℕ → Bool) (n : ℕ) → first (λ k. if test k then Some (g k) else None) n ≡ option_map g (least test n)
first-least g test zero = refl
first-least g test (suc n) = ap (λ o. option_or o (if test n then Some (g n) else None)) (first-least g test n) ∙ joined (least test n) (test n)
  where
    joined : (o : Option ℕ) (b : Bool) → option_or (option_map g o) (if b then Some (g n) else None) ≡ option_map g (option_or o (if b then Some n else None))
    joined None true = refl
    joined None false = refl
    joined (Some k) b = refl

pub least_is : (test : ℕ → Bool) (i n : ℕ) → test i ≡ true → i < n → ((k : ℕ) → k < i → test k ≡ false) → least test n ≡ Some i
least_is test i n is below before = first_found (λ k. if test k then Some k else None) i n i
    (first_none-from (λ k. if test k then Some k else None) i (λ k lt. cond-false (test k) (Some k) None (before k lt))) (cond-true (test i) (Some i) None is) below

pub least_none : (test : ℕ → Bool) (n : ℕ) → ((k : ℕ) → k < n → test k ≡ false) → least test n ≡ None
least_none test n none = first_none-from (λ k. if test k then Some k else None) n (λ k lt. cond-false (test k) (Some k) None (none k lt))

-- where there is none, none passes
pub least_none-at : (test : ℕ → Bool) (n k : ℕ) → least test n ≡ None → k < n → test k ≡ false
least_none-at test n k none below = ⊎_elim (λ yes. absurd (some_none (sym (cond-true (test k) (Some k) None yes) ∙ first_none-at (λ i. if test i then Some i else None) n k none below))) (λ no. no) (cases_Bool (test k))
  where
    some_none : Some k ≡ None → ⊥
    some_none e = absurd cc

-- the least one passes, and none below it
pub record IsLeast (test : ℕ → Bool) (n i : ℕ) : Type 0 where
  pub passes : test i ≡ true
  pub below : i < n
  pub before : (k : ℕ) → k < i → test k ≡ false

pub least_cases : (test : ℕ → Bool) (n : ℕ) → (least test n ≡ None) ⊎ ((i : ℕ) × (least test n ≡ Some i) × IsLeast test n i)
least_cases test zero = inl refl
least_cases test (suc n) = ⊎_elim here (λ (i, is, at). inr (i, ap (λ o. option_or o (if test n then Some n else None)) is, record { passes = at.passes; below = lower i at.below; before = at.before })) (least_cases test n)
  where
    lower : (i : ℕ) → i < n → i < suc n
    lower i lt = omega arith

    here : least test n ≡ None → (least test (suc n) ≡ None) ⊎ ((i : ℕ) × (least test (suc n) ≡ Some i) × IsLeast test (suc n) i)
    here none = ⊎_elim
        (λ yes. inr (n, ap (λ o. option_or o (if test n then Some n else None)) none ∙ cond-true (test n) (Some n) None yes, record { passes = yes; below = omega arith; before = λ k lt. least_none-at test n k none lt }))
        (λ no. inl (ap (λ o. option_or o (if test n then Some n else None)) none ∙ cond-false (test n) (Some n) None no)) (cases_Bool (test n))

pub least_at : (test : ℕ → Bool) (n i : ℕ) → least test n ≡ Some i → IsLeast test n i
least_at test n i is = ⊎_elim (λ none. absurd (differ (sym none ∙ is))) (λ (j, found, at). subst (IsLeast test n) (same j (sym found ∙ is)) at) (least_cases test n)
  where
    differ : None ≡ Some i → ⊥
    differ e = absurd cc

    same : (j : ℕ) → Some j ≡ Some i → j ≡ i
    same j e = cc

pub last_is : (test : ℕ → Bool) (n i : ℕ) → IsLast test n i → last test n ≡ Some i
last_is test zero i at = absurd (omega (arith, at.below))
last_is test (suc n) i at = ⊎_elim
    (λ lt. cond-false (test n) (Some n) (last test n) (at.behind n lt (omega arith)) ∙ last_is test n i (record { passes = at.passes; below = lt; behind = λ k above below. at.behind k above (omega arith) }))
    (λ e. subst (λ (m : ℕ). last test (suc n) ≡ Some m) (sym e) (cond-true (test n) (Some n) (last test n) (subst (λ (m : ℕ). test m ≡ true) e at.passes))) (below_suc i n at.below)

pub last_none : (test : ℕ → Bool) (n : ℕ) → ((k : ℕ) → k < n → test k ≡ false) → last test n ≡ None
last_none test zero all = refl
last_none test (suc n) all = cond-false (test n) (Some n) (last test n) (all n (omega arith)) ∙ last_none test n (λ k below. all k (omega arith))
