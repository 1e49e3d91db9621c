-- The last of several that passes: it is found, where there is one.
use Rattle.std.proofs.Common.{◌≡◌, ◌⊎◌, ◌<◌, ℕ, zero, suc, Bool, true, false, None, Some, refl, sym, subst, inl, inr, ⊎_elim, ◌∙◌, arith}
use Rattle.std.proofs.lemmas.Bool.{cases_lt, cases_Bool, cond-true, cond-false}
use Rattle.order_checker.specs.Firsts.{last}

-- it passes, and none above it does
pub record IsLast (test : ℕ → Bool) (n i : ℕ) : Type 0 where
  pub passes : test i ≡ true
  pub below : i < n
  pub behind : (k : ℕ) → i < k → k < n → test k ≡ false

-- none between these passes, nor does the next
none_more : (test : ℕ → Bool) (from n : ℕ) → ((k : ℕ) → from < k → k < n → test k ≡ false) → test n ≡ false → (k : ℕ) → from < k → k < suc n → test k ≡ false
none_more test from n none off k above below =
    ⊎_elim (λ lt. none k above lt) (λ ge. let e : k ≡ n = omega arith in subst (λ (m : ℕ). test m ≡ false) (sym e) off) (cases_lt k n)

pub last_cases : (test : ℕ → Bool) (n : ℕ) → ((last test n ≡ None) × ((k : ℕ) → k < n → test k ≡ false)) ⊎ ((i : ℕ) × (last test n ≡ Some i) × IsLast test n i)
last_cases test zero = inl (refl, λ k below. absurd (omega arith))
last_cases test (suc n) = ⊎_elim
    (λ yes. inr (n, cond-true (test n) (Some n) (last test n) yes, record { passes = yes; below = omega arith; behind = λ k above below. absurd (omega arith) }))
    (λ no. ⊎_elim
    (λ (none, all). inl (cond-false (test n) (Some n) (last test n) no ∙ none, λ k below. ⊎_elim (λ lt. all k lt) (λ ge. let e : k ≡ n = omega arith in subst (λ (m : ℕ). test m ≡ false) (sym e) no) (cases_lt k n)))
    (λ (i, is, at). let low = at.below in inr (i, cond-false (test n) (Some n) (last test n) no ∙ is, record { passes = at.passes; below = omega arith; behind = none_more test i n at.behind no }))
    (last_cases test n))
    (cases_Bool (test n))
