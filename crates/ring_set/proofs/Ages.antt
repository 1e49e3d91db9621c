-- The least and the greatest number below a bound that passes a test.
use Rattle.std.proofs.Common.{◌≡◌, ℕ, zero, suc, ◌<◌, Bool, true, false, ap, ◌∙◌, subst, sym, ⊎_elim, arith}
use Rattle.std.proofs.lemmas.Bool.{cond-true, cond-false, cases_eq}
use Rattle.ring_set.specs.Sets.{least, greatest}

pub least_is : (p : ℕ → Bool) (n a : ℕ) → a < n → p a ≡ true → ((i : ℕ) → i < a → p i ≡ false) → least p n ≡ a
unfolding least
least_is p zero a lt at below = absurd (omega arith)
least_is p (suc n) zero lt at below = cond-true (p zero) _ _ at
least_is p (suc n) (suc a) lt at below =
    cond-false (p zero) _ _ (below zero (omega arith))
    ∙ ap suc (least_is (λ k. p (suc k)) n a (omega arith) at (λ i h. below (suc i) (omega arith)))

pub least_none : (p : ℕ → Bool) (n : ℕ) → ((i : ℕ) → i < n → p i ≡ false) → least p n ≡ n
unfolding least
least_none p zero none = λ _. zero
least_none p (suc n) none =
    cond-false (p zero) _ _ (none zero (omega arith))
    ∙ ap suc (least_none (λ k. p (suc k)) n (λ i h. none (suc i) (omega arith)))

pub greatest_is : (p : ℕ → Bool) (n a : ℕ) → a < n → p a ≡ true → ((i : ℕ) → a < i → i < n → p i ≡ false) → greatest p n ≡ suc a
unfolding greatest
greatest_is p zero a lt at above = absurd (omega arith)
greatest_is p (suc n) a lt at above =
    ⊎_elim
    (λ (e : a ≡ n). cond-true (p n) _ _ (subst (λ (x : ℕ). p x ≡ true) e at) ∙ ap suc (sym e))
    (λ (ne : a ≡ n → ⊥). cond-false (p n) _ _ (above n (omega arith) (omega arith)) ∙ greatest_is p n a (omega arith) at (λ i h k. above i h (omega arith)))
    (cases_eq a n)

pub greatest_none : (p : ℕ → Bool) (n : ℕ) → ((i : ℕ) → i < n → p i ≡ false) → greatest p n ≡ zero
unfolding greatest
greatest_none p zero none = λ _. zero
greatest_none p (suc n) none =
    cond-false (p n) _ _ (none n (omega arith)) ∙ greatest_none p n (λ i h. none i (omega arith))
