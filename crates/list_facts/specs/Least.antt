-- The least and the greatest number that passes a test.
use Rattle.std.proofs.Common.{◌≡◌, ℕ, ◌+◌, ◌-◌, ◌<◌, ◌≤◌, Bool, true, false, Option, Some, None, ap, ⊎_elim, ◌∙◌, arith}
use Rattle.std.proofs.lemmas.Bool.{cases_lt}

-- the least from `from` on that passes, of those below n; none where none does
abbrev pub IsLeast : ℕ → (ℕ → Bool) → ℕ → Option ℕ → Type 0
IsLeast from p n None = (k : ℕ) → from ≤ k → k < n → p k ≡ false
IsLeast from p n (Some k) = (from ≤ k) × (k < n) × (p k ≡ true) × ((j : ℕ) → from ≤ j → j < k → p j ≡ false)

-- the greatest that passes, of those below n; none where none does
abbrev pub IsGreatest : (ℕ → Bool) → ℕ → Option ℕ → Type 0
IsGreatest p n None = (k : ℕ) → k < n → p k ≡ false
IsGreatest p n (Some k) = (k < n) × (p k ≡ true) × ((j : ℕ) → k < j → j < n → p j ≡ false)

-- none passes up to the next, where none does before it, and it does not
pub none_up_to : (from : ℕ) (p : ℕ → Bool) (k : ℕ) → ((j : ℕ) → from ≤ j → j < k → p j ≡ false) → p k ≡ false → (j : ℕ) → from ≤ j → j < k + 1 → p j ≡ false
none_up_to from p k none other j behind below =
    ⊎_elim (λ (before : j < k). none j behind before)
    (λ (past : k ≤ j). let here : j ≡ k = omega (arith, past, below) in ap p here ∙ other)
    (cases_lt j k)

-- none passes from the one before on, where none does behind it, and it does not
pub none_down_to : (n : ℕ) (p : ℕ → Bool) (k : ℕ) → 0 < k → ((j : ℕ) → k ≤ j → j < n → p j ≡ false) → p (k - 1) ≡ false → (j : ℕ) → k - 1 ≤ j → j < n → p j ≡ false
none_down_to n p k some none other j behind below =
    ⊎_elim (λ (before : j < k). let here : j ≡ k - 1 = omega (arith, before, behind, some) in ap p here ∙ other)
    (λ (past : k ≤ j). none j past below)
    (cases_lt j k)
