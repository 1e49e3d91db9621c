-- Steps from one number that passes a test to the next, and back.
use Rattle.std.specs.Prelude.{◌≡◌, ℕ, suc, ◌<◌, ◌≤◌, Bool, true, false}

-- the least from `from` on that passes, of those below n, or n
pub record IsNext (p : ℕ → Bool) (from n k : ℕ) : Type 0 where
  pub within : k ≤ n
  pub behind : from ≤ n → from ≤ k
  pub there : k < n → p k ≡ true
  pub before : (j : ℕ) → from ≤ j → j < k → p j ≡ false

-- the greatest below n that passes, and one more, or zero
pub record IsPrevious (p : ℕ → Bool) (n k : ℕ) : Type 0 where
  pub within : k ≤ n
  pub there : (j : ℕ) → k ≡ suc j → p j ≡ true
  pub behind : (j : ℕ) → k ≤ j → j < n → p j ≡ false
