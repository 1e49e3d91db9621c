-- What the least and the greatest number that passes tell of the test.
use Rattle.std.proofs.Common.{◌≡◌, ℕ, zero, suc, ◌<◌, ◌≤◌, Bool, true, false, cond, refl, ap, ⊎_elim, ◌∙◌, sym, arith}
use Rattle.std.proofs.lemmas.Bool.{cases_lt}
use Rattle.ring_set.specs.Sets.{greatest, least}

-- a is the least number below n that passes, or there is none and a is n
pub record TellsLeast (p : ℕ → Bool) (n a : ℕ) : Type 0 where
  pub within : a ≤ n
  pub there : a < n → p a ≡ true
  pub before : (k : ℕ) → k < a → p k ≡ false

before_suc : (p : ℕ → Bool) (a : ℕ) → p zero ≡ false → ((k : ℕ) → k < a → p (suc k) ≡ false) → (k : ℕ) → k < suc a → p k ≡ false
before_suc p a is rest zero lt = is
before_suc p a is rest (suc k) lt = rest k (omega arith)

least-suc : (p : ℕ → Bool) (n a : ℕ) (b : Bool) → p zero ≡ b → TellsLeast (λ k. p (suc k)) n a → TellsLeast p (suc n) (cond b zero (suc a))
least-suc p n a true is rest = record { within = omega arith; there = λ _. is; before = λ k lt. absurd (omega arith) }
least-suc p n a false is rest = record {
  within = omega (arith, rest.within);
  there = λ lt. rest.there (omega arith);
  before = before_suc p a is rest.before;
}

pub tells-least : (p : ℕ → Bool) (n : ℕ) → TellsLeast p n (least p n)
unfolding least
tells-least p zero = record { within = omega arith; there = λ lt. absurd (omega arith); before = λ k lt. absurd (omega arith) }
tells-least p (suc n) = least-suc p n (least (λ k. p (suc k)) n) (p zero) refl (tells-least (λ k. p (suc k)) n)

-- a is one more than the greatest number below n that passes, or there is none and a is zero
pub record TellsGreatest (p : ℕ → Bool) (n a : ℕ) : Type 0 where
  pub within : a ≤ n
  pub there : (k : ℕ) → a ≡ suc k → p k ≡ true
  pub behind : (k : ℕ) → a ≤ k → k < n → p k ≡ false

greatest-suc : (p : ℕ → Bool) (n a : ℕ) (b : Bool) → p n ≡ b → TellsGreatest p n a → TellsGreatest p (suc n) (cond b (suc n) a)
greatest-suc p n a true is rest = record {
  within = omega arith;
  there = λ k e. let here : k ≡ n = omega (arith, e) in ap p here ∙ is;
  behind = λ k past lt. absurd (omega arith);
}
greatest-suc p n a false is rest = record {
  within = omega (arith, rest.within);
  there = rest.there;
  behind = λ k past lt. ⊎_elim (λ (below : k < n). rest.behind k past below) (λ (last : n ≤ k). let here : k ≡ n = omega arith in ap p here ∙ is) (cases_lt k n);
}

pub tells-greatest : (p : ℕ → Bool) (n : ℕ) → TellsGreatest p n (greatest p n)
unfolding greatest
tells-greatest p zero = record { within = omega arith; there = λ k e. absurd (omega (arith, e)); behind = λ k past lt. absurd (omega arith) }
tells-greatest p (suc n) = greatest-suc p n (greatest p n) (p n) refl (tells-greatest p n)
