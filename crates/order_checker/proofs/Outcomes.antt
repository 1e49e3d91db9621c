-- The fault of one part of several is the fault of all, where those before it have none.
use Rattle.std.proofs.Common.{◌≡◌, ◌<◌, ℕ, Option, None, inl, inr}
use Rattle.order_checker.specs.declared.verdict.Rejected.{Rejected}
use Rattle.order_checker.specs.Firsts.{first}
use Rattle.order_checker.specs.Outcomes.{IsFault}
use Rattle.order_checker.proofs.FirstOnes.{first_found}

pub IsFault-first : (f : ℕ → Option Rejected) (k n : ℕ) (r : Rejected) → IsFault (f k) r → first f k ≡ None → k < n → IsFault (first f n) r
IsFault-first f k n r (inl out) none below = inl out
IsFault-first f k n r (inr is) none below = inr (first_found f k n r none is below)
