-- Each condition has an opposite.
use Rattle.std.specs.Prelude.{◌≡◌, ℕ, zero, suc, ◌+◌, ◌<◌, not, ℤ, pos, negsuc, int_lt, int_le}
use Rattle.std.proofs.Common.{arith, refl}
use Rattle.std.proofs.lemmas.Bool.Decides.{nat_tests}
use Rattle.sparc_alu.specs.Conditions.{holds, holds_of_register}
use Rattle.sparc_alu.specs.Numbers.{signed}

pub codes_opposite : (cond bits : ℕ) → cond < 8 → holds (cond + 8) bits ≡ not (holds cond bits)
codes_opposite zero bits h = refl
codes_opposite (suc zero) bits h = refl
codes_opposite (suc (suc zero)) bits h = refl
codes_opposite (suc (suc (suc zero))) bits h = refl
codes_opposite (suc (suc (suc (suc zero)))) bits h = refl
codes_opposite (suc (suc (suc (suc (suc zero))))) bits h = refl
codes_opposite (suc (suc (suc (suc (suc (suc zero)))))) bits h = refl
codes_opposite (suc (suc (suc (suc (suc (suc (suc zero))))))) bits h = refl
codes_opposite (suc (suc (suc (suc (suc (suc (suc (suc n)))))))) bits h = absurd (omega arith)

above_zero : (z : ℤ) → int_lt (pos 0) z ≡ not (int_le z (pos 0))
above_zero (pos n) = grind (arith, nat_tests)
above_zero (negsuc n) = refl

not_below_zero : (z : ℤ) → int_le (pos 0) z ≡ not (int_lt z (pos 0))
not_below_zero (pos n) = grind (arith, nat_tests)
not_below_zero (negsuc n) = refl

pub register_opposite : (rcond a : ℕ) → 0 < rcond → rcond < 4 → holds_of_register (rcond + 4) a ≡ not (holds_of_register rcond a)
register_opposite zero a low high = absurd (omega arith)
register_opposite (suc zero) a low high = refl
register_opposite (suc (suc zero)) a low high = above_zero (signed 64 a)
register_opposite (suc (suc (suc zero))) a low high = not_below_zero (signed 64 a)
register_opposite (suc (suc (suc (suc n)))) a low high = absurd (omega arith)
