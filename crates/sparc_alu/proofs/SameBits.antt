-- Condition codes of results that agree in the low bits.
use Rattle.std.specs.Prelude.{◌≡◌, ℕ, ◌+◌, ◌-◌, ◌^◌, ◌<◌, Bool, not, ℤ}
use Rattle.std.proofs.Common.{arith, refl, ap}
use Rattle.sparc_alu.specs.Codes.{of_result}
use Rattle.sparc_alu.specs.Numbers.{low, is_signed}
use Rattle.sparc_alu.specs.Results.{sum, difference}

pub of_result_same : (width n m : ℕ) (v w c d : Bool) → low width n ≡ low width m → v ≡ w → c ≡ d
    → of_result width n v c ≡ of_result width m w d
of_result_same width n m v w c d e f g = rw (e, f, g) refl

pub low_32_of_sum : (a b carry : ℕ) → low 32 (sum a b carry) ≡ low 32 (a + b + carry)
low_32_of_sum a b carry = omega arith

pub low_64_of_sum : (a b carry : ℕ) → low 64 (sum a b carry) ≡ low 64 (a + b + carry)
low_64_of_sum a b carry = omega arith

pub low_32_of_difference : (a b borrow : ℕ) → a < 2 ^ 64 → b < 2 ^ 64 → borrow < 2
    → low 32 (difference a b borrow) ≡ low 32 (low 32 a + 2 ^ 32 + 2 ^ 32 - low 32 b - borrow)
low_32_of_difference a b borrow p q r = omega arith

pub low_64_of_difference : (a b borrow : ℕ) → a < 2 ^ 64 → b < 2 ^ 64 → borrow < 2
    → low 64 (difference a b borrow) ≡ low 64 (low 64 a + 2 ^ 64 + 2 ^ 64 - low 64 b - borrow)
low_64_of_difference a b borrow p q r = omega arith

pub overflow_same : (width : ℕ) (x y : ℤ) → x ≡ y → not (is_signed width x) ≡ not (is_signed width y)
overflow_same width x y e = ap (λ z. not (is_signed width z)) e
