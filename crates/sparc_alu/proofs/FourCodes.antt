-- Four codes as one number, and each of them read from it.
use Rattle.std.specs.Prelude.{◌≡◌, ℕ, ◌+◌, ◌*◌, ◌/◌, ◌%◌, ◌<◌, ◌≤◌, ◌==◌, Bool, true, false, not}
use Rattle.std.specs.Int.{from_bool}
use Rattle.std.proofs.Common.{arith, refl, ◌∙◌, ap}
use mathlib.Core.Bool.{beq, xor}
use Rattle.sparc_alu.specs.Codes.{codes, negative, zero, overflow, carry, icc, xcc}

at_most_1 : (b : Bool) → from_bool b ≤ 1
at_most_1 true = omega arith
at_most_1 false = omega arith

is_set : (b : Bool) → (from_bool b == 1) ≡ b
is_set true = refl
is_set false = refl

-- a bit that is a code's is that code
bit_is : (bit : ℕ) (code : Bool) → bit ≡ from_bool code → (bit == 1) ≡ code
bit_is bit code e = ap (λ n. n == 1) e ∙ is_set code

pub negative_of : (n z v c : Bool) → negative (codes n z v c) ≡ n
negative_of n z v c = bit_is (codes n z v c / 8 % 2) n (omega (arith, at_most_1))

pub zero_of : (n z v c : Bool) → zero (codes n z v c) ≡ z
zero_of n z v c = bit_is (codes n z v c / 4 % 2) z (omega (arith, at_most_1))

pub overflow_of : (n z v c : Bool) → overflow (codes n z v c) ≡ v
overflow_of n z v c = bit_is (codes n z v c / 2 % 2) v (omega (arith, at_most_1))

pub carry_of : (n z v c : Bool) → carry (codes n z v c) ≡ c
carry_of n z v c = bit_is (codes n z v c % 2) c (omega (arith, at_most_1))

pub codes_below_16 : (n z v c : Bool) → codes n z v c < 16
codes_below_16 n z v c = omega (arith, at_most_1)

-- the register's two halves

pub icc_of : (high low : ℕ) → low < 16 → icc (16 * high + low) ≡ low
icc_of high low h = omega arith

pub xcc_of : (high low : ℕ) → high < 16 → low < 16 → xcc (16 * high + low) ≡ high
xcc_of high low g h = omega arith

-- N differs from V

differ_by_cases : (p q : Bool) → not (beq p q) ≡ xor p q
unfolding xor
differ_by_cases true true = refl
differ_by_cases true false = refl
differ_by_cases false true = refl
differ_by_cases false false = refl

pub differ : (n v p q : Bool) → n ≡ p → v ≡ q → not (beq n v) ≡ xor p q
differ n v p q e f = rw (e, f) (differ_by_cases p q)
