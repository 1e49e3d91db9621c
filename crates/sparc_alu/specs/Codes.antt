-- The condition codes of a result (SPARC V9, 5.1.5). The condition codes register has those of the 64-bit
-- result, xcc, in bits 7 to 4, and those of the 32-bit result, icc, in bits 3 to 0. From the high bit down
-- they are N, Z, V and C.
use Rattle.std.specs.Prelude.{ℕ, ◌+◌, ◌-◌, ◌*◌, ◌/◌, ◌%◌, ◌^◌, ◌==◌, Bool, false, not, pos, ◌+ℤ◌, ◌-ℤ◌, int_lt, nat_le, nat_lt}
use Rattle.std.specs.Int.{from_bool}
use Rattle.sparc_alu.specs.Numbers.{low, signed, is_signed}

-- negative, zero, overflow, carry
abbrev pub codes : Bool → Bool → Bool → Bool → ℕ
codes n z v c = 8 * from_bool n + 4 * from_bool z + 2 * from_bool v + from_bool c

-- N and Z of a result of so many bits, with these V and C
abbrev pub of_result : ℕ → ℕ → Bool → Bool → ℕ
of_result width value v c = codes (int_lt (signed width value) (pos 0)) (low width value == 0) v c

-- Of a + b + carry. V: the sum of the signed numbers is none of so many bits; C: that of the unsigned ones is
-- none.
abbrev pub of_sum : ℕ → ℕ → ℕ → ℕ → ℕ
of_sum width a b carry =
    of_result width (a + b + carry)
    (not (is_signed width (signed width a +ℤ signed width b +ℤ pos carry)))
    (nat_le (2 ^ width) (low width a + low width b + carry))

-- Of a - b - borrow. V: likewise; C: it borrows, since the unsigned difference is below 0.
abbrev pub of_difference : ℕ → ℕ → ℕ → ℕ → ℕ
of_difference width a b borrow =
    of_result width (low width a + 2 ^ width + 2 ^ width - low width b - borrow)
    (not (is_signed width (signed width a -ℤ signed width b -ℤ pos borrow)))
    (nat_lt (low width a) (low width b + borrow))

-- of a logical result or a product, which clear V and C
abbrev pub of_value : ℕ → ℕ → ℕ
of_value width value = of_result width value false false

-- the register, where this gives the codes of a result of so many bits
abbrev pub ccr : (ℕ → ℕ) → ℕ
ccr at_width = 16 * at_width 64 + at_width 32

-- the codes icc and xcc of the register
abbrev pub icc : ℕ → ℕ
icc cc = cc % 16

abbrev pub xcc : ℕ → ℕ
xcc cc = cc / 16 % 16

-- their bits
abbrev pub negative : ℕ → Bool
negative bits = bits / 8 % 2 == 1

abbrev pub zero : ℕ → Bool
zero bits = bits / 4 % 2 == 1

abbrev pub overflow : ℕ → Bool
overflow bits = bits / 2 % 2 == 1

abbrev pub carry : ℕ → Bool
carry bits = bits % 2 == 1

-- the carry that ADDC and SUBC take: C of icc
abbrev pub carry_in : ℕ → ℕ
carry_in cc = cc % 2
