-- Laws of the conditions: what they say of each other, and of two numbers that were compared.
use Rattle.std.specs.Prelude.{◌≡◌, ℕ, ◌+◌, ◌^◌, ◌<◌, ◌==◌, not, nat_lt, nat_le, int_lt, int_le}
use Rattle.sparc_decode.specs.declared.instr.Op.TheVariants.{SubCc}
use Rattle.sparc_alu.specs.Codes.{icc, xcc}
use Rattle.sparc_alu.specs.Conditions.{holds, holds_of_register}
use Rattle.sparc_alu.specs.Numbers.{low, signed}
use Rattle.sparc_alu.specs.Results.{codes}

-- a condition of the codes, and of a register, is true exactly where its opposite is not
abbrev pub HaveOpposites : Type 0
HaveOpposites = (cond bits : ℕ) → cond < 8 → holds (cond + 8) bits ≡ not (holds cond bits)

abbrev pub RegistersHaveOpposites : Type 0
RegistersHaveOpposites = (rcond a : ℕ) → 0 < rcond → rcond < 4 → holds_of_register (rcond + 4) a ≡ not (holds_of_register rcond a)

-- The codes that SUBcc sets compare its operands: of this width, as signed and as unsigned numbers.
pub record Compare (width : ℕ) (bits a b : ℕ) : Type 0 where
  pub equal : holds 1 bits ≡ (low width a == low width b)
  pub less_or_equal : holds 2 bits ≡ int_le (signed width a) (signed width b)
  pub less : holds 3 bits ≡ int_lt (signed width a) (signed width b)
  pub less_or_equal_unsigned : holds 4 bits ≡ nat_le (low width a) (low width b)
  pub less_unsigned : holds 5 bits ≡ nat_lt (low width a) (low width b)

abbrev pub SubtractionCompares : Type 0
SubtractionCompares = (a b cc : ℕ) → a < 2 ^ 64 → b < 2 ^ 64
    → Compare 32 (icc (codes SubCc a b cc)) a b × Compare 64 (xcc (codes SubCc a b cc)) a b
