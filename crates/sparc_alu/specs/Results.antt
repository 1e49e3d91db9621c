-- What the forms of arithmetic compute from two operands a and b, the condition codes cc and the register Y
-- (SPARC V9, appendix A). Values have 64 bits.
use Rattle.std.specs.Prelude.{ℕ, ◌+◌, ◌-◌, ◌*◌, ◌/◌, ◌%◌, ◌^◌, ◌==◌, Bool, true, false, ◌&&◌, if◌then◌else◌, ◌*ℤ◌, bit_and, bit_or, bit_xor, int_div, count_ones, Result, Ok, Err}
use Rattle.std.specs.Int.{int_shr}
use Rattle.sparc_decode.specs.declared.instr.Op.{Op}
use Rattle.sparc_decode.specs.declared.instr.Op.TheVariants as op
use Rattle.sparc_alu.specs.declared.arithmetic.AluOut.{AluOut}
use Rattle.sparc_alu.specs.declared.arithmetic.DivisionByZero.{DivisionByZero}
use Rattle.sparc_alu.specs.Numbers.{low, signed, twos_complement}
use Rattle.sparc_alu.specs.Codes.{of_sum, of_difference, of_value, ccr, carry_in}

abbrev pub sum : ℕ → ℕ → ℕ → ℕ
sum a b carry = (a + b + carry) % 2 ^ 64

abbrev pub difference : ℕ → ℕ → ℕ → ℕ
difference a b borrow = (a + 2 ^ 64 + 2 ^ 64 - b - borrow) % 2 ^ 64

-- every bit the other way round
abbrev pub complement : ℕ → ℕ
complement b = 2 ^ 64 - 1 - b

-- the product of two words, without and with signs (A.38)
abbrev pub unsigned_product : ℕ → ℕ → ℕ
unsigned_product a b = low 32 a * low 32 b

abbrev pub signed_product : ℕ → ℕ → ℕ
signed_product a b = twos_complement (signed 32 a *ℤ signed 32 b)

-- The value. A form that computes none gives 0; those that only pass operand 2 on give it.
unfoldable pub value : Op → ℕ → ℕ → ℕ → ℕ → ℕ
-- sums and differences (A.2, A.56)
value op.Add a b cc y = sum a b 0
value op.AddCc a b cc y = sum a b 0
value op.Addc a b cc y = sum a b (carry_in cc)
value op.AddcCc a b cc y = sum a b (carry_in cc)
value op.Sub a b cc y = difference a b 0
value op.SubCc a b cc y = difference a b 0
value op.Subc a b cc y = difference a b (carry_in cc)
value op.SubcCc a b cc y = difference a b (carry_in cc)
-- SAVE and RESTORE add (A.46)
value op.Save a b cc y = sum a b 0
value op.Restore a b cc y = sum a b 0
-- bit by bit (A.31)
value op.And a b cc y = bit_and a b
value op.AndCc a b cc y = bit_and a b
value op.Andn a b cc y = bit_and a (complement b)
value op.AndnCc a b cc y = bit_and a (complement b)
value op.Or a b cc y = bit_or a b
value op.OrCc a b cc y = bit_or a b
value op.Orn a b cc y = bit_or a (complement b)
value op.OrnCc a b cc y = bit_or a (complement b)
value op.Xor a b cc y = bit_xor a b
value op.XorCc a b cc y = bit_xor a b
value op.Xnor a b cc y = complement (bit_xor a b)
value op.XnorCc a b cc y = complement (bit_xor a b)
-- products (A.37, A.38)
value op.Mulx a b cc y = a * b % 2 ^ 64
value op.Umul a b cc y = unsigned_product a b
value op.UmulCc a b cc y = unsigned_product a b
value op.Smul a b cc y = signed_product a b
value op.SmulCc a b cc y = signed_product a b
-- quotients, that of signed numbers rounded to zero (A.37)
value op.Udivx a b cc y = a / b
value op.Sdivx a b cc y = twos_complement (int_div (signed 64 a) (signed 64 b))
-- shifts: by 0 to 31, and those of 64 bits by 0 to 63 (A.49)
value op.Sll a b cc y = a * 2 ^ (b % 32) % 2 ^ 64
value op.Srl a b cc y = low 32 a / 2 ^ (b % 32)
value op.Sra a b cc y = twos_complement (int_shr (signed 32 a) (b % 32))
value op.Sllx a b cc y = a * 2 ^ (b % 64) % 2 ^ 64
value op.Srlx a b cc y = a / 2 ^ (b % 64)
value op.Srax a b cc y = twos_complement (int_shr (signed 64 a) (b % 64))
-- how many bits of operand 2 are set (A.41)
value op.Popc a b cc y = count_ones b
-- SETHI and moves pass operand 2 on (A.35, A.36, A.48)
value op.Sethi a b cc y = b
value op.Movcc a b cc y = b
value op.Movr a b cc y = b
-- state registers: Y has 32 bits (A.44, 5.1.3.2)
value op.RdY a b cc y = low 32 y
value op.RdCcr a b cc y = cc
-- branches, traps, jumps, barriers, writes of state registers and accesses to memory compute none
value op.Trap a b cc y = 0
value op.BPcc a b cc y = 0
value op.Bicc a b cc y = 0
value op.BPr a b cc y = 0
value op.Call a b cc y = 0
value op.RdPc a b cc y = 0
value op.Membar a b cc y = 0
value op.Stbar a b cc y = 0
value op.Flushw a b cc y = 0
value op.WrY a b cc y = 0
value op.WrCcr a b cc y = 0
value op.Jmpl a b cc y = 0
value op.Return a b cc y = 0
value op.Tcc a b cc y = 0
value op.Flush a b cc y = 0
value op.Lduw a b cc y = 0
value op.Ldub a b cc y = 0
value op.Lduh a b cc y = 0
value op.Ldsw a b cc y = 0
value op.Ldsb a b cc y = 0
value op.Ldsh a b cc y = 0
value op.Ldx a b cc y = 0
value op.Stw a b cc y = 0
value op.Stb a b cc y = 0
value op.Sth a b cc y = 0
value op.Stx a b cc y = 0
value op.Ldstub a b cc y = 0
value op.Swap a b cc y = 0
value op.Prefetch a b cc y = 0
value op.Casa a b cc y = 0
value op.Casxa a b cc y = 0

-- the condition codes: those of the result where the form sets them, else as they were
unfoldable pub codes : Op → ℕ → ℕ → ℕ → ℕ
codes op.AddCc a b cc = ccr (λ width. of_sum width a b 0)
codes op.AddcCc a b cc = ccr (λ width. of_sum width a b (carry_in cc))
codes op.SubCc a b cc = ccr (λ width. of_difference width a b 0)
codes op.SubcCc a b cc = ccr (λ width. of_difference width a b (carry_in cc))
codes op.AndCc a b cc = ccr (λ width. of_value width (bit_and a b))
codes op.AndnCc a b cc = ccr (λ width. of_value width (bit_and a (complement b)))
codes op.OrCc a b cc = ccr (λ width. of_value width (bit_or a b))
codes op.OrnCc a b cc = ccr (λ width. of_value width (bit_or a (complement b)))
codes op.XorCc a b cc = ccr (λ width. of_value width (bit_xor a b))
codes op.XnorCc a b cc = ccr (λ width. of_value width (complement (bit_xor a b)))
codes op.UmulCc a b cc = ccr (λ width. of_value width (unsigned_product a b))
codes op.SmulCc a b cc = ccr (λ width. of_value width (signed_product a b))
-- WRCCR writes 8 bits (A.63)
codes op.WrCcr a b cc = bit_xor a b % 2 ^ 8
codes _ a b cc = cc

-- Y: the high half of a product of two words, else as it was (A.38)
unfoldable pub y_register : Op → ℕ → ℕ → ℕ → ℕ
y_register op.Umul a b y = unsigned_product a b / 2 ^ 32
y_register op.UmulCc a b y = unsigned_product a b / 2 ^ 32
y_register op.Smul a b y = signed_product a b / 2 ^ 32
y_register op.SmulCc a b y = signed_product a b / 2 ^ 32
-- WRY writes 32 bits (A.63)
y_register op.WrY a b y = low 32 (bit_xor a b)
y_register _ a b y = y

-- the forms that divide
unfoldable pub divides : Op → Bool
divides op.Udivx = true
divides op.Sdivx = true
divides _ = false

-- what a form computes, divisions by 0 aside
abbrev pub results : Op → ℕ → ℕ → ℕ → ℕ → AluOut
results o a b cc y = record { value = value o a b cc y; cc = codes o a b cc; y = y_register o a b y }

-- what a form computes: a division by 0 nothing
abbrev pub computed : Op → ℕ → ℕ → ℕ → ℕ → Result AluOut DivisionByZero
computed o a b cc y = if divides o && b == 0 then Err (record {}) else Ok (results o a b cc y)

-- a value with the codes that it sets
abbrev pub with_codes : ℕ → ℕ → AluOut → AluOut
with_codes value cc kept = record kept { value = value; cc = cc }

-- a product of words, whose high half is in Y too
abbrev pub with_product : ℕ → AluOut → AluOut
with_product product kept = record kept { value = product; y = product / 2 ^ 32 }
