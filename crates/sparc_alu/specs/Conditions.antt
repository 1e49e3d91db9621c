-- When a condition is true: of the condition codes (SPARC V9, A.6, A.7, A.35, A.61) and of a register (A.3, A.36).
use Rattle.std.specs.Prelude.{ℕ, ◌==◌, Bool, true, false, not, ◌||◌, if◌then◌else◌, ℤ, pos, int_lt, int_le, List, [], ◌∷◌}
use Rattle.std.specs.Bool.{xor}
use Rattle.std.specs.Ordering.{int_eq}
use Rattle.sparc_decode.specs.declared.instr.Instr.{Instr}
use Rattle.sparc_decode.specs.declared.instr.Op.{Op}
use Rattle.sparc_decode.specs.declared.instr.Op.TheVariants as op
use Rattle.sparc_alu.specs.Codes as code
use Rattle.sparc_alu.specs.Numbers.{signed}

-- N differs from V: the true result is below 0
abbrev pub is_less : ℕ → Bool
is_less bits = xor (code.negative bits) (code.overflow bits)

-- what a table has for a number; false where it has none
abbrev pub by_number : {X : Type 0} → List (ℕ × (X → Bool)) → ℕ → X → Bool
by_number [] number x = false
by_number (row ∷ rows) number x = if row.0 == number then row.1 x else by_number rows number x

-- the conditions on four codes
abbrev pub on_codes : List (ℕ × (ℕ → Bool))
on_codes =
    (0, λ bits. false)  -- N, never
    ∷ (1, λ bits. code.zero bits)  -- E, equal
    ∷ (2, λ bits. code.zero bits || is_less bits)  -- LE, less or equal
    ∷ (3, λ bits. is_less bits)  -- L, less
    ∷ (4, λ bits. code.carry bits || code.zero bits)  -- LEU, less or equal, unsigned
    ∷ (5, λ bits. code.carry bits)  -- CS, carry set: less, unsigned
    ∷ (6, λ bits. code.negative bits)  -- NEG, negative
    ∷ (7, λ bits. code.overflow bits)  -- VS, overflow set
    ∷ (8, λ bits. true)  -- A, always
    ∷ (9, λ bits. not (code.zero bits))  -- NE, not equal
    ∷ (10, λ bits. not (code.zero bits || is_less bits))  -- G, greater
    ∷ (11, λ bits. not (is_less bits))  -- GE, greater or equal
    ∷ (12, λ bits. not (code.carry bits || code.zero bits))  -- GU, greater, unsigned
    ∷ (13, λ bits. not (code.carry bits))  -- CC, carry clear: greater or equal, unsigned
    ∷ (14, λ bits. not (code.negative bits))  -- POS, positive
    ∷ (15, λ bits. not (code.overflow bits))  -- VC, overflow clear
    ∷ []

-- the conditions on a register, as a signed number
abbrev pub on_register : List (ℕ × (ℤ → Bool))
on_register =
    (1, λ z. int_eq z (pos 0))  -- Z, zero
    ∷ (2, λ z. int_le z (pos 0))  -- LEZ, less than zero or zero
    ∷ (3, λ z. int_lt z (pos 0))  -- LZ, less than zero
    ∷ (5, λ z. not (int_eq z (pos 0)))  -- NZ, not zero
    ∷ (6, λ z. int_lt (pos 0) z)  -- GZ, greater than zero
    ∷ (7, λ z. int_le (pos 0) z)  -- GEZ, greater than zero or zero
    ∷ []

abbrev pub holds : ℕ → ℕ → Bool
holds cond bits = by_number on_codes cond bits

abbrev pub holds_of_register : ℕ → ℕ → Bool
holds_of_register rcond a = by_number on_register rcond (signed 64 a)

-- the codes that an instruction looks at
abbrev pub codes_for : Instr → ℕ → ℕ
codes_for i cc = if i.extended then code.xcc cc else code.icc cc

-- By form: on condition codes, on a register; other forms have no condition, and it is false.
unfoldable pub taken_by_form : Op → Instr → ℕ → ℕ → Bool
taken_by_form op.Bicc i cc a = holds i.cond (codes_for i cc)
taken_by_form op.BPcc i cc a = holds i.cond (codes_for i cc)
taken_by_form op.Movcc i cc a = holds i.cond (codes_for i cc)
taken_by_form op.Tcc i cc a = holds i.cond (codes_for i cc)
taken_by_form op.BPr i cc a = holds_of_register i.cond a
taken_by_form op.Movr i cc a = holds_of_register i.cond a
taken_by_form _ i cc a = false

-- whether an instruction's condition is true, with these condition codes and this value of its first register
abbrev pub taken : Instr → ℕ → ℕ → Bool
taken i cc a = taken_by_form i.op i cc a
