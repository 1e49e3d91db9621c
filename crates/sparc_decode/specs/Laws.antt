-- Laws of the opcode maps: no word fits two rows, a word without a row is illegal_instruction, bits that a form
-- does not name are not looked at, and the fields of each instruction are in range.
use Rattle.std.specs.Prelude.{◌≡◌, ◌≢◌, ℕ, Bool, true, false, ◌==◌, ◌&&◌, not, nat_lt, List, [], ◌∷◌, All, AllPairs, ⊤}
use Rattle.sparc_decode.specs.Effects.{reads_rd, writes_rd}
use Rattle.sparc_decode.specs.Fields as field
use Rattle.sparc_decode.specs.Forms as form
use Rattle.sparc_decode.specs.Instr.{Row, instr}
use Rattle.sparc_decode.specs.Ranges.{IsInRange}

-- no two rows of a table have the same key
abbrev pub KeysDiffer : List Row → Type 0
KeysDiffer rows = AllPairs (λ row later. row.0 ≢ later.0) rows

-- each row of the table of this op says what the words are that it fits, wherever it stands
abbrev pub EachRowDecides : ℕ → (ℕ → ℕ) → List Row → Type 0
EachRowDecides code key rows = All (λ row. (word : ℕ) → field.op word ≡ code → key word ≡ row.0 → instr word ≡ row.1 word) rows

-- a word of this op whose key no row of its table has is illegal_instruction
abbrev pub OthersAreIllegal : ℕ → (ℕ → ℕ) → List Row → Type 0
OthersAreIllegal code key rows = (word : ℕ) → field.op word ≡ code → All (λ row. key word ≢ row.0) rows → instr word ≡ form.ill 0x010

-- two words have the same bits in each of these ranges, written high and low
abbrev pub SameIn : List (ℕ × ℕ) → ℕ → ℕ → Type 0
SameIn [] v w = ⊤
SameIn (range ∷ ranges) v w = (field.bits range.0 range.1 v ≡ field.bits range.0 range.1 w) × SameIn ranges v w

-- of the words that pass a test, those with the same bits in these ranges are the same instruction
abbrev pub LooksOnlyAt : List (ℕ × ℕ) → (ℕ → Bool) → Type 0
LooksOnlyAt ranges passes = (v w : ℕ) → passes v ≡ true → SameIn ranges v w → instr v ≡ instr w

-- Which bits the forms look at: the ranges are their fields, and may overlap.

-- op 2 below op3 0x20 on registers: bits 12 to 5 are not looked at
abbrev pub ArithmeticOnRegisters : Type 0
ArithmeticOnRegisters = LooksOnlyAt
    ((31, 30) ∷ (29, 25) ∷ (24, 19) ∷ (18, 14) ∷ (13, 13) ∷ (4, 0) ∷ [])
    (λ word. field.op word == 2 && nat_lt (field.op3 word) 0x20 && not (field.i word))

-- op 3 below op3 0x10 with an address from registers: likewise
abbrev pub AddressesOnRegisters : Type 0
AddressesOnRegisters = LooksOnlyAt
    ((31, 30) ∷ (29, 25) ∷ (24, 19) ∷ (18, 14) ∷ (13, 13) ∷ (4, 0) ∷ [])
    (λ word. field.op word == 3 && nat_lt (field.op3 word) 0x10 && not (field.i word))

-- a form of op 2 by its op3
abbrev pub is_arithmetic : ℕ → ℕ → Bool
is_arithmetic place word = field.op word == 2 && field.op3 word == place

-- shifts by a register: bits 11 to 5 are not looked at
abbrev pub ShiftsByRegisters : ℕ → Type 0
ShiftsByRegisters place = LooksOnlyAt
    ((31, 30) ∷ (29, 25) ∷ (24, 19) ∷ (18, 14) ∷ (13, 13) ∷ (12, 12) ∷ (4, 0) ∷ [])
    (λ word. is_arithmetic place word && not (field.i word))

-- shifts by a count: bits 11 to 6 are not looked at
abbrev pub ShiftsByCounts : ℕ → Type 0
ShiftsByCounts place = LooksOnlyAt
    ((31, 30) ∷ (29, 25) ∷ (24, 19) ∷ (18, 14) ∷ (13, 13) ∷ (12, 12) ∷ (5, 0) ∷ (4, 0) ∷ [])
    (is_arithmetic place)

-- shifts of 32 bits, with bit 12 clear, by a register or a count: bits 11 to 5 are not looked at
abbrev pub NarrowShifts : ℕ → Type 0
NarrowShifts place = LooksOnlyAt
    ((31, 30) ∷ (29, 25) ∷ (24, 19) ∷ (18, 14) ∷ (13, 13) ∷ (12, 12) ∷ (4, 0) ∷ [])
    (λ word. is_arithmetic place word && not (field.x word))

-- other forms with rd, rs1 and a register as operand 2: bits 12 to 5 are not looked at
abbrev pub OperandsInRegisters : ℕ → Type 0
OperandsInRegisters place = LooksOnlyAt
    ((31, 30) ∷ (29, 25) ∷ (24, 19) ∷ (18, 14) ∷ (13, 13) ∷ (4, 0) ∷ [])
    (λ word. is_arithmetic place word && not (field.i word))

-- RETURN: rd is not looked at, and with a register as operand 2 bits 12 to 5 are not either
abbrev pub Returns : Type 0
Returns = LooksOnlyAt
    ((31, 30) ∷ (24, 19) ∷ (18, 14) ∷ (13, 13) ∷ (12, 0) ∷ (4, 0) ∷ [])
    (is_arithmetic 0x39)

abbrev pub ReturnsOnRegisters : Type 0
ReturnsOnRegisters = LooksOnlyAt
    ((31, 30) ∷ (24, 19) ∷ (18, 14) ∷ (13, 13) ∷ (4, 0) ∷ [])
    (λ word. is_arithmetic 0x39 word && not (field.i word))

-- MOVcc of a register: bits 10 to 5 are not looked at
abbrev pub MovesOnCodes : Type 0
MovesOnCodes = LooksOnlyAt
    ((31, 30) ∷ (29, 25) ∷ (24, 19) ∷ (18, 18) ∷ (17, 14) ∷ (13, 13) ∷ (12, 11) ∷ (4, 0) ∷ [])
    (λ word. is_arithmetic 0x2C word && not (field.i word))

-- MOVr of a register: bits 9 to 5 are not looked at
abbrev pub MovesOnRegisters : Type 0
MovesOnRegisters = LooksOnlyAt
    ((31, 30) ∷ (29, 25) ∷ (24, 19) ∷ (18, 14) ∷ (13, 13) ∷ (12, 10) ∷ (4, 0) ∷ [])
    (λ word. is_arithmetic 0x2F word && not (field.i word))

-- Tcc: bit 29 is not looked at
abbrev pub Traps : Type 0
Traps = LooksOnlyAt
    ((31, 30) ∷ (28, 25) ∷ (24, 19) ∷ (18, 14) ∷ (13, 13) ∷ (12, 11) ∷ (12, 0) ∷ (4, 0) ∷ [])
    (is_arithmetic 0x3A)

-- Tcc with a register as operand 2: bits 10 to 5 are not looked at either
abbrev pub TrapsOnRegisters : Type 0
TrapsOnRegisters = LooksOnlyAt
    ((31, 30) ∷ (28, 25) ∷ (24, 19) ∷ (18, 14) ∷ (13, 13) ∷ (12, 11) ∷ (4, 0) ∷ [])
    (λ word. is_arithmetic 0x3A word && not (field.i word))

-- reads of state and barriers: bits 12 to 7 are not looked at
abbrev pub StateReads : Type 0
StateReads = LooksOnlyAt
    ((31, 30) ∷ (29, 25) ∷ (24, 19) ∷ (18, 14) ∷ (13, 13) ∷ (6, 4) ∷ (3, 0) ∷ [])
    (is_arithmetic 0x28)

-- reads of state, all but rs1 15: bits 13 to 0 are not looked at
abbrev pub RegisterReads : Type 0
RegisterReads = LooksOnlyAt
    ((31, 30) ∷ (29, 25) ∷ (24, 19) ∷ (18, 14) ∷ [])
    (λ word. is_arithmetic 0x28 word && not (field.rs1 word == 15))

-- STBAR, rs1 15 with i clear: bits 12 to 0 are not looked at
abbrev pub StoreBarriers : Type 0
StoreBarriers = LooksOnlyAt
    ((31, 30) ∷ (29, 25) ∷ (24, 19) ∷ (18, 14) ∷ (13, 13) ∷ [])
    (λ word. is_arithmetic 0x28 word && field.rs1 word == 15 && not (field.i word))

-- FLUSHW and FLUSH: nothing but the place in the opcode map
abbrev pub Flushes : ℕ → Type 0
Flushes place = LooksOnlyAt ((31, 30) ∷ (24, 19) ∷ []) (is_arithmetic place)

-- PREFETCH: besides its place its function alone
abbrev pub Prefetches : Type 0
Prefetches = LooksOnlyAt
    ((31, 30) ∷ (29, 25) ∷ (24, 19) ∷ [])
    (λ word. field.op word == 3 && field.op3 word == 0x2D)

-- the fields of each word's instruction are in range
abbrev pub InRange : Type 0
InRange = (word : ℕ) → IsInRange (instr word)

-- where a form neither reads nor writes the register of rd, rd is 0
abbrev pub UnusedRd : Type 0
UnusedRd = (word : ℕ) → reads_rd (instr word).op ≡ false → writes_rd (instr word).op ≡ false → (instr word).rd ≡ 0
