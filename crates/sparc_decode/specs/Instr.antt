-- Which form a word has: the opcode maps (SPARC V9, appendix E) as tables. A word whose place no row names
-- is illegal_instruction.
use Rattle.std.specs.Prelude.{ℕ, List, [], ◌∷◌, ◌==◌, if◌then◌else◌}
use Rattle.sparc_decode.specs.declared.instr.Instr.{Instr}
use Rattle.sparc_decode.specs.declared.instr.Op.TheVariants.{Add, And, Or, Xor, Sub, Andn, Orn, Xnor, Addc, Subc, Mulx, Umul, Smul, Udivx, Sdivx, AddCc, AndCc, OrCc, XorCc, SubCc, AndnCc, OrnCc, XnorCc, AddcCc, UmulCc, SmulCc, SubcCc, Sll, Srl, Sra, Sllx, Srlx, Srax, Flushw, Jmpl, Return, Flush, Save, Restore, Lduw, Ldub, Lduh, Ldsw, Ldsb, Ldsh, Ldx, Stw, Stb, Sth, Stx, Ldstub, Swap, Casa, Casxa}
use Rattle.sparc_decode.specs.Fields as field
use Rattle.sparc_decode.specs.Forms.{ill, traps, only_op, from_two, three_operands, bpr, bpcc, bicc, sethi, call, shift, read_state, write_state, movcc, movr, popc, tcc, prefetch, compare_and_swap}

-- a row: a value of the field that the table goes by, and what a word with that value says
abbrev pub Row : Type 0
Row = ℕ × (ℕ → Instr)

-- what a word says by the row for a key
abbrev pub by_row : List Row → ℕ → ℕ → Instr
by_row [] key word = ill 0x010
by_row (row ∷ rows) key word = if row.0 == key then row.1 word else by_row rows key word

-- op 0, by op2
abbrev pub branch_rows : List Row
branch_rows =
    (0, traps 0x010)  -- ILLTRAP
    ∷ (1, bpcc) ∷ (2, bicc) ∷ (3, bpr) ∷ (4, sethi)
    ∷ (5, traps 0x020) ∷ (6, traps 0x020)  -- FBPfcc, FBfcc
    ∷ []

unfoldable pub branch : ℕ → Instr
branch word = by_row branch_rows (field.op2 word) word

-- op 2, by op3
abbrev pub arithmetic_rows : List Row
arithmetic_rows =
    (0x00, three_operands Add) ∷ (0x01, three_operands And) ∷ (0x02, three_operands Or) ∷ (0x03, three_operands Xor)
    ∷ (0x04, three_operands Sub) ∷ (0x05, three_operands Andn) ∷ (0x06, three_operands Orn) ∷ (0x07, three_operands Xnor)
    ∷ (0x08, three_operands Addc) ∷ (0x09, three_operands Mulx) ∷ (0x0A, three_operands Umul) ∷ (0x0B, three_operands Smul)
    ∷ (0x0C, three_operands Subc) ∷ (0x0D, three_operands Udivx)
    ∷ (0x10, three_operands AddCc) ∷ (0x11, three_operands AndCc) ∷ (0x12, three_operands OrCc) ∷ (0x13, three_operands XorCc)
    ∷ (0x14, three_operands SubCc) ∷ (0x15, three_operands AndnCc) ∷ (0x16, three_operands OrnCc) ∷ (0x17, three_operands XnorCc)
    ∷ (0x18, three_operands AddcCc) ∷ (0x1A, three_operands UmulCc) ∷ (0x1B, three_operands SmulCc) ∷ (0x1C, three_operands SubcCc)
    ∷ (0x25, shift Sll Sllx) ∷ (0x26, shift Srl Srlx) ∷ (0x27, shift Sra Srax)
    ∷ (0x28, read_state)
    ∷ (0x2A, traps 0x011)  -- RDPR
    ∷ (0x2B, only_op Flushw) ∷ (0x2C, movcc) ∷ (0x2D, three_operands Sdivx) ∷ (0x2E, popc) ∷ (0x2F, movr)
    ∷ (0x30, write_state)
    ∷ (0x31, traps 0x011) ∷ (0x32, traps 0x011)  -- SAVED and RESTORED, WRPR
    ∷ (0x34, traps 0x020) ∷ (0x35, traps 0x020)  -- FPop1, FPop2
    ∷ (0x38, three_operands Jmpl) ∷ (0x39, from_two Return) ∷ (0x3A, tcc) ∷ (0x3B, only_op Flush)
    ∷ (0x3C, three_operands Save) ∷ (0x3D, three_operands Restore)
    ∷ (0x3E, traps 0x011)  -- DONE, RETRY
    ∷ []

unfoldable pub arithmetic : ℕ → Instr
arithmetic word = by_row arithmetic_rows (field.op3 word) word

-- op 3, by op3
abbrev pub memory_rows : List Row
memory_rows =
    (0x00, three_operands Lduw) ∷ (0x01, three_operands Ldub) ∷ (0x02, three_operands Lduh)
    ∷ (0x04, three_operands Stw) ∷ (0x05, three_operands Stb) ∷ (0x06, three_operands Sth)
    ∷ (0x08, three_operands Ldsw) ∷ (0x09, three_operands Ldsb) ∷ (0x0A, three_operands Ldsh) ∷ (0x0B, three_operands Ldx)
    ∷ (0x0D, three_operands Ldstub) ∷ (0x0E, three_operands Stx) ∷ (0x0F, three_operands Swap)
    ∷ (0x20, traps 0x020) ∷ (0x21, traps 0x020) ∷ (0x22, traps 0x020) ∷ (0x23, traps 0x020)  -- loads of floating-point registers
    ∷ (0x24, traps 0x020) ∷ (0x25, traps 0x020) ∷ (0x26, traps 0x020) ∷ (0x27, traps 0x020)  -- and their stores
    ∷ (0x2D, prefetch)
    ∷ (0x30, traps 0x020) ∷ (0x32, traps 0x020) ∷ (0x33, traps 0x020)  -- the same by an address space
    ∷ (0x34, traps 0x020) ∷ (0x36, traps 0x020) ∷ (0x37, traps 0x020)
    ∷ (0x3C, compare_and_swap Casa) ∷ (0x3E, compare_and_swap Casxa)
    ∷ []

unfoldable pub memory : ℕ → Instr
memory word = by_row memory_rows (field.op3 word) word

-- the instruction that a word stands for, by op
unfoldable pub instr : ℕ → Instr
instr word = by_row ((0, branch) ∷ (1, call) ∷ (2, arithmetic) ∷ (3, memory) ∷ []) (field.op word) word
