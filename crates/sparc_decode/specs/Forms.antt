-- What a word says once its form is known. Each form names the fields that it uses: the others stay 0,
-- `false` or `Reg 0`, and their bits are not looked at. A word that a form leaves undefined is ill.
use Rattle.std.specs.Prelude.{ℕ, false, ◌*◌, ◌^◌, ◌==◌, ◌||◌, ◌&&◌, not, nat_le, ℤ, pos, ◌*ℤ◌, if◌then◌else◌}
use Rattle.sparc_decode.specs.declared.instr.Instr.{Instr}
use Rattle.sparc_decode.specs.declared.instr.Op.{Op}
use Rattle.sparc_decode.specs.declared.instr.Op.TheVariants.{Trap, BPcc, Bicc, BPr, Sethi, Call, RdY, RdCcr, RdPc, Membar, Stbar, Movcc, Popc, Movr, WrY, WrCcr, Tcc, Prefetch}
use Rattle.sparc_decode.specs.declared.instr.Src2.{Src2}
use Rattle.sparc_decode.specs.declared.instr.Src2.TheVariants.{Reg, Imm}
use Rattle.sparc_decode.specs.Fields as field

-- an instruction with no field in use
abbrev pub plain : Op → Instr
plain o = record {
  op = o;
  rd = 0;
  rs1 = 0;
  src2 = Reg 0;
  cond = 0;
  extended = false;
  annul = false;
  hint = false;
  disp = pos 0;
  mask = 0;
  trap = 0;
}

-- the trap with this number: 0x010 is illegal_instruction, 0x011 privileged_opcode and 0x020 fp_disabled
-- (chapter 7)
abbrev pub ill : ℕ → Instr
ill number = record (plain Trap) { trap = number }

-- a form whose words all trap
abbrev pub traps : ℕ → ℕ → Instr
traps number word = ill number

-- the register rs2, or with i set an immediate
abbrev pub with_rs2 : (ℕ → ℤ) → ℕ → Src2
with_rs2 immediate word = if field.i word then Imm (immediate word) else Reg (field.rs2 word)

-- operand 2
abbrev pub operand2 : ℕ → Src2
operand2 word = with_rs2 field.simm13 word

-- a form with no field
abbrev pub only_op : Op → ℕ → Instr
only_op o word = plain o

-- a form with rd alone
unfoldable pub to_rd : Op → ℕ → Instr
to_rd o word = record (plain o) { rd = field.rd word }

-- a form with rs1 and operand 2
unfoldable pub from_two : Op → ℕ → Instr
from_two o word = record (plain o) { rs1 = field.rs1 word; src2 = operand2 word }

-- a form with rd, rs1 and operand 2
unfoldable pub three_operands : Op → ℕ → Instr
three_operands o word = record (plain o) { rd = field.rd word; rs1 = field.rs1 word; src2 = operand2 word }

-- Branches. Displacements count words, and `disp` counts bytes.

-- on a register (A.3)
unfoldable pub bpr : ℕ → Instr
bpr word =
    if field.is_set 28 word || (field.rcond word == 0 || field.rcond word == 4) then ill 0x010
    else record (plain BPr) {
      rs1 = field.rs1 word;
      cond = field.rcond word;
      annul = field.a word;
      hint = field.p word;
      disp = field.disp16 word *ℤ pos 4;
    }

-- on icc or xcc, with prediction (A.7)
unfoldable pub bpcc : ℕ → Instr
bpcc word =
    if field.branch_cc word == 0 || field.branch_cc word == 2 then record (plain BPcc) {
      cond = field.cond word;
      extended = field.branch_cc word == 2;
      annul = field.a word;
      hint = field.p word;
      disp = field.disp19 word *ℤ pos 4;
    }
    else ill 0x010

-- on icc (A.6)
unfoldable pub bicc : ℕ → Instr
bicc word = record (plain Bicc) {
  cond = field.cond word;
  annul = field.a word;
  disp = field.disp22 word *ℤ pos 4;
}

-- the high 22 bits of a word of 32 (A.48)
unfoldable pub sethi : ℕ → Instr
sethi word = record (plain Sethi) { rd = field.rd word; disp = pos (field.imm22 word * 2 ^ 10) }

-- CALL (A.8)
unfoldable pub call : ℕ → Instr
call word = record (plain Call) { disp = field.disp30 word *ℤ pos 4 }

-- Arithmetic

-- the count of a shift: a register, or 5 or 6 bits of the word
abbrev pub narrow_count : ℕ → Src2
narrow_count word = with_rs2 (λ w. pos (field.shcnt32 w)) word

abbrev pub wide_count : ℕ → Src2
wide_count word = with_rs2 (λ w. pos (field.shcnt64 w)) word

-- shifts of 32 bits and, with x set, of 64 (A.49)
unfoldable pub shift : Op → Op → ℕ → Instr
shift narrow wide word =
    if field.x word then record (plain wide) {
      rd = field.rd word;
      rs1 = field.rs1 word;
      src2 = wide_count word;
    }
    else record (plain narrow) {
      rd = field.rd word;
      rs1 = field.rs1 word;
      src2 = narrow_count word;
    }

-- which accesses MEMBAR orders: a bit of cmask set asks for more than an order, and is taken for every one
abbrev pub ordered : ℕ → ℕ
ordered word = if field.cmask word == 0 then field.mmask word else 15

-- barriers, with rd 0: MEMBAR, and without i STBAR, which orders stores (A.32, A.51)
unfoldable pub barrier : ℕ → Instr
barrier word =
    if field.rd word == 0 then
    (if field.i word then record (plain Membar) { mask = ordered word } else record (plain Stbar) { mask = 8 })
    else ill 0x010

-- reads of state registers: rs1 names the register, and 15 a barrier (A.44)
unfoldable pub read_state : ℕ → Instr
read_state word =
    if field.rs1 word == 0 then to_rd RdY word
    else if field.rs1 word == 2 then to_rd RdCcr word
    else if field.rs1 word == 5 then to_rd RdPc word
    else if field.rs1 word == 15 then barrier word
    else ill 0x010

-- writes of state registers: rd names the register (A.63)
unfoldable pub write_state : ℕ → Instr
write_state word =
    if field.rd word == 0 then from_two WrY word
    else if field.rd word == 2 then from_two WrCcr word
    else ill 0x010

-- moves on icc or xcc; those on a floating-point condition have cc2 clear (A.35)
unfoldable pub movcc : ℕ → Instr
movcc word =
    if not (field.cc2 word) then ill 0x020
    else if field.low_cc word == 0 || field.low_cc word == 2 then record (plain Movcc) {
      rd = field.rd word;
      src2 = with_rs2 field.simm11 word;
      cond = field.move_cond word;
      extended = field.low_cc word == 2;
    }
    else ill 0x010

-- moves on a register (A.36)
unfoldable pub movr : ℕ → Instr
movr word =
    if field.move_rcond word == 0 || field.move_rcond word == 4 then ill 0x010
    else record (plain Movr) {
      rd = field.rd word;
      rs1 = field.rs1 word;
      src2 = with_rs2 field.simm10 word;
      cond = field.move_rcond word;
    }

-- the count of ones of operand 2 (A.41)
unfoldable pub popc : ℕ → Instr
popc word =
    if field.rs1 word == 0 then record (plain Popc) { rd = field.rd word; src2 = operand2 word }
    else ill 0x010

-- traps on icc or xcc (A.61)
unfoldable pub tcc : ℕ → Instr
tcc word =
    if field.low_cc word == 0 || field.low_cc word == 2 then record (plain Tcc) {
      rs1 = field.rs1 word;
      src2 = operand2 word;
      cond = field.cond word;
      extended = field.low_cc word == 2;
    }
    else ill 0x010

-- Memory

-- prefetches: rd is the function, and 5 to 15 are reserved (A.42)
unfoldable pub prefetch : ℕ → Instr
prefetch word = if nat_le 5 (field.rd word) && nat_le (field.rd word) 15 then ill 0x010 else plain Prefetch

-- compare and swap, in the primary address space alone, which is named in the word (A.9)
unfoldable pub compare_and_swap : Op → ℕ → Instr
compare_and_swap o word =
    if not (field.i word) && field.imm_asi word == 0x80 then record (plain o) {
      rd = field.rd word;
      rs1 = field.rs1 word;
      src2 = Reg (field.rs2 word);
    }
    else ill 0x010
