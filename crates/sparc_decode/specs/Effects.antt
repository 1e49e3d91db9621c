-- What the instructions of each form read and write. A field that a form has not read holds no register.
use Rattle.std.specs.Prelude.{ℕ, Bool, true, false, ◌==◌, ◌||◌, ◌&&◌, not, Option, Some, None, if◌then◌else◌}
use Rattle.sparc_decode.specs.declared.instr.Instr.{Instr}
use Rattle.sparc_decode.specs.declared.instr.Op.{Op}
use Rattle.sparc_decode.specs.declared.instr.Op.TheVariants as op
use Rattle.sparc_decode.specs.declared.instr.Src2.{Src2}
use Rattle.sparc_decode.specs.declared.instr.Src2.TheVariants.{Reg, Imm}
use Rattle.sparc_decode.specs.declared.registers.RegisterUse.{RegisterUse}
use Rattle.sparc_decode.specs.declared.registers.RegisterUse.TheVariants as use_of
use Rattle.sparc_decode.specs.declared.operands.Sources.{Sources}
use Rattle.sparc_decode.specs.declared.operands.Dest.{Dest}
use Rattle.sparc_decode.specs.declared.operands.WindowEffect.{WindowEffect}
use Rattle.sparc_decode.specs.declared.operands.WindowEffect.TheVariants as window

-- Which registers the instructions of a form use. Each form is named here, so that a new one gets no use unasked.
abbrev pub registers_of : Op → RegisterUse
-- none
registers_of op.Trap = use_of.Nothing
registers_of op.BPcc = use_of.Nothing
registers_of op.Bicc = use_of.Nothing
registers_of op.Call = use_of.Nothing
registers_of op.Membar = use_of.Nothing
registers_of op.Stbar = use_of.Nothing
registers_of op.Flushw = use_of.Nothing
registers_of op.Flush = use_of.Nothing
registers_of op.Prefetch = use_of.Nothing
-- rs1 is read
registers_of op.BPr = use_of.ReadRs1
-- rs1 and operand 2 are read
registers_of op.WrY = use_of.ReadTwo
registers_of op.WrCcr = use_of.ReadTwo
registers_of op.Return = use_of.ReadTwo
registers_of op.Tcc = use_of.ReadTwo
-- and rd: stores
registers_of op.Stw = use_of.ReadThree
registers_of op.Stb = use_of.ReadThree
registers_of op.Sth = use_of.ReadThree
registers_of op.Stx = use_of.ReadThree
-- rd is written
registers_of op.Sethi = use_of.Write
registers_of op.RdY = use_of.Write
registers_of op.RdCcr = use_of.Write
registers_of op.RdPc = use_of.Write
-- rd is written from operand 2
registers_of op.Popc = use_of.FromOperand2
-- rd is written from rs1 and operand 2
registers_of op.Add = use_of.FromTwo
registers_of op.And = use_of.FromTwo
registers_of op.Or = use_of.FromTwo
registers_of op.Xor = use_of.FromTwo
registers_of op.Sub = use_of.FromTwo
registers_of op.Andn = use_of.FromTwo
registers_of op.Orn = use_of.FromTwo
registers_of op.Xnor = use_of.FromTwo
registers_of op.Addc = use_of.FromTwo
registers_of op.Subc = use_of.FromTwo
registers_of op.Mulx = use_of.FromTwo
registers_of op.Umul = use_of.FromTwo
registers_of op.Smul = use_of.FromTwo
registers_of op.Udivx = use_of.FromTwo
registers_of op.Sdivx = use_of.FromTwo
registers_of op.AddCc = use_of.FromTwo
registers_of op.AndCc = use_of.FromTwo
registers_of op.OrCc = use_of.FromTwo
registers_of op.XorCc = use_of.FromTwo
registers_of op.SubCc = use_of.FromTwo
registers_of op.AndnCc = use_of.FromTwo
registers_of op.OrnCc = use_of.FromTwo
registers_of op.XnorCc = use_of.FromTwo
registers_of op.AddcCc = use_of.FromTwo
registers_of op.UmulCc = use_of.FromTwo
registers_of op.SmulCc = use_of.FromTwo
registers_of op.SubcCc = use_of.FromTwo
registers_of op.Sll = use_of.FromTwo
registers_of op.Srl = use_of.FromTwo
registers_of op.Sra = use_of.FromTwo
registers_of op.Sllx = use_of.FromTwo
registers_of op.Srlx = use_of.FromTwo
registers_of op.Srax = use_of.FromTwo
registers_of op.Jmpl = use_of.FromTwo
registers_of op.Save = use_of.FromTwo
registers_of op.Restore = use_of.FromTwo
registers_of op.Lduw = use_of.FromTwo
registers_of op.Ldub = use_of.FromTwo
registers_of op.Lduh = use_of.FromTwo
registers_of op.Ldsw = use_of.FromTwo
registers_of op.Ldsb = use_of.FromTwo
registers_of op.Ldsh = use_of.FromTwo
registers_of op.Ldx = use_of.FromTwo
registers_of op.Ldstub = use_of.FromTwo
-- rd is written from operand 2, or left as it is
registers_of op.Movcc = use_of.FromOperand2AndRd
-- rd is written from rs1, operand 2 and rd: exchanges, and a move that may leave rd as it is
registers_of op.Movr = use_of.FromThree
registers_of op.Swap = use_of.FromThree
registers_of op.Casa = use_of.FromThree
registers_of op.Casxa = use_of.FromThree

abbrev pub use_reads_rs1 : RegisterUse → Bool
use_reads_rs1 use_of.Nothing = false
use_reads_rs1 use_of.ReadRs1 = true
use_reads_rs1 use_of.ReadTwo = true
use_reads_rs1 use_of.ReadThree = true
use_reads_rs1 use_of.Write = false
use_reads_rs1 use_of.FromOperand2 = false
use_reads_rs1 use_of.FromTwo = true
use_reads_rs1 use_of.FromOperand2AndRd = false
use_reads_rs1 use_of.FromThree = true

-- the form reads the register of rs1
unfoldable pub reads_rs1 : Op → Bool
reads_rs1 o = use_reads_rs1 (registers_of o)

abbrev pub use_reads_src2 : RegisterUse → Bool
use_reads_src2 use_of.Nothing = false
use_reads_src2 use_of.ReadRs1 = false
use_reads_src2 use_of.ReadTwo = true
use_reads_src2 use_of.ReadThree = true
use_reads_src2 use_of.Write = false
use_reads_src2 use_of.FromOperand2 = true
use_reads_src2 use_of.FromTwo = true
use_reads_src2 use_of.FromOperand2AndRd = true
use_reads_src2 use_of.FromThree = true

-- the form uses operand 2
unfoldable pub reads_src2 : Op → Bool
reads_src2 o = use_reads_src2 (registers_of o)

abbrev pub use_reads_rd : RegisterUse → Bool
use_reads_rd use_of.Nothing = false
use_reads_rd use_of.ReadRs1 = false
use_reads_rd use_of.ReadTwo = false
use_reads_rd use_of.ReadThree = true
use_reads_rd use_of.Write = false
use_reads_rd use_of.FromOperand2 = false
use_reads_rd use_of.FromTwo = false
use_reads_rd use_of.FromOperand2AndRd = true
use_reads_rd use_of.FromThree = true

-- the form reads the register of rd: stores and exchanges do, and so do moves, which may leave it as it is
unfoldable pub reads_rd : Op → Bool
reads_rd o = use_reads_rd (registers_of o)

-- a condition looks at the codes unless it is never, 0, or always, 8
abbrev pub looks_at_codes : ℕ → Bool
looks_at_codes cond = not (cond == 0 || cond == 8)

-- the form reads the condition codes, with this condition where it has one
unfoldable pub reads_cc : Op → ℕ → Bool
reads_cc op.Bicc cond = looks_at_codes cond
reads_cc op.BPcc cond = looks_at_codes cond
reads_cc op.Movcc cond = looks_at_codes cond
reads_cc op.Tcc cond = looks_at_codes cond
reads_cc op.Addc cond = true
reads_cc op.Subc cond = true
reads_cc op.AddcCc cond = true
reads_cc op.SubcCc cond = true
reads_cc op.RdCcr cond = true
reads_cc _ cond = false

unfoldable pub reads_y : Op → Bool
reads_y op.RdY = true
reads_y _ = false

abbrev pub use_writes_rd : RegisterUse → Bool
use_writes_rd use_of.Nothing = false
use_writes_rd use_of.ReadRs1 = false
use_writes_rd use_of.ReadTwo = false
use_writes_rd use_of.ReadThree = false
use_writes_rd use_of.Write = true
use_writes_rd use_of.FromOperand2 = true
use_writes_rd use_of.FromTwo = true
use_writes_rd use_of.FromOperand2AndRd = true
use_writes_rd use_of.FromThree = true

-- the form writes the register of rd
unfoldable pub writes_rd : Op → Bool
writes_rd o = use_writes_rd (registers_of o)

unfoldable pub writes_cc : Op → Bool
writes_cc op.AddCc = true
writes_cc op.AndCc = true
writes_cc op.OrCc = true
writes_cc op.XorCc = true
writes_cc op.SubCc = true
writes_cc op.AndnCc = true
writes_cc op.OrnCc = true
writes_cc op.XnorCc = true
writes_cc op.AddcCc = true
writes_cc op.UmulCc = true
writes_cc op.SmulCc = true
writes_cc op.SubcCc = true
writes_cc op.WrCcr = true
writes_cc _ = false

unfoldable pub writes_y : Op → Bool
writes_y op.Umul = true
writes_y op.Smul = true
writes_y op.UmulCc = true
writes_y op.SmulCc = true
writes_y op.WrY = true
writes_y _ = false

-- the register of operand 2, if it is one
abbrev pub register_of : Src2 → Option ℕ
register_of (Reg r) = Some r
register_of (Imm z) = None

-- the third register: %o0, register 8, where a trap may ask for a service that speaks of it; else rd
unfoldable pub third_of_form : Op → ℕ → Option ℕ
third_of_form op.Tcc rd = Some 8
third_of_form o rd = if reads_rd o then Some rd else None

abbrev pub third_of : Instr → Option ℕ
third_of i = third_of_form i.op i.rd

abbrev pub sources_of : Instr → Sources
sources_of i = record {
  a = if reads_rs1 i.op then Some i.rs1 else None;
  b = if reads_src2 i.op then register_of i.src2 else None;
  c = third_of i;
  cc = reads_cc i.op i.cond;
  y = reads_y i.op;
}

-- the register that an instruction writes: 15 for CALL, else rd, and never register 0
unfoldable pub written_by_form : Op → ℕ → Option ℕ
written_by_form op.Call rd = Some 15
written_by_form o rd = if writes_rd o && not (rd == 0) then Some rd else None

abbrev pub written_of : Instr → Option ℕ
written_of i = written_by_form i.op i.rd

abbrev pub dest_of : Instr → Dest
dest_of i = record { reg = written_of i; cc = writes_cc i.op; y = writes_y i.op }

unfoldable pub window_effect_of_form : Op → WindowEffect
window_effect_of_form op.Save = window.Save
window_effect_of_form op.Restore = window.Restore
window_effect_of_form op.Return = window.Restore
window_effect_of_form op.Flushw = window.Flush
window_effect_of_form _ = window.Same

-- what an instruction does with the windows: RETURN goes back to the window before
abbrev pub window_effect_of : Instr → WindowEffect
window_effect_of i = window_effect_of_form i.op
