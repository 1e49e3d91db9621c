-- What each form is, and which unit executes it: a row for each form, so that a new one is of no kind unasked.
use Rattle.rsim_base.specs.declared.memory.Size.TheVariants.{B1, B2, B4, B8}
use Rattle.sparc_decode.specs.declared.instr.Op.{Op}
use Rattle.sparc_decode.specs.declared.instr.Op.TheVariants as op
use Rattle.sparc_decode.specs.declared.kinds.FormKind.{FormKind}
use Rattle.sparc_decode.specs.declared.kinds.FormKind.TheVariants.{Traps, BranchesOnCodes, BranchesOnRegister, Calls, Jumps, Returns, Moves, TrapsIfTaken, SetsHigh, ReadsPc, Fences, DoesNothing, Saves, Restores, Loads, Stores, LoadsAndStoresByte, Swaps, ComparesAndSwaps, Computes}
use Rattle.rsim_base.specs.declared.processor.Unit.{Unit}
use Rattle.rsim_base.specs.declared.processor.Unit.TheVariants.{Alu, Mul, Div}

abbrev pub row : Op → FormKind × Unit
row op.Trap = (Traps, Alu)
row op.Bicc = (BranchesOnCodes, Alu)
row op.BPcc = (BranchesOnCodes, Alu)
row op.BPr = (BranchesOnRegister, Alu)
row op.Call = (Calls, Alu)
row op.Jmpl = (Jumps, Alu)
row op.Return = (Returns, Alu)
row op.Movcc = (Moves, Alu)
row op.Movr = (Moves, Alu)
row op.Tcc = (TrapsIfTaken, Alu)
row op.Sethi = (SetsHigh, Alu)
row op.RdPc = (ReadsPc, Alu)
row op.Membar = (Fences, Alu)
row op.Stbar = (Fences, Alu)
row op.Flush = (DoesNothing, Alu)
row op.Flushw = (DoesNothing, Alu)
row op.Prefetch = (DoesNothing, Alu)
row op.Save = (Saves, Alu)
row op.Restore = (Restores, Alu)
row op.Ldub = (Loads B1, Alu)
row op.Ldsb = (Loads B1, Alu)
row op.Lduh = (Loads B2, Alu)
row op.Ldsh = (Loads B2, Alu)
row op.Lduw = (Loads B4, Alu)
row op.Ldsw = (Loads B4, Alu)
row op.Ldx = (Loads B8, Alu)
row op.Stb = (Stores B1, Alu)
row op.Sth = (Stores B2, Alu)
row op.Stw = (Stores B4, Alu)
row op.Stx = (Stores B8, Alu)
row op.Ldstub = (LoadsAndStoresByte, Alu)
row op.Swap = (Swaps, Alu)
row op.Casa = (ComparesAndSwaps B4, Alu)
row op.Casxa = (ComparesAndSwaps B8, Alu)
row op.Add = (Computes, Alu)
row op.And = (Computes, Alu)
row op.Or = (Computes, Alu)
row op.Xor = (Computes, Alu)
row op.Sub = (Computes, Alu)
row op.Andn = (Computes, Alu)
row op.Orn = (Computes, Alu)
row op.Xnor = (Computes, Alu)
row op.Addc = (Computes, Alu)
row op.Subc = (Computes, Alu)
row op.AddCc = (Computes, Alu)
row op.AndCc = (Computes, Alu)
row op.OrCc = (Computes, Alu)
row op.XorCc = (Computes, Alu)
row op.SubCc = (Computes, Alu)
row op.AndnCc = (Computes, Alu)
row op.OrnCc = (Computes, Alu)
row op.XnorCc = (Computes, Alu)
row op.AddcCc = (Computes, Alu)
row op.SubcCc = (Computes, Alu)
row op.Sll = (Computes, Alu)
row op.Srl = (Computes, Alu)
row op.Sra = (Computes, Alu)
row op.Sllx = (Computes, Alu)
row op.Srlx = (Computes, Alu)
row op.Srax = (Computes, Alu)
row op.Popc = (Computes, Alu)
row op.RdY = (Computes, Alu)
row op.RdCcr = (Computes, Alu)
row op.WrY = (Computes, Alu)
row op.WrCcr = (Computes, Alu)
-- products and quotients have units of their own
row op.Mulx = (Computes, Mul)
row op.Umul = (Computes, Mul)
row op.Smul = (Computes, Mul)
row op.UmulCc = (Computes, Mul)
row op.SmulCc = (Computes, Mul)
row op.Udivx = (Computes, Div)
row op.Sdivx = (Computes, Div)

-- what the instructions of a form do
unfoldable pub kind : Op → FormKind
kind o = (row o).0

-- and the unit that executes them
unfoldable pub unit_of : Op → Unit
unit_of o = (row o).1
