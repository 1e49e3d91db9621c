-- The ranges of an instruction's fields.
use Rattle.std.specs.Prelude.{◌<◌, ⊤}
use Rattle.sparc_decode.specs.declared.instr.Instr.{Instr}
use Rattle.sparc_decode.specs.declared.instr.Src2.{Src2}
use Rattle.sparc_decode.specs.declared.instr.Src2.TheVariants.{Reg, Imm}

-- a register is one of the window
abbrev pub IsOperand : Src2 → Type 0
IsOperand (Reg r) = r < 32
IsOperand (Imm z) = ⊤

pub record IsInRange (i : Instr) : Type 0 where
  pub rd : i.rd < 32
  pub rs1 : i.rs1 < 32
  pub src2 : IsOperand i.src2
  pub cond : i.cond < 16
  pub mask : i.mask < 16
