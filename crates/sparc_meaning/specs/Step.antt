-- One step of a processor: the meaning of the instruction set, one instruction at a time.
use Rattle.std.specs.Prelude.{ℕ, if◌then◌else◌, Option, Some, None}
use Rattle.elf64_load.specs.Image.{ImageView, fetched}
use Rattle.sparc_decode.specs.declared.instr.Instr.{Instr}
use Rattle.sparc_decode.specs.Forms.{ill}
use Rattle.sparc_decode.specs.Instr.{instr}
use Rattle.sparc_decode.specs.Kinds.{kind}
use Rattle.sparc_meaning.specs.declared.arch.Arch.{Arch}
use Rattle.sparc_meaning.specs.declared.arch.ArchPhase.{ArchPhase}
use Rattle.sparc_meaning.specs.declared.arch.ArchPhase.TheVariants.{Run, Spill, Fill}
use Rattle.sparc_meaning.specs.Forms.{executed}
use Rattle.sparc_meaning.specs.Stepped.{Stepped}
use Rattle.sparc_meaning.specs.Windows.{spills_first, fills_first, spill, fill}

-- an instruction, after the spill or fill that it needs first
abbrev pub of_instr : Instr → ImageView → Arch → ℕ → Stepped
of_instr i image s value =
    if spills_first i.op s then spill 0 image s
    else if fills_first i.op s then fill 0 image s value
    else executed (kind i.op) image i s value

-- the instruction that a word stands for; where there is no word, trap 0x008, instruction_access_exception
abbrev pub instr_of : Option ℕ → Instr
instr_of None = ill 0x008
instr_of (Some word) = instr word

-- the instruction at an address
abbrev pub instr_at : ImageView → ℕ → Instr
instr_at image pc = instr_of (fetched image pc)

-- a spill or fill that has begun goes on
abbrev pub in_phase : ArchPhase → ImageView → Arch → ℕ → Stepped
in_phase Run image s value = of_instr (instr_at image s.pc) image s value
in_phase (Spill k) image s value = spill k image s
in_phase (Fill k) image s value = fill k image s value

-- A step from a state of a processor that has not ended. The value is what memory has where the step reads it,
-- and is used by no other step.
unfoldable pub step : ImageView → Arch → ℕ → Stepped
step image s value = in_phase s.phase image s value
