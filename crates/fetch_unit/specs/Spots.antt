-- The place on the path at which a processor stands.
use Rattle.std.specs.Prelude.{◌≡◌, ℕ, ⊤, true, Option, None, Some}
use Rattle.elf64_load.specs.Image.{ImageView}
use Rattle.sparc_decode.specs.declared.instr.Op.{Op}
use Rattle.sparc_meaning.specs.declared.arch.Arch.{Arch}
use Rattle.sparc_meaning.specs.declared.arch.ArchPhase.{ArchPhase}
use Rattle.sparc_meaning.specs.declared.arch.ArchPhase.TheVariants.{Run, Spill, Fill}
use Rattle.sparc_meaning.specs.Step.{instr_at}
use Rattle.sparc_meaning.specs.Stepped.{pair_of}
use Rattle.sparc_meaning.specs.Windows.{windows_of, spills_first, fills_first}
use Rattle.fetch_unit.specs.declared.path.Spot.{Spot}

-- the next step of a spill or fill that is under way
abbrev pub micro_of : ArchPhase → Option ℕ
micro_of Run = None
micro_of (Spill k) = Some k
micro_of (Fill k) = Some k

abbrev pub spot_of : Arch → Spot
spot_of s = record { pair = pair_of s; micro = micro_of s.phase; window = windows_of s }

-- a spill or fill that is under way is one that this form needs
abbrev pub IsNeeded : ArchPhase → Op → Arch → Type 0
IsNeeded Run o s = ⊤
IsNeeded (Spill k) o s = spills_first o s ≡ true
IsNeeded (Fill k) o s = fills_first o s ≡ true

-- it is one that the instruction at the processor's pc needs
abbrev pub HasBegun : ImageView → Arch → Type 0
HasBegun image s = IsNeeded s.phase (instr_at image s.pc).op s
