-- What a step runs: an instruction, or a step of the spill or fill that it needs first; what that reads, what it
-- writes, and what it does with the windows.
use Rattle.std.specs.Prelude.{◌≡◌, ℕ, ◌+◌, ◌≤◌, ◌<◌, ◌==◌, Bool, false, not, if◌then◌else◌, Option, Some, None}
use Rattle.rsim_base.specs.declared.processor.Window.{Window}
use Rattle.elf64_load.specs.Image.{ImageView}
use Rattle.sparc_decode.specs.declared.instr.Instr.{Instr}
use Rattle.sparc_decode.specs.declared.instr.Op.{Op}
use Rattle.sparc_decode.specs.declared.operands.Sources.{Sources}
use Rattle.sparc_decode.specs.declared.operands.Dest.{Dest}
use Rattle.sparc_decode.specs.declared.operands.WindowEffect.{WindowEffect}
use Rattle.sparc_decode.specs.declared.operands.WindowEffect.TheVariants as effect
use Rattle.sparc_decode.specs.Effects.{sources_of, dest_of, window_effect_of}
use Rattle.sparc_decode.specs.Ranges.{IsInRange}
use Rattle.sparc_meaning.specs.declared.arch.Arch.{Arch}
use Rattle.sparc_meaning.specs.declared.arch.ArchPhase.{ArchPhase}
use Rattle.sparc_meaning.specs.declared.arch.ArchPhase.TheVariants.{Run, Spill, Fill}
use Rattle.sparc_meaning.specs.declared.fetched.Fetched.{Fetched}
use Rattle.sparc_meaning.specs.declared.fetched.Operands.{Operands}
use Rattle.sparc_meaning.specs.Arch.{below, register_of}
use Rattle.sparc_meaning.specs.Step.{instr_at}
use Rattle.sparc_meaning.specs.Stepped.{pair_of}
use Rattle.sparc_meaning.specs.Windows.{windows_of, window_above, window_below, one_less_kept, one_more_kept, oldest, slot_register, spills_first, fills_first}

-- ---- what a step runs

-- which part of it: the first step of a spill or fill that it needs, or a step of the one that has begun
abbrev pub part_of : ArchPhase → Op → Arch → ArchPhase
part_of Run o s = if spills_first o s then Spill 0 else if fills_first o s then Fill 0 else Run
part_of (Spill k) o s = Spill k
part_of (Fill k) o s = Fill k

-- this part of the instruction, where the processor stands
abbrev pub part_at : ArchPhase → Instr → Arch → Fetched
part_at part i s = record { pair = pair_of s; window = windows_of s; part = part; instr = i }

-- what the next step runs
abbrev pub next_of : ImageView → Arch → Fetched
next_of image s = let i = instr_at image s.pc in part_at (part_of s.phase i.op s) i s

-- ---- what it reads

-- A spill reads a window's stack pointer and the register that it stores, a fill the stack pointer.
abbrev pub sources_by : ArchPhase → Instr → Sources
sources_by Run i = sources_of i
sources_by (Spill k) i = record { a = Some 14; b = None; c = Some (slot_register k); cc = false; y = false }
sources_by (Fill k) i = record { a = Some 14; b = None; c = None; cc = false; y = false }

-- the window whose registers it reads: the one that is spilled, the one that is filled, or the current one
abbrev pub read_in : ArchPhase → Window → ℕ
read_in Run w = w.cwp
read_in (Spill k) w = oldest w
read_in (Fill k) w = below w.cwp

abbrev pub value_at : Option ℕ → ℕ → Arch → ℕ
value_at None w s = 0
value_at (Some r) w s = register_of w s r

-- the values of these sources, in registers of window w
abbrev pub read : Sources → ℕ → Arch → Operands
read named w s = record {
  a = value_at named.a w s;
  b = value_at named.b w s;
  c = value_at named.c w s;
  cc = if named.cc then s.cc else 0;
  y = if named.y then s.y else 0;
}

abbrev pub operands : Fetched → Arch → Operands
operands f s = read (sources_by f.part f.instr) (read_in f.part f.window) s

-- ---- what it writes, and what it does with the windows

-- a fill writes the register that it loads
abbrev pub dest_by : ArchPhase → Instr → Dest
dest_by Run i = dest_of i
dest_by (Spill k) i = record { reg = None; cc = false; y = false }
dest_by (Fill k) i = record { reg = Some (slot_register k); cc = false; y = false }

-- the windows that an instruction of this effect goes to; FLUSHW has spilled all before it runs
abbrev pub moved : WindowEffect → Window → Window
moved effect.Same w = w
moved effect.Flush w = w
moved effect.Save w = window_above w
moved effect.Restore w = window_below w

-- the windows after it: the last step of a spill or fill changes how many are kept
abbrev pub windows_by : ArchPhase → Instr → Window → Window
windows_by Run i w = moved (window_effect_of i) w
windows_by (Spill k) i w = if k == 15 then one_less_kept w else w
windows_by (Fill k) i w = if k == 15 then one_more_kept w else w

-- the window whose register it writes: an instruction writes in the window that it goes to
abbrev pub written_in : ArchPhase → Instr → Window → ℕ
written_in Run i w = (windows_by Run i w).cwp
written_in (Spill k) i w = oldest w
written_in (Fill k) i w = below w.cwp

abbrev pub phase_after : ArchPhase → ArchPhase
phase_after Run = Run
phase_after (Spill k) = if k == 15 then Run else Spill (k + 1)
phase_after (Fill k) = if k == 15 then Run else Fill (k + 1)

-- ---- which of these there are

-- six windows beside the current one and the one of its outs
pub record AreWindows (w : Window) : Type 0 where
  pub current : w.cwp < 8
  pub others : w.cansave + w.canrestore ≡ 6

-- an instruction of this effect must spill a window first: SAVE has none to save to, FLUSHW wants to save to all
abbrev pub spills_by : WindowEffect → Window → Bool
spills_by effect.Save w = w.cansave == 0
spills_by effect.Flush w = not (w.cansave == 6)
spills_by effect.Same w = false
spills_by effect.Restore w = false

-- or fill one: RESTORE and RETURN have none to restore from
abbrev pub fills_by : WindowEffect → Window → Bool
fills_by effect.Restore w = w.canrestore == 0
fills_by effect.Save w = false
fills_by effect.Flush w = false
fills_by effect.Same w = false

-- an instruction runs where it needs neither; a spill has a window to store, a fill one to load
abbrev pub IsPart : ArchPhase → WindowEffect → Window → Type 0
IsPart Run e w = (spills_by e w ≡ false) × (fills_by e w ≡ false)
IsPart (Spill k) e w = (k ≤ 15) × (1 ≤ w.canrestore)
IsPart (Fill k) e w = (k ≤ 15) × (1 ≤ w.cansave)

pub record IsFetched (f : Fetched) : Type 0 where
  pub windows : AreWindows f.window
  pub instr : IsInRange f.instr
  pub part : IsPart f.part (window_effect_of f.instr) f.window
