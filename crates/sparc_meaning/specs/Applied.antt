-- What a step that gives this does to a state, with the value that it loads.
use Rattle.std.specs.Prelude.{ℕ, if◌then◌else◌, Option, Some, None}
use Rattle.rsim_base.specs.Bytes.{low_bytes}
use Rattle.rsim_base.specs.declared.memory.Size.{Size}
use Rattle.rsim_base.specs.declared.memory.Size.TheVariants.{B1, B4, B8}
use Rattle.sparc_decode.specs.declared.instr.Instr.{Instr}
use Rattle.sparc_decode.specs.declared.kinds.FormKind.{FormKind}
use Rattle.sparc_decode.specs.declared.kinds.FormKind.TheVariants.{Fences, Loads, Stores, LoadsAndStoresByte, Swaps, ComparesAndSwaps}
use Rattle.sparc_decode.specs.Kinds.{kind}
use Rattle.sparc_alu.specs.Accesses.{extended, swapped}
use Rattle.sparc_meaning.specs.declared.acts.Act.{Act}
use Rattle.sparc_meaning.specs.declared.acts.Act.TheVariants.{Nothing, Load, Store, Atomic, Fence, Out}
use Rattle.sparc_meaning.specs.declared.acts.Spoken.{Spoken}
use Rattle.sparc_meaning.specs.declared.arch.Arch.{Arch}
use Rattle.sparc_meaning.specs.declared.arch.ArchPhase.{ArchPhase}
use Rattle.sparc_meaning.specs.declared.arch.ArchPhase.TheVariants.{Run, Spill, Fill}
use Rattle.sparc_meaning.specs.declared.fetched.Computed.{Computed}
use Rattle.sparc_meaning.specs.declared.fetched.Fetched.{Fetched}
use Rattle.sparc_meaning.specs.declared.fetched.Operands.{Operands}
use Rattle.sparc_meaning.specs.Arch.{is_running, with_register_of}
use Rattle.sparc_meaning.specs.Computed.{second}
use Rattle.sparc_meaning.specs.Fetched.{dest_by, windows_by, written_in, phase_after}
use Rattle.sparc_meaning.specs.Stepped.{Stepped, ends}

-- the value that is written: a load or an atomic writes what it has loaded, extended
unfoldable pub result_by : FormKind → Instr → Computed → ℕ → ℕ
result_by (Loads n) i c loaded = extended i.op loaded
result_by LoadsAndStoresByte i c loaded = extended i.op loaded
result_by Swaps i c loaded = extended i.op loaded
result_by (ComparesAndSwaps n) i c loaded = extended i.op loaded
result_by _ i c loaded = c.value

abbrev pub result_in : ArchPhase → Instr → Computed → ℕ → ℕ
result_in Run i c loaded = result_by (kind i.op) i c loaded
result_in (Spill k) i c loaded = c.value
result_in (Fill k) i c loaded = loaded

-- the state with this value in a register of window w
abbrev pub with_destination : Option ℕ → ℕ → ℕ → Arch → Arch
with_destination None w value s = s
with_destination (Some r) w value s = with_register_of w r value s

-- the state in which it has written its destinations, and stands at the next pair, in the windows after it
abbrev pub advanced : Fetched → Computed → ℕ → Arch → Arch
advanced f c loaded s =
    let dest = dest_by f.part f.instr in
    let put = with_destination dest.reg (written_in f.part f.instr f.window) (result_in f.part f.instr c loaded) s in
    let w = windows_by f.part f.instr f.window in
    record s {
      globals = put.globals;
      windowed = put.windowed;
      cc = if dest.cc then c.cc else s.cc;
      y = if dest.y then c.y else s.y;
      pc = c.next.pc;
      npc = c.next.npc;
      cwp = w.cwp;
      cansave = w.cansave;
      canrestore = w.canrestore;
      phase = phase_after f.part;
    }

abbrev pub spoken : Option Spoken → Act
spoken None = Nothing
spoken (Some words) = Out words

-- a compare-and-swap stores the register where memory has the second operand
abbrev pub compared : Size → Fetched → Operands → Computed → ℕ → Act
compared n f x c loaded = Atomic (record { 0 = c.addr }) n loaded (swapped loaded (second f.instr.src2 x) (low_bytes n x.c) n)

-- what it does beside
unfoldable pub act_by : FormKind → Fetched → Operands → Computed → ℕ → Act
act_by Fences f x c loaded = Fence f.instr.mask
act_by (Loads n) f x c loaded = Load (record { 0 = c.addr }) n loaded
act_by (Stores n) f x c loaded = Store (record { 0 = c.addr }) n (low_bytes n x.c)
act_by LoadsAndStoresByte f x c loaded = Atomic (record { 0 = c.addr }) B1 loaded 0xFF
act_by Swaps f x c loaded = Atomic (record { 0 = c.addr }) B4 loaded (low_bytes B4 x.c)
act_by (ComparesAndSwaps n) f x c loaded = compared n f x c loaded
act_by _ f x c loaded = spoken c.out

abbrev pub act_in : ArchPhase → Fetched → Operands → Computed → ℕ → Act
act_in Run f x c loaded = act_by (kind f.instr.op) f x c loaded
act_in (Spill k) f x c loaded = Store (record { 0 = c.addr }) B8 x.c
act_in (Fill k) f x c loaded = Load (record { 0 = c.addr }) B8 loaded

-- It ends the processor and changes nothing else, or it goes on.
abbrev pub applied : Fetched → Operands → Computed → ℕ → Arch → Stepped
applied f x c loaded s =
    if is_running c.end then record { state = advanced f c loaded s; act = act_in f.part f x c loaded } else ends c.end s
