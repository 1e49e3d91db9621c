-- What a step will read from memory, before it is made: this depends on no value.
use Rattle.std.specs.Prelude.{ℕ, ◌%◌, ◌==◌, Bool, not, ◌&&◌, if◌then◌else◌}
use Rattle.rsim_base.specs.Bytes.{count_of}
use Rattle.rsim_base.specs.declared.memory.Size.{Size}
use Rattle.rsim_base.specs.declared.memory.Size.TheVariants.{B1, B4, B8}
use Rattle.elf64_load.specs.Image.{ImageView, is_readable, is_writable}
use Rattle.sparc_decode.specs.declared.instr.Instr.{Instr}
use Rattle.sparc_decode.specs.declared.kinds.FormKind.{FormKind}
use Rattle.sparc_decode.specs.declared.kinds.FormKind.TheVariants as kinds
use Rattle.sparc_decode.specs.Kinds.{kind}
use Rattle.sparc_meaning.specs.declared.acts.Want.{Want}
use Rattle.sparc_meaning.specs.declared.acts.Want.TheVariants as want
use Rattle.sparc_meaning.specs.declared.arch.Arch.{Arch}
use Rattle.sparc_meaning.specs.declared.arch.ArchPhase.{ArchPhase}
use Rattle.sparc_meaning.specs.declared.arch.ArchPhase.TheVariants.{Run, Spill, Fill}
use Rattle.sparc_meaning.specs.Forms as form
use Rattle.sparc_meaning.specs.Step.{instr_at}
use Rattle.sparc_meaning.specs.Windows.{spills_first, fills_first, filled, slot}

-- an access where its address is a multiple of its size and may be accessed
abbrev pub where_allowed : Size → ℕ → Bool → Want → Want
where_allowed n addr allowed access =
    if not (addr % count_of n == 0) then want.None else if not allowed then want.None else access

abbrev pub load_at : Size → ℕ → ImageView → Want
load_at n addr image = where_allowed n addr (is_readable image addr (count_of n)) (want.Load (record { 0 = addr }) n)

abbrev pub atomic_at : Size → ℕ → ImageView → Want
atomic_at n addr image =
    where_allowed n addr (is_readable image addr (count_of n) && is_writable image addr (count_of n)) (want.Atomic (record { 0 = addr }) n)

unfoldable pub by_kind : FormKind → ImageView → Instr → Arch → Want
by_kind (kinds.Loads n) image i s = load_at n (form.total i s) image
by_kind kinds.LoadsAndStoresByte image i s = atomic_at B1 (form.total i s) image
by_kind kinds.Swaps image i s = atomic_at B4 (form.total i s) image
by_kind (kinds.ComparesAndSwaps n) image i s = atomic_at n (form.first i s) image
by_kind _ image i s = want.None

abbrev pub by_fill : ℕ → ImageView → Arch → Want
by_fill k image s = load_at B8 (slot (filled s) s k) image

abbrev pub by_instr : Instr → ImageView → Arch → Want
by_instr i image s =
    if spills_first i.op s then want.None
    else if fills_first i.op s then by_fill 0 image s
    else by_kind (kind i.op) image i s

abbrev pub by_phase : ArchPhase → ImageView → Arch → Want
by_phase Run image s = by_instr (instr_at image s.pc) image s
by_phase (Spill k) image s = want.None
by_phase (Fill k) image s = by_fill k image s

unfoldable pub wanted : ImageView → Arch → Want
wanted image s = by_phase s.phase image s
