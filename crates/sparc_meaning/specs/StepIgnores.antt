-- A step that reads nothing from memory doesn't use the value that it is given.
use Rattle.std.proofs.Common.{◌≡◌, ◌%◌, ◌==◌, ◌&&◌, ℕ, Bool, true, false, not, if◌then◌else◌, refl}
use Rattle.rsim_base.specs.Bytes.{count_of, low_bytes}
use Rattle.rsim_base.specs.declared.memory.Size.{Size}
use Rattle.rsim_base.specs.declared.memory.Size.TheVariants.{B1, B4, B8}
use Rattle.elf64_load.specs.Image.{ImageView, is_readable, is_writable}
use Rattle.sparc_decode.specs.declared.instr.Instr.{Instr}
use Rattle.sparc_decode.specs.declared.kinds.FormKind.{FormKind}
use Rattle.sparc_decode.specs.declared.kinds.FormKind.TheVariants as kinds
use Rattle.sparc_decode.specs.Kinds.{kind}
use Rattle.sparc_alu.specs.Accesses.{extended}
use Rattle.sparc_meaning.specs.declared.acts.Act.TheVariants.{Load, Atomic}
use Rattle.sparc_meaning.specs.declared.arch.Arch.{Arch}
use Rattle.sparc_meaning.specs.declared.arch.ArchPhase.{ArchPhase}
use Rattle.sparc_meaning.specs.declared.arch.ArchPhase.TheVariants.{Run, Spill, Fill}
use Rattle.sparc_meaning.specs.Arch.{register, with_register, with_register_of}
use Rattle.sparc_meaning.specs.Forms as form
use Rattle.sparc_meaning.specs.Forms.{executed}
use Rattle.sparc_meaning.specs.Run.{uses_value}
use Rattle.sparc_meaning.specs.Step.{step, in_phase, of_instr, instr_at}
use Rattle.sparc_meaning.specs.Stepped.{Stepped, accessed, goes_on, trapped}
use Rattle.sparc_meaning.specs.Windows.{spills_first, fills_first, spill, fill, filled, slot, slot_register, after_fill}

-- two steps are the same if the first reads nothing
record Same (x y : Stepped) : Type 0 where
  is : uses_value x.act ≡ false → y ≡ x

same : (x : Stepped) → Same x x
same x = record { is = λ quiet. refl }

either : (b : Bool) (x y v w : Stepped) → Same x v → Same y w → Same (if b then x else y) (if b then v else w)
either true x y v w p q = p
either false x y v w p q = q

accessed_same : (n : Size) (addr : ℕ) (allowed : Bool) (x y : Stepped) (s : Arch) → Same x y → Same (accessed n addr allowed x s) (accessed n addr allowed y s)
accessed_same n addr allowed x y s p =
    either (not (addr % count_of n == 0)) (trapped 0x034 s) _ (trapped 0x034 s) _ (same _) (either (not allowed) (trapped 0x030 s) x (trapped 0x030 s) y (same _) p)

load_same : (n : Size) (image : ImageView) (i : Instr) (s : Arch) (v w : ℕ) → Same (form.load n image i s v) (form.load n image i s w)
load_same n image i s v w =
    let addr = form.total i s in
    let done = λ (value : ℕ). goes_on (Load (record { 0 = addr }) n value) (with_register i.rd (extended i.op value) s) in
    accessed_same n addr (is_readable image addr (count_of n)) (done v) (done w) s (record { is = λ quiet. absurd cc })

exchange_same : (n : Size) (addr a b : ℕ) (image : ImageView) (i : Instr) (s : Arch) (v w : ℕ) → Same (form.exchange n addr a image i s v) (form.exchange n addr b image i s w)
exchange_same n addr a b image i s v w =
    let done = λ (stored value : ℕ). goes_on (Atomic (record { 0 = addr }) n value stored) (with_register i.rd (extended i.op value) s) in
    accessed_same n addr (is_readable image addr (count_of n) && is_writable image addr (count_of n)) (done a v) (done b w) s (record { is = λ quiet. absurd cc })

executed_same : (k : FormKind) (image : ImageView) (i : Instr) (s : Arch) (v w : ℕ) → Same (executed k image i s v) (executed k image i s w)
unfolding executed
executed_same (kinds.Loads n) image i s v w = load_same n image i s v w
executed_same kinds.LoadsAndStoresByte image i s v w = exchange_same B1 (form.total i s) 0xFF 0xFF image i s v w
executed_same kinds.Swaps image i s v w = let stored = low_bytes B4 (register s i.rd) in exchange_same B4 (form.total i s) stored stored image i s v w
executed_same (kinds.ComparesAndSwaps n) image i s v w = exchange_same n (form.first i s) (form.kept_or_swapped n i s v) (form.kept_or_swapped n i s w) image i s v w
executed_same _ image i s v w = same _

fill_same : (k : ℕ) (image : ImageView) (s : Arch) (v w : ℕ) → Same (fill k image s v) (fill k image s w)
fill_same k image s v w =
    let addr = slot (filled s) s k in
    let done = λ (value : ℕ). let x : Stepped = record { state = after_fill k (with_register_of (filled s) (slot_register k) value s); act = Load (record { 0 = addr }) B8 value } in x in
    accessed_same B8 addr (is_readable image addr 8) (done v) (done w) s (record { is = λ quiet. absurd cc })

of_instr_same : (i : Instr) (image : ImageView) (s : Arch) (v w : ℕ) → Same (of_instr i image s v) (of_instr i image s w)
of_instr_same i image s v w =
    either (spills_first i.op s) (spill 0 image s) _ (spill 0 image s) _ (same _)
    (either (fills_first i.op s) (fill 0 image s v) _ (fill 0 image s w) _ (fill_same 0 image s v w) (executed_same (kind i.op) image i s v w))

in_phase_same : (phase : ArchPhase) (image : ImageView) (s : Arch) (v w : ℕ) → Same (in_phase phase image s v) (in_phase phase image s w)
in_phase_same Run image s v w = of_instr_same (instr_at image s.pc) image s v w
in_phase_same (Spill k) image s v w = same _
in_phase_same (Fill k) image s v w = fill_same k image s v w

pub step_ignores : (image : ImageView) (s : Arch) (v w : ℕ) → uses_value (step image s v).act ≡ false → step image s w ≡ step image s v
unfolding step
step_ignores image s v w quiet = (in_phase_same s.phase image s v w).is quiet
