-- The access of a step is one that its image allows, and only some steps store.
use Rattle.std.proofs.Common.{◌≡◌, ◌%◌, ◌==◌, ◌&&◌, ℕ, Bool, true, false, not, if◌then◌else◌, Result, Ok, Err, refl, sym, ◌∙◌}
use Rattle.std.proofs.lemmas.Bool.{not-false}
use Rattle.rsim_base.specs.Bytes.{count_of, low_bytes}
use Rattle.rsim_base.specs.declared.memory.Size.{Size}
use Rattle.rsim_base.specs.declared.memory.Size.TheVariants.{B1, B4, B8}
use Rattle.elf64_load.specs.Image.{ImageView, is_readable, is_writable}
use Rattle.sparc_decode.specs.declared.instr.Instr.{Instr}
use Rattle.sparc_decode.specs.declared.instr.Op.{Op}
use Rattle.sparc_decode.specs.declared.instr.Op.TheVariants as op
use Rattle.sparc_decode.specs.declared.kinds.FormKind.{FormKind}
use Rattle.sparc_decode.specs.declared.kinds.FormKind.TheVariants as kinds
use Rattle.sparc_decode.specs.Kinds.{kind}
use Rattle.sparc_alu.specs.Accesses.{extended}
use Rattle.sparc_alu.specs.declared.arithmetic.AluOut.{AluOut}
use Rattle.sparc_alu.specs.declared.arithmetic.DivisionByZero.{DivisionByZero}
use Rattle.sparc_meaning.specs.declared.acts.Act.{Act}
use Rattle.sparc_meaning.specs.declared.acts.Act.TheVariants.{Nothing, Load, Store, Atomic, Fence, Out, End as Ended}
use Rattle.sparc_meaning.specs.declared.arch.Arch.{Arch}
use Rattle.sparc_meaning.specs.declared.arch.ArchPhase.{ArchPhase}
use Rattle.sparc_meaning.specs.declared.arch.ArchPhase.TheVariants.{Run, Spill, Fill}
use Rattle.sparc_meaning.specs.Arch.{register, register_of, with_register, with_register_of}
use Rattle.sparc_meaning.specs.Forms as form
use Rattle.sparc_meaning.specs.Forms.{executed}
use Rattle.sparc_meaning.specs.Step.{step, in_phase, of_instr, instr_at}
use Rattle.sparc_meaning.specs.Stepped.{Stepped, accessed, goes_on, service, trapped}
use Rattle.sparc_meaning.specs.Windows.{spills_first, fills_first, spill, fill, spilled, filled, slot, slot_register, after_spill, after_fill}
use Rattle.cycle_loop.specs.Stores.{is_store, may_store, may_store_by}

-- ---- acts that are allowed

-- what is loaded from may be read, and what is stored to may be written
abbrev pub IsAllowed : ImageView → Act → Type 0
IsAllowed image (Load addr n loaded) = is_readable image addr.0 (count_of n) ≡ true
IsAllowed image (Store addr n value) = is_writable image addr.0 (count_of n) ≡ true
IsAllowed image (Atomic addr n loaded value) = (is_readable image addr.0 (count_of n) && is_writable image addr.0 (count_of n)) ≡ true
IsAllowed image Nothing = Unit {0}
IsAllowed image (Fence mask) = Unit {0}
IsAllowed image (Out spoken) = Unit {0}
IsAllowed image Ended = Unit {0}

-- a step that is allowed, and stores only where it may
record Does (image : ImageView) (may : Bool) (x : Stepped) : Type 0 where
  allowed : IsAllowed image x.act
  stores : may ≡ false → is_store x.act ≡ false

quiet : (image : ImageView) (may : Bool) (s : Arch) (act : Act) → IsAllowed image act → is_store act ≡ false → Does image may (record { state = s; act = act })
quiet image may s act allowed none = record { allowed = allowed; stores = λ no. none }

either : (image : ImageView) (may b : Bool) (x y : Stepped) → Does image may x → Does image may y → Does image may (if b then x else y)
either image may true x y p q = p
either image may false x y p q = q

chosen : (image : ImageView) (may b : Bool) (x y : Stepped) → (b ≡ true → Does image may x) → (b ≡ false → Does image may y) → Does image may (if b then x else y)
chosen image may true x y p q = p refl
chosen image may false x y p q = q refl

accessed_does : (image : ImageView) (may : Bool) (n : Size) (addr : ℕ) (allowed : Bool) (done : Stepped) (s : Arch) → (allowed ≡ true → Does image may done) → Does image may (accessed n addr allowed done s)
accessed_does image may n addr allowed done s p =
    either image may (not (addr % count_of n == 0)) (trapped 0x034 s) _ (quiet image may _ Ended tt refl)
    (chosen image may (not allowed) (trapped 0x030 s) done (λ no. quiet image may _ Ended tt refl) (λ yes. p (not-false allowed yes)))

load_does : (may : Bool) (n : Size) (image : ImageView) (i : Instr) (s : Arch) (value : ℕ) → Does image may (form.load n image i s value)
load_does may n image i s value =
    let addr = form.total i s in
    accessed_does image may n addr (is_readable image addr (count_of n)) (goes_on (Load (record { 0 = addr }) n value) (with_register i.rd (extended i.op value) s)) s
    (λ may_read. quiet image may _ (Load (record { 0 = addr }) n value) may_read refl)

exchange_does : (may : Bool) (n : Size) (addr stored : ℕ) (image : ImageView) (i : Instr) (s : Arch) (value : ℕ) → Does image may (form.exchange n addr stored image i s value)
exchange_does may n addr stored image i s value =
    accessed_does image may n addr (is_readable image addr (count_of n) && is_writable image addr (count_of n))
    (goes_on (Atomic (record { 0 = addr }) n value stored) (with_register i.rd (extended i.op value) s)) s
    (λ both. quiet image may _ (Atomic (record { 0 = addr }) n value stored) both refl)

store_does : (n : Size) (image : ImageView) (i : Instr) (s : Arch) → Does image true (form.store n image i s)
store_does n image i s =
    let addr = form.total i s in
    accessed_does image true n addr (is_writable image addr (count_of n)) (goes_on (Store (record { 0 = addr }) n (low_bytes n (register s i.rd))) s) s
    (λ may_write. record { allowed = may_write; stores = λ no. absurd cc })

service_does : (image : ImageView) (may : Bool) (number : ℕ) (s : Arch) → Does image may (service number s)
service_does image may number s =
    either image may (number == 16) _ _ (quiet image may _ Ended tt refl)
    (either image may (number == 17) _ _ (quiet image may _ (Out _) tt refl) (either image may (number == 18) _ _ (quiet image may _ (Out _) tt refl) (quiet image may _ Ended tt refl)))

written_does : (image : ImageView) (may : Bool) (result : Result AluOut DivisionByZero) (i : Instr) (s : Arch) → Does image may (form.written result i s)
written_does image may (Ok out) i s = quiet image may _ Nothing tt refl
written_does image may (Err fault) i s = quiet image may _ Ended tt refl

abbrev is_storing : FormKind → Bool
is_storing (kinds.Stores n) = true
is_storing _ = false

executed_does : (k : FormKind) (image : ImageView) (i : Instr) (s : Arch) (value : ℕ) → Does image (is_storing k) (executed k image i s value)
unfolding executed
executed_does (kinds.Loads n) image i s value = load_does false n image i s value
executed_does (kinds.Stores n) image i s value = store_does n image i s
executed_does kinds.LoadsAndStoresByte image i s value = exchange_does false B1 (form.total i s) 0xFF image i s value
executed_does kinds.Swaps image i s value = exchange_does false B4 (form.total i s) (low_bytes B4 (register s i.rd)) image i s value
executed_does (kinds.ComparesAndSwaps n) image i s value = exchange_does false n (form.first i s) (form.kept_or_swapped n i s value) image i s value
executed_does kinds.Jumps image i s value = either image false (form.total i s % 4 == 0) _ _ (quiet image false _ Nothing tt refl) (quiet image false _ Ended tt refl)
executed_does kinds.Returns image i s value = either image false (form.total i s % 4 == 0) _ _ (quiet image false _ Nothing tt refl) (quiet image false _ Ended tt refl)
executed_does kinds.TrapsIfTaken image i s value = either image false (form.is_taken i s) _ _ (service_does image false (form.total i s % 128) s) (quiet image false _ Nothing tt refl)
executed_does kinds.Computes image i s value = written_does image false _ i s
executed_does kinds.Traps image i s value = quiet image false _ Ended tt refl
executed_does kinds.Fences image i s value = quiet image false _ (Fence _) tt refl
executed_does kinds.BranchesOnCodes image i s value = quiet image false _ Nothing tt refl
executed_does kinds.BranchesOnRegister image i s value = quiet image false _ Nothing tt refl
executed_does kinds.Calls image i s value = quiet image false _ Nothing tt refl
executed_does kinds.Moves image i s value = quiet image false _ Nothing tt refl
executed_does kinds.SetsHigh image i s value = quiet image false _ Nothing tt refl
executed_does kinds.ReadsPc image i s value = quiet image false _ Nothing tt refl
executed_does kinds.DoesNothing image i s value = quiet image false _ Nothing tt refl
executed_does kinds.Saves image i s value = quiet image false _ Nothing tt refl
executed_does kinds.Restores image i s value = quiet image false _ Nothing tt refl

fill_does : (may : Bool) (k : ℕ) (image : ImageView) (s : Arch) (value : ℕ) → Does image may (fill k image s value)
fill_does may k image s value =
    let addr = slot (filled s) s k in
    accessed_does image may B8 addr (is_readable image addr 8) (record { state = after_fill k (with_register_of (filled s) (slot_register k) value s); act = Load (record { 0 = addr }) B8 value }) s
    (λ may_read. quiet image may _ (Load (record { 0 = addr }) B8 value) may_read refl)

spill_does : (k : ℕ) (image : ImageView) (s : Arch) → Does image true (spill k image s)
spill_does k image s =
    let addr = slot (spilled s) s k in
    accessed_does image true B8 addr (is_writable image addr 8) (record { state = after_spill k s; act = Store (record { 0 = addr }) B8 (register_of (spilled s) s (slot_register k)) }) s
    (λ may_write. record { allowed = may_write; stores = λ no. absurd cc })

-- a step that may do no more
weaker : (image : ImageView) (may less : Bool) (x : Stepped) → (may ≡ false → less ≡ false) → Does image less x → Does image may x
weaker image may less x fewer does = record { allowed = does.allowed; stores = λ no. does.stores (fewer no) }

storing_by : (k : FormKind) → may_store_by k ≡ false → is_storing k ≡ false
storing_by (kinds.Stores n) off = absurd cc
storing_by _ off = refl

spilling_by : (o : Op) (s : Arch) → spills_first o s ≡ true → may_store_by (kind o) ≡ true
unfolding spills_first kind
spilling_by op.Save s due = refl
spilling_by op.Flushw s due = refl
spilling_by _ s due = absurd cc

of_instr_does : (i : Instr) (image : ImageView) (s : Arch) (value : ℕ) → Does image (may_store_by (kind i.op)) (of_instr i image s value)
of_instr_does i image s value =
    chosen image (may_store_by (kind i.op)) (spills_first i.op s) (spill 0 image s) _
    (λ due. weaker image (may_store_by (kind i.op)) true (spill 0 image s) (λ no. sym (spilling_by i.op s due) ∙ no) (spill_does 0 image s))
    (λ no. either image (may_store_by (kind i.op)) (fills_first i.op s) (fill 0 image s value) _ (fill_does (may_store_by (kind i.op)) 0 image s value)
    (weaker image (may_store_by (kind i.op)) (is_storing (kind i.op)) (executed (kind i.op) image i s value) (storing_by (kind i.op)) (executed_does (kind i.op) image i s value)))

in_phase_does : (phase : ArchPhase) (image : ImageView) (s : Arch) (value : ℕ) → Does image (may_store phase (instr_at image s.pc).op) (in_phase phase image s value)
in_phase_does Run image s value = of_instr_does (instr_at image s.pc) image s value
in_phase_does (Spill k) image s value = spill_does k image s
in_phase_does (Fill k) image s value = fill_does false k image s value

pub step_allowed : (image : ImageView) (s : Arch) (value : ℕ) → IsAllowed image (step image s value).act
unfolding step
step_allowed image s value = (in_phase_does s.phase image s value).allowed

pub step_stores : (image : ImageView) (s : Arch) (value : ℕ) → may_store s.phase (instr_at image s.pc).op ≡ false → is_store (step image s value).act ≡ false
unfolding step
step_stores image s value off = (in_phase_does s.phase image s value).stores off
