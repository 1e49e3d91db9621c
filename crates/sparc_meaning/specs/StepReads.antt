-- What each step does: it reads what it wants, whatever the value is that it finds; its access is aligned; and where
-- it reads nothing it doesn't use the value.
use Rattle.std.proofs.Common.{◌≡◌, ◌*◌, ◌%◌, ◌==◌, ◌&&◌, ℕ, Bool, true, false, not, if◌then◌else◌, Result, Ok, Err, refl, subst, arith}
use Rattle.std.proofs.Math.Nat.{mod-lt}
use Rattle.std.proofs.lemmas.Bool.{eqb-true, not-false}
use Rattle.std.proofs.lemmas.Nat.{pow_pos}
use Rattle.rsim_base.specs.Bytes.{count_of, low_bytes, FitsIn}
use Rattle.rsim_base.specs.declared.memory.Size.{Size}
use Rattle.rsim_base.specs.declared.memory.Size.TheVariants.{B1, B4, B8}
use Rattle.elf64_load.specs.Image.{ImageView, is_readable, is_writable}
use Rattle.sparc_decode.specs.declared.instr.Instr.{Instr}
use Rattle.sparc_decode.specs.declared.kinds.FormKind.{FormKind}
use Rattle.sparc_decode.specs.declared.kinds.FormKind.TheVariants as kinds
use Rattle.sparc_decode.specs.Kinds.{kind}
use Rattle.sparc_alu.specs.declared.arithmetic.AluOut.{AluOut}
use Rattle.sparc_alu.specs.declared.arithmetic.DivisionByZero.{DivisionByZero}
use Rattle.sparc_alu.specs.Accesses.{extended}
use Rattle.sparc_meaning.specs.declared.acts.Act.TheVariants.{Load, Store, Atomic}
use Rattle.sparc_meaning.specs.declared.acts.Want.{Want}
use Rattle.sparc_meaning.specs.declared.acts.Want.TheVariants as want
use Rattle.sparc_meaning.specs.declared.arch.Arch.{Arch}
use Rattle.sparc_meaning.specs.declared.arch.ArchPhase.{ArchPhase}
use Rattle.sparc_meaning.specs.declared.arch.ArchPhase.TheVariants.{Run, Spill, Fill}
use Rattle.sparc_meaning.specs.Acts.{IsAligned, HasFound, IsSized, reads}
use Rattle.sparc_meaning.specs.Arch.{register, register_of, with_register, with_register_of}
use Rattle.sparc_meaning.specs.Forms as form
use Rattle.sparc_meaning.specs.Forms.{executed}
use Rattle.sparc_meaning.specs.Step.{step, in_phase, of_instr, instr_at}
use Rattle.sparc_meaning.specs.Stepped.{Stepped, accessed, goes_on, service, trapped}
use Rattle.sparc_meaning.specs.Wants.{wanted, by_phase, by_instr, by_fill, by_kind, where_allowed, load_at, atomic_at}
use Rattle.sparc_meaning.specs.Windows.{spills_first, fills_first, spill, fill, spilled, filled, slot, slot_register, after_spill, after_fill}

record Does (value : ℕ) (x : Stepped) (w : Want) : Type 0 where
  reads_it : reads x.act ≡ w
  aligned : IsAligned x.act
  found : HasFound value x.act
  sized : IsSized x.act

either : (value : ℕ) (b : Bool) (x y : Stepped) (w : Want) → Does value x w → Does value y w → Does value (if b then x else y) w
either value true x y w p q = p
either value false x y w p q = q

chosen : (value : ℕ) (b : Bool) (x y : Stepped) (v w : Want) → (b ≡ true → Does value x v) → (b ≡ false → Does value y w) → Does value (if b then x else y) (if b then v else w)
chosen value true x y v w p q = p refl
chosen value false x y v w p q = q refl

-- the test of the address's alignment has passed
abbrev IsMultiple : Size → ℕ → Type 0
IsMultiple n addr = addr % count_of n ≡ 0

multiple : (n : Size) (addr : ℕ) → not (addr % count_of n == 0) ≡ false → IsMultiple n addr
multiple n addr e = eqb-true (addr % count_of n) 0 (not-false (addr % count_of n == 0) e)

accessed_does : (value : ℕ) (n : Size) (addr : ℕ) (allowed : Bool) (done : Stepped) (s : Arch) (w : Want) → (IsMultiple n addr → Does value done w) →
    Does value (accessed n addr allowed done s) (where_allowed n addr allowed w)
accessed_does value n addr allowed done s w p =
    chosen value (not (addr % count_of n == 0)) (trapped 0x034 s) _ want.None _ (λ no. record { reads_it = refl; aligned = tt; found = tt; sized = tt })
    (λ yes. chosen value (not allowed) (trapped 0x030 s) done want.None w (λ no. record { reads_it = refl; aligned = tt; found = tt; sized = tt }) (λ may. p (multiple n addr yes)))

-- the same of an access that reads nothing
where_nothing : (n : Size) (addr : ℕ) (allowed : Bool) → where_allowed n addr allowed want.None ≡ want.None
where_nothing n addr allowed = by_tests (not (addr % count_of n == 0)) (not allowed)
  where
    by_tests : (odd refused : Bool) → (if odd then want.None else if refused then want.None else want.None) ≡ want.None
    by_tests true refused = refl
    by_tests false true = refl
    by_tests false false = refl

stored_does : (value : ℕ) (n : Size) (addr : ℕ) (allowed : Bool) (done : Stepped) (s : Arch) → (IsMultiple n addr → Does value done want.None) →
    Does value (accessed n addr allowed done s) want.None
stored_does value n addr allowed done s p =
    subst (Does value (accessed n addr allowed done s)) (where_nothing n addr allowed) (accessed_does value n addr allowed done s want.None p)

service_does : (value number : ℕ) (s : Arch) → Does value (service number s) want.None
service_does value number s =
    either value (number == 16) _ _ want.None (record { reads_it = refl; aligned = tt; found = tt; sized = tt })
    (either value (number == 17) _ _ want.None (record { reads_it = refl; aligned = tt; found = tt; sized = tt }) (either value (number == 18) _ _ want.None (record { reads_it = refl; aligned = tt; found = tt; sized = tt }) (record { reads_it = refl; aligned = tt; found = tt; sized = tt })))

written_does : (value : ℕ) (result : Result AluOut DivisionByZero) (i : Instr) (s : Arch) → Does value (form.written result i s) want.None
written_does value (Ok out) i s = record { reads_it = refl; aligned = tt; found = tt; sized = tt }
written_does value (Err fault) i s = record { reads_it = refl; aligned = tt; found = tt; sized = tt }

low_bytes-lt : (n : Size) (value : ℕ) → FitsIn n (low_bytes n value)
low_bytes-lt n value = mod-lt value (pow_pos (8 * count_of n))

swapped-lt : (same : Bool) (n : Size) (old new : ℕ) → FitsIn n new → FitsIn n old → FitsIn n (if same then new else old)
swapped-lt true n old new p q = p
swapped-lt false n old new p q = q

load_does : (n : Size) (image : ImageView) (i : Instr) (s : Arch) (value : ℕ) → Does value (form.load n image i s value) (load_at n (form.total i s) image)
load_does n image i s value =
    let addr = form.total i s in
    accessed_does value n addr (is_readable image addr (count_of n)) (goes_on (Load (record { 0 = addr }) n value) (with_register i.rd (extended i.op value) s)) s
    (want.Load (record { 0 = addr }) n) (λ is. record { reads_it = refl; aligned = is; found = refl; sized = tt })

store_does : (n : Size) (image : ImageView) (i : Instr) (s : Arch) (value : ℕ) → Does value (form.store n image i s) want.None
store_does n image i s value =
    let addr = form.total i s in
    stored_does value n addr (is_writable image addr (count_of n)) (goes_on (Store (record { 0 = addr }) n (low_bytes n (register s i.rd))) s) s
    (λ is. record { reads_it = refl; aligned = is; found = tt; sized = λ fits. low_bytes-lt n (register s i.rd) })

exchange_does : (n : Size) (addr stored : ℕ) (image : ImageView) (i : Instr) (s : Arch) (value : ℕ) → (FitsIn n value → FitsIn n stored) → Does value (form.exchange n addr stored image i s value) (atomic_at n addr image)
exchange_does n addr stored image i s value sized =
    accessed_does value n addr (is_readable image addr (count_of n) && is_writable image addr (count_of n))
    (goes_on (Atomic (record { 0 = addr }) n value stored) (with_register i.rd (extended i.op value) s)) s (want.Atomic (record { 0 = addr }) n)
    (λ is. record { reads_it = refl; aligned = is; found = refl; sized = sized })

executed_does : (k : FormKind) (image : ImageView) (i : Instr) (s : Arch) (value : ℕ) → Does value (executed k image i s value) (by_kind k image i s)
unfolding executed by_kind
executed_does (kinds.Loads n) image i s value = load_does n image i s value
executed_does (kinds.Stores n) image i s value = store_does n image i s value
executed_does kinds.LoadsAndStoresByte image i s value = exchange_does B1 (form.total i s) 0xFF image i s value (λ fits. omega arith)
executed_does kinds.Swaps image i s value = exchange_does B4 (form.total i s) (low_bytes B4 (register s i.rd)) image i s value (λ fits. low_bytes-lt B4 (register s i.rd))
executed_does (kinds.ComparesAndSwaps n) image i s value = exchange_does n (form.first i s) (form.kept_or_swapped n i s value) image i s value
    (λ fits. swapped-lt (low_bytes n value == low_bytes n (form.second i s)) n value (low_bytes n (register s i.rd)) (low_bytes-lt n (register s i.rd)) fits)
executed_does kinds.Jumps image i s value = either value (form.total i s % 4 == 0) _ _ want.None (record { reads_it = refl; aligned = tt; found = tt; sized = tt }) (record { reads_it = refl; aligned = tt; found = tt; sized = tt })
executed_does kinds.Returns image i s value = either value (form.total i s % 4 == 0) _ _ want.None (record { reads_it = refl; aligned = tt; found = tt; sized = tt }) (record { reads_it = refl; aligned = tt; found = tt; sized = tt })
executed_does kinds.TrapsIfTaken image i s value = either value (form.is_taken i s) _ _ want.None (service_does value (form.total i s % 128) s) (record { reads_it = refl; aligned = tt; found = tt; sized = tt })
executed_does kinds.Computes image i s value = written_does value _ i s
executed_does kinds.Traps image i s value = record { reads_it = refl; aligned = tt; found = tt; sized = tt }
executed_does kinds.BranchesOnCodes image i s value = record { reads_it = refl; aligned = tt; found = tt; sized = tt }
executed_does kinds.BranchesOnRegister image i s value = record { reads_it = refl; aligned = tt; found = tt; sized = tt }
executed_does kinds.Calls image i s value = record { reads_it = refl; aligned = tt; found = tt; sized = tt }
executed_does kinds.Moves image i s value = record { reads_it = refl; aligned = tt; found = tt; sized = tt }
executed_does kinds.SetsHigh image i s value = record { reads_it = refl; aligned = tt; found = tt; sized = tt }
executed_does kinds.ReadsPc image i s value = record { reads_it = refl; aligned = tt; found = tt; sized = tt }
executed_does kinds.Fences image i s value = record { reads_it = refl; aligned = tt; found = tt; sized = tt }
executed_does kinds.DoesNothing image i s value = record { reads_it = refl; aligned = tt; found = tt; sized = tt }
executed_does kinds.Saves image i s value = record { reads_it = refl; aligned = tt; found = tt; sized = tt }
executed_does kinds.Restores image i s value = record { reads_it = refl; aligned = tt; found = tt; sized = tt }

fill_does : (k : ℕ) (image : ImageView) (s : Arch) (value : ℕ) → Does value (fill k image s value) (by_fill k image s)
fill_does k image s value =
    let addr = slot (filled s) s k in
    accessed_does value B8 addr (is_readable image addr 8)
    (record { state = after_fill k (with_register_of (filled s) (slot_register k) value s); act = Load (record { 0 = addr }) B8 value }) s
    (want.Load (record { 0 = addr }) B8) (λ is. record { reads_it = refl; aligned = is; found = refl; sized = tt })

spill_does : (k : ℕ) (image : ImageView) (s : Arch) (value : ℕ) → Does value (spill k image s) want.None
spill_does k image s value =
    let addr = slot (spilled s) s k in
    stored_does value B8 addr (is_writable image addr 8)
    (record { state = after_spill k s; act = Store (record { 0 = addr }) B8 (register_of (spilled s) s (slot_register k)) }) s
    (λ is. record { reads_it = refl; aligned = is; found = tt; sized = λ fits. fits })

of_instr_does : (i : Instr) (image : ImageView) (s : Arch) (value : ℕ) → Does value (of_instr i image s value) (by_instr i image s)
of_instr_does i image s value =
    chosen value (spills_first i.op s) (spill 0 image s) _ want.None _ (λ must. spill_does 0 image s value)
    (λ no. chosen value (fills_first i.op s) (fill 0 image s value) _ (by_fill 0 image s) _ (λ must. fill_does 0 image s value) (λ no. executed_does (kind i.op) image i s value))

in_phase_does : (phase : ArchPhase) (image : ImageView) (s : Arch) (value : ℕ) → Does value (in_phase phase image s value) (by_phase phase image s)
in_phase_does Run image s value = of_instr_does (instr_at image s.pc) image s value
in_phase_does (Spill k) image s value = spill_does k image s value
in_phase_does (Fill k) image s value = fill_does k image s value

pub step_reads : (image : ImageView) (s : Arch) (value : ℕ) → reads (step image s value).act ≡ wanted image s
unfolding step wanted
step_reads image s value = (in_phase_does s.phase image s value).reads_it

pub step_aligned : (image : ImageView) (s : Arch) (value : ℕ) → IsAligned (step image s value).act
unfolding step
step_aligned image s value = (in_phase_does s.phase image s value).aligned

pub step_found : (image : ImageView) (s : Arch) (value : ℕ) → HasFound value (step image s value).act
unfolding step
step_found image s value = (in_phase_does s.phase image s value).found

pub step_sized : (image : ImageView) (s : Arch) (value : ℕ) → IsSized (step image s value).act
unfolding step
step_sized image s value = (in_phase_does s.phase image s value).sized
