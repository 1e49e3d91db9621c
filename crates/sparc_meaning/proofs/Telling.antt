-- What is known of a step from what it computes, and of an instruction before its step.
use Rattle.std.proofs.Common.{◌≡◌, ℕ, Bool, true, false, if◌then◌else◌, refl, sym, ap, subst}
use Rattle.rsim_base.specs.declared.memory.Size.TheVariants.{B1, B4, B8}
use Rattle.elf64_load.specs.Image.{ImageView}
use Rattle.sparc_decode.specs.declared.instr.Op.{Op}
use Rattle.sparc_decode.specs.declared.instr.Op.TheVariants as op
use Rattle.sparc_decode.specs.declared.instr.Src2.{Src2}
use Rattle.sparc_decode.specs.declared.instr.Src2.TheVariants.{Reg, Imm}
use Rattle.sparc_decode.specs.Effects.{window_effect_of_form}
use Rattle.sparc_decode.specs.declared.kinds.FormKind.{FormKind}
use Rattle.sparc_decode.specs.declared.kinds.FormKind.TheVariants as kinds
use Rattle.sparc_decode.specs.Kinds.{kind}
use Rattle.sparc_alu.specs.Accesses.{effective}
use Rattle.sparc_meaning.specs.declared.acts.Act.{Act}
use Rattle.sparc_meaning.specs.declared.acts.Act.TheVariants.{Nothing, Out, Load, Store, Atomic, Fence, End as Ended}
use Rattle.sparc_meaning.specs.declared.acts.Want.TheVariants as want
use Rattle.sparc_meaning.specs.declared.arch.Arch.{Arch}
use Rattle.sparc_meaning.specs.declared.arch.ArchPhase.{ArchPhase}
use Rattle.sparc_meaning.specs.declared.arch.ArchPhase.TheVariants.{Run, Spill, Fill}
use Rattle.sparc_meaning.specs.declared.arch.End.{End}
use Rattle.sparc_meaning.specs.declared.fetched.Fetched.{Fetched}
use Rattle.sparc_meaning.specs.declared.fetched.Operands.{Operands}
use Rattle.sparc_meaning.specs.Acts.{reads}
use Rattle.sparc_meaning.specs.Applied.{advanced, act_in}
use Rattle.sparc_meaning.specs.Arch.{is_running}
use Rattle.sparc_meaning.specs.Computed as by
use Rattle.sparc_meaning.specs.Computed.{computed, computed_by, computed_in}
use Rattle.sparc_meaning.specs.Fetched.{next_of, operands, spills_by, fills_by}
use Rattle.sparc_meaning.specs.Laws.{EndsAlone, OthersIgnoreTheValue, AddressesAlone, EffectsAsk, accesses, accesses_by, adds, adds_by}
use Rattle.sparc_meaning.specs.Run.{uses_value}
use Rattle.sparc_meaning.specs.Step.{step}
use Rattle.sparc_meaning.specs.StepIgnores.{step_ignores}
use Rattle.sparc_meaning.specs.Stepped.{Stepped, ends}
use Rattle.sparc_meaning.specs.Windows.{spills_first, fills_first, windows_of, slot_at}
use Rattle.sparc_meaning.proofs.Computing.{step_is_computed}

-- ---- ends

-- a step from s that has ended the processor has changed nothing else
record EndsOnly (s : Arch) (y : Stepped) : Type 0 where
  is : is_running y.state.end ≡ false → (y.state ≡ record s { end = y.state.end }) × (y.act ≡ Ended)

ends_only : (goes : Bool) (t : Arch) (act : Act) (how : End) (s : Arch) → t.end ≡ s.end → is_running s.end ≡ true → EndsOnly s (if goes then record { state = t; act = act } else ends how s)
ends_only true t act how s same runs = record { is = λ ended. absurd cc }
ends_only false t act how s same runs = record { is = λ ended. (refl, refl) }

pub ends_alone : EndsAlone
ends_alone image s value runs =
    let f = next_of image s in
    let x = operands f s in
    let c = computed image f x in
    (subst (EndsOnly s) (sym (step_is_computed image s value)) (ends_only (is_running c.end) (advanced f c value s) (act_in f.part f x c value) c.end s refl runs)).is

-- ---- values that are not looked at

quiet : (act : Act) → reads act ≡ want.None → uses_value act ≡ false
quiet Nothing e = refl
quiet (Load addr size loaded) e = cc
quiet (Store addr size stored) e = refl
quiet (Atomic addr size loaded stored) e = cc
quiet (Fence mask) e = refl
quiet (Out spoken) e = refl
quiet Ended e = refl

pub others_ignore_the_value : OthersIgnoreTheValue
others_ignore_the_value image s v w e = step_ignores image s v w (quiet (step image s v).act e)

-- ---- addresses

second_same : (src : Src2) (x x' : Operands) → x'.b ≡ x.b → by.second src x' ≡ by.second src x
second_same (Reg r) x x' e = e
second_same (Imm z) x x' e = refl

sum_same : (a a' b b' : ℕ) → a' ≡ a → b' ≡ b → effective a' b' ≡ effective a b
sum_same a a' b b' e h = cc

total_same : (f : Fetched) (x x' : Operands) → x'.a ≡ x.a → x'.b ≡ x.b → by.total f x' ≡ by.total f x
total_same f x x' e h = sum_same x.a x'.a (by.second f.instr.src2 x) (by.second f.instr.src2 x') e (second_same f.instr.src2 x x' h)

by_address : (k : FormKind) (image : ImageView) (f : Fetched) (x x' : Operands) → accesses_by k ≡ true → x'.a ≡ x.a → (adds_by k ≡ true → x'.b ≡ x.b) → computed_by k image f x' ≡ computed_by k image f x
unfolding computed_by accesses_by adds_by
by_address (kinds.Loads n) image f x x' e a b = ap (λ addr. by.load n addr image f) (total_same f x x' a (b refl))
by_address (kinds.Stores n) image f x x' e a b = ap (λ addr. by.store n addr image f) (total_same f x x' a (b refl))
by_address kinds.LoadsAndStoresByte image f x x' e a b = ap (λ addr. by.exchange B1 addr image f) (total_same f x x' a (b refl))
by_address kinds.Swaps image f x x' e a b = ap (λ addr. by.exchange B4 addr image f) (total_same f x x' a (b refl))
by_address (kinds.ComparesAndSwaps n) image f x x' e a b = ap (λ addr. by.exchange n addr image f) a
by_address _ image f x x' e a b = absurd cc

by_part : (part : ArchPhase) (image : ImageView) (f : Fetched) (x x' : Operands) → accesses part (kind f.instr.op) ≡ true → x'.a ≡ x.a → (adds part (kind f.instr.op) ≡ true → x'.b ≡ x.b)
    → computed_in part image f x' ≡ computed_in part image f x
by_part Run image f x x' e a b = by_address (kind f.instr.op) image f x x' e a b
by_part (Spill k) image f x x' e a b = ap (λ pointer. record (by.store B8 (slot_at pointer k) image f) { next = f.pair }) a
by_part (Fill k) image f x x' e a b = ap (λ pointer. record (by.load B8 (slot_at pointer k) image f) { next = f.pair }) a

pub addresses_alone : AddressesAlone
addresses_alone image f x x' e a b = by_part f.part image f x x' e a b

-- ---- windows

pub spills_asked : (o : Op) (s : Arch) → spills_first o s ≡ spills_by (window_effect_of_form o) (windows_of s)
unfolding spills_first window_effect_of_form
spills_asked op.Save s = refl
spills_asked op.Flushw s = refl
spills_asked op.Restore s = refl
spills_asked op.Return s = refl
spills_asked _ s = refl

pub fills_asked : (o : Op) (s : Arch) → fills_first o s ≡ fills_by (window_effect_of_form o) (windows_of s)
unfolding fills_first window_effect_of_form
fills_asked op.Save s = refl
fills_asked op.Flushw s = refl
fills_asked op.Restore s = refl
fills_asked op.Return s = refl
fills_asked _ s = refl

pub effects_ask : EffectsAsk
effects_ask o s = (spills_asked o s, fills_asked o s)
