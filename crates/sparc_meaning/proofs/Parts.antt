-- What a processor runs next is of the kind that there is, and names registers of the window.
use Rattle.std.proofs.Common.{◌≡◌, ◌+◌, ◌<◌, ◌≤◌, ℕ, Bool, true, false, if◌then◌else◌, Some, None, IfSome, refl, sym, arith, lit<}
use Rattle.std.proofs.lemmas.Bool.{eqb-true, not-true, eqb-false}
use Rattle.rsim_base.specs.declared.processor.Window.{Window}
use Rattle.sparc_decode.specs.declared.instr.Instr.{Instr}
use Rattle.sparc_decode.specs.declared.instr.Op.{Op}
use Rattle.sparc_decode.specs.declared.instr.Op.TheVariants as op
use Rattle.sparc_decode.specs.declared.operands.WindowEffect.{WindowEffect}
use Rattle.sparc_decode.specs.declared.operands.WindowEffect.TheVariants as effect
use Rattle.sparc_decode.specs.Effects.{third_of_form, written_by_form, window_effect_of_form}
use Rattle.sparc_decode.specs.declared.kinds.FormKind.TheVariants as kinds
use Rattle.sparc_decode.specs.Kinds.{kind}
use Rattle.sparc_decode.specs.Ranges.{IsInRange}
use Rattle.sparc_meaning.specs.declared.arch.Arch.{Arch}
use Rattle.sparc_meaning.specs.declared.arch.ArchPhase.{ArchPhase}
use Rattle.sparc_meaning.specs.declared.arch.ArchPhase.TheVariants.{Run, Spill, Fill}
use Rattle.sparc_meaning.specs.Arch.{IsSound, IsPhase}
use Rattle.sparc_meaning.specs.Fetched.{IsPart, IsFetched, part_of, part_at, spills_by, fills_by}
use Rattle.sparc_meaning.specs.Windows.{windows_of, spills_first, fills_first}
use Rattle.sparc_meaning.proofs.Telling.{spills_asked, fills_asked}

-- ---- registers

pub if_named : (b : Bool) (r : ℕ) → r < 32 → IfSome (if b then Some r else None) (λ n. n < 32)
if_named true r below = below
if_named false r below = tt

pub third_in_range : (o : Op) (rd : ℕ) → rd < 32 → IfSome (third_of_form o rd) (λ n. n < 32)
unfolding third_of_form
third_in_range op.Tcc rd below = lit< tt
third_in_range _ rd below = if_named _ rd below

pub written_in_range : (o : Op) (rd : ℕ) → rd < 32 → IfSome (written_by_form o rd) (λ n. n < 32)
unfolding written_by_form
written_in_range op.Call rd below = lit< tt
written_in_range _ rd below = if_named _ rd below

-- ---- parts

-- where a spill is asked for, a window can be restored from
spill_kept : (e : WindowEffect) (w : Window) → w.cansave + w.canrestore ≡ 6 → spills_by e w ≡ true → 1 ≤ w.canrestore
spill_kept effect.Save w others asks = let none = eqb-true w.cansave 0 asks in omega arith
spill_kept effect.Flush w others asks = let some = eqb-false w.cansave 6 (not-true _ asks) in omega arith
spill_kept effect.Same w others asks = absurd cc
spill_kept effect.Restore w others asks = absurd cc

-- where a fill is, one can be saved to
fill_kept : (e : WindowEffect) (w : Window) → w.cansave + w.canrestore ≡ 6 → fills_by e w ≡ true → 1 ≤ w.cansave
fill_kept effect.Restore w others asks = let none = eqb-true w.canrestore 0 asks in omega arith
fill_kept effect.Save w others asks = absurd cc
fill_kept effect.Flush w others asks = absurd cc
fill_kept effect.Same w others asks = absurd cc

first_part : (spills fills : Bool) (e : WindowEffect) (w : Window) → w.cansave + w.canrestore ≡ 6 → spills_by e w ≡ spills → fills_by e w ≡ fills
    → IsPart (if spills then Spill 0 else if fills then Fill 0 else Run) e w
first_part true fills e w others s f = (omega arith, spill_kept e w others s)
first_part false true e w others s f = (omega arith, fill_kept e w others f)
first_part false false e w others s f = (s, f)

part_is : (phase : ArchPhase) (o : Op) (s : Arch) → s.phase ≡ phase → IsSound s → IsPart (part_of phase o s) (window_effect_of_form o) (windows_of s)
part_is Run o s at_phase sound =
    first_part (spills_first o s) (fills_first o s) (window_effect_of_form o) (windows_of s) sound.others (sym (spills_asked o s)) (sym (fills_asked o s))
part_is (Spill k) o s at_phase sound = let begun : IsPhase (Spill k) s.cansave s.canrestore = rw at_phase at sound.phase in (begun.1, begun.2)
part_is (Fill k) o s at_phase sound = let begun : IsPhase (Fill k) s.cansave s.canrestore = rw at_phase at sound.phase in (begun.1, begun.2)

pub part_at-IsFetched : (i : Instr) (s : Arch) → IsInRange i → IsSound s → IsFetched (part_at (part_of s.phase i.op s) i s)
part_at-IsFetched i s in_range sound = record {
  windows = record { current = sound.current; others = sound.others };
  instr = in_range;
  part = part_is s.phase i.op s refl sound;
}

-- ---- instructions that need no spill or fill

-- a SAVE has a window to save to
pub save_has_room : (o : Op) (s : Arch) → kind o ≡ kinds.Saves → spills_first o s ≡ false → 1 ≤ s.cansave
unfolding kind spills_first
save_has_room op.Save s is needs_none = let some = eqb-false s.cansave 0 needs_none in omega arith
save_has_room _ s is needs_none = absurd cc

-- and RESTORE and RETURN one to restore from
pub restore_has_kept : (o : Op) (s : Arch) → kind o ≡ kinds.Restores → fills_first o s ≡ false → 1 ≤ s.canrestore
unfolding kind fills_first
restore_has_kept op.Restore s is needs_none = let some = eqb-false s.canrestore 0 needs_none in omega arith
restore_has_kept _ s is needs_none = absurd cc

pub return_has_kept : (o : Op) (s : Arch) → kind o ≡ kinds.Returns → fills_first o s ≡ false → 1 ≤ s.canrestore
unfolding kind fills_first
return_has_kept op.Return s is needs_none = let some = eqb-false s.canrestore 0 needs_none in omega arith
return_has_kept _ s is needs_none = absurd cc
