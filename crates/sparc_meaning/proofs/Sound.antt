-- Each step of a sound state gives a sound one: what it runs is of the kind that there is, and what that does keeps the
-- windows sound.
use Rattle.std.proofs.Common.{◌≡◌, ◌+◌, ◌≤◌, ◌==◌, ℕ, Bool, true, false, if◌then◌else◌, Option, Some, None, refl, sym, subst, arith}
use Rattle.std.proofs.lemmas.Bool.{eqb-false}
use Rattle.rsim_base.specs.declared.processor.Window.{Window}
use Rattle.elf64_load.specs.Image.{ImageView, fetched}
use Rattle.sparc_decode.specs.declared.instr.Instr.{Instr}
use Rattle.sparc_decode.specs.declared.operands.WindowEffect.{WindowEffect}
use Rattle.sparc_decode.specs.declared.operands.WindowEffect.TheVariants as effect
use Rattle.sparc_decode.specs.Effects.{window_effect_of}
use Rattle.sparc_decode.specs.Ranges.{IsInRange}
use Rattle.sparc_decode.specs.Facts.{in_range}
use Rattle.sparc_meaning.specs.declared.acts.Act.{Act}
use Rattle.sparc_meaning.specs.declared.arch.Arch.{Arch}
use Rattle.sparc_meaning.specs.declared.arch.ArchPhase.{ArchPhase}
use Rattle.sparc_meaning.specs.declared.arch.ArchPhase.TheVariants.{Run, Spill, Fill}
use Rattle.sparc_meaning.specs.declared.arch.End.{End}
use Rattle.sparc_meaning.specs.Applied.{advanced, act_in}
use Rattle.sparc_meaning.specs.Arch.{IsSound, IsPhase, is_running}
use Rattle.sparc_meaning.specs.Computed.{computed}
use Rattle.sparc_meaning.specs.Fetched.{AreWindows, IsPart, next_of, operands, moved, windows_by, phase_after, spills_by, fills_by}
use Rattle.sparc_meaning.specs.Step.{step, instr_of, instr_at}
use Rattle.sparc_meaning.specs.Stepped.{Stepped, ends}
use Rattle.sparc_meaning.specs.Windows.{one_less_kept, one_more_kept}
use Rattle.sparc_meaning.proofs.Computing.{step_is_computed}
use Rattle.sparc_meaning.proofs.Parts.{part_at-IsFetched}

-- windows and a phase that a sound state may have
record Stand (w : Window) (p : ArchPhase) : Type 0 where
  windows : AreWindows w
  phase : IsPhase p w.cansave w.canrestore

-- an instruction that needs no spill or fill first
moved_stand : (e : WindowEffect) (w : Window) → AreWindows w → spills_by e w ≡ false → fills_by e w ≡ false → AreWindows (moved e w)
moved_stand effect.Same w windows s f = windows
moved_stand effect.Flush w windows s f = windows
moved_stand effect.Save w windows s f =
    let some = eqb-false w.cansave 0 s in
    record { current = omega arith; others = omega (arith, windows.others) }
moved_stand effect.Restore w windows s f =
    let some = eqb-false w.canrestore 0 f in
    record { current = omega arith; others = omega (arith, windows.others) }

-- a step of a spill
spill_stand : (last : Bool) (k : ℕ) (w : Window) → (k == 15) ≡ last → AreWindows w → k ≤ 15 → 1 ≤ w.canrestore
    → Stand (if last then one_less_kept w else w) (if last then Run else Spill (k + 1))
spill_stand true k w is windows below kept = record { windows = record { current = windows.current; others = omega (arith, windows.others) }; phase = tt }
spill_stand false k w is windows below kept = let other = eqb-false k 15 is in record { windows = windows; phase = (omega arith, omega arith, kept) }

-- and of a fill
fill_stand : (last : Bool) (k : ℕ) (w : Window) → (k == 15) ≡ last → AreWindows w → k ≤ 15 → 1 ≤ w.cansave
    → Stand (if last then one_more_kept w else w) (if last then Run else Fill (k + 1))
fill_stand true k w is windows below room = record { windows = record { current = windows.current; others = omega (arith, windows.others) }; phase = tt }
fill_stand false k w is windows below room = let other = eqb-false k 15 is in record { windows = windows; phase = (omega arith, omega arith, room) }

part_stand : (part : ArchPhase) (i : Instr) (w : Window) → AreWindows w → IsPart part (window_effect_of i) w → Stand (windows_by part i w) (phase_after part)
part_stand Run i w windows is = record { windows = moved_stand (window_effect_of i) w windows is.0 is.1; phase = tt }
part_stand (Spill k) i w windows is = spill_stand (k == 15) k w refl windows is.0 is.1
part_stand (Fill k) i w windows is = fill_stand (k == 15) k w refl windows is.0 is.1

-- whether it goes on or ends
chosen_sound : (goes : Bool) (t : Arch) (act : Act) (how : End) (s : Arch) → IsSound t → IsSound s → IsSound (if goes then record { state = t; act = act } else ends how s).state
chosen_sound true t act how s after before = after
chosen_sound false t act how s after before = record { current = before.current; others = before.others; phase = before.phase }

-- where no instruction can be fetched the trap has no register
instr_of-in_range : (word : Option ℕ) → IsInRange (instr_of word)
instr_of-in_range None = record { rd = omega arith; rs1 = omega arith; src2 = omega arith; cond = omega arith; mask = omega arith }
instr_of-in_range (Some word) = in_range word

pub step_sound : (image : ImageView) (s : Arch) (value : ℕ) → IsSound s → IsSound (step image s value).state
step_sound image s value sound =
    let f = next_of image s in
    let x = operands f s in
    let c = computed image f x in
    let is = part_at-IsFetched (instr_at image s.pc) s (instr_of-in_range (fetched image s.pc)) sound in
    let stand = part_stand f.part f.instr f.window is.windows is.part in
    let after : IsSound (advanced f c value s) = record { current = stand.windows.current; others = stand.windows.others; phase = stand.phase } in
    subst (λ (y : Stepped). IsSound y.state) (sym (step_is_computed image s value)) (chosen_sound (is_running c.end) (advanced f c value s) (act_in f.part f x c value) c.end s after sound)
