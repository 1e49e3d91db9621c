-- Places on the path are sound: where one is, so is the one that follows.
use Rattle.std.proofs.Common.{◌≡◌, ◌+◌, ◌-◌, ◌<◌, ◌≤◌, ◌==◌, ◌||◌, ℕ, Bool, true, false, if◌then◌else◌, Option, Some, None, option_map, refl, subst, arith}
use Rattle.std.proofs.lemmas.Bool.Decides.{nat_tests}
use Rattle.rsim_base.specs.declared.processor.Pair.{Pair}
use Rattle.rsim_base.specs.declared.processor.Window.{Window}
use Rattle.elf64_load.specs.Image.{ImageView}
use Rattle.sparc_decode.specs.declared.instr.Instr.{Instr}
use Rattle.sparc_decode.specs.declared.operands.WindowEffect.{WindowEffect}
use Rattle.sparc_decode.specs.declared.operands.WindowEffect.TheVariants as effect
use Rattle.sparc_decode.specs.Effects.{window_effect_of}
use Rattle.sparc_meaning.specs.declared.arch.ArchPhase.{ArchPhase}
use Rattle.sparc_meaning.specs.declared.arch.ArchPhase.TheVariants.{Run, Spill, Fill}
use Rattle.sparc_meaning.specs.Fetched.{AreWindows, IsPart, moved, spills_by, fills_by, windows_by}
use Rattle.sparc_meaning.specs.Step.{instr_at}
use Rattle.branch_predict.specs.Guesses.{PredictorView}
use Rattle.fetch_unit.specs.declared.path.Spot.{Spot}
use Rattle.fetch_unit.specs.Path.{IsSpot, IsSpotAt, fetching, follow, leading, micro_after, micro_at, part_of, spills, fills, waits}

-- ---- windows

-- an instruction that runs keeps them sound
moved_sound : (e : WindowEffect) (w : Window) → AreWindows w → spills_by e w ≡ false → fills_by e w ≡ false → AreWindows (moved e w)
moved_sound effect.Same w h s f = h
moved_sound effect.Flush w h s f = h
moved_sound effect.Save w h s f = record { current = omega arith; others = grind (arith, nat_tests) }
moved_sound effect.Restore w h s f = record { current = omega arith; others = grind (arith, nat_tests) }

-- a window that is spilled can be restored from, and where one is filled another can be saved to
spills_kept : (e : WindowEffect) (w : Window) → AreWindows w → spills_by e w ≡ true → 1 ≤ w.canrestore
spills_kept effect.Same w h s = cc
spills_kept effect.Restore w h s = cc
spills_kept effect.Save w h s = grind (arith, nat_tests)
spills_kept effect.Flush w h s = grind (arith, nat_tests)

fills_room : (e : WindowEffect) (w : Window) → AreWindows w → fills_by e w ≡ true → 1 ≤ w.cansave
fills_room effect.Same w h s = cc
fills_room effect.Flush w h s = cc
fills_room effect.Save w h s = cc
fills_room effect.Restore w h s = grind (arith, nat_tests)

-- so a part of an instruction keeps them sound
part_sound : (part : ArchPhase) (i : Instr) (w : Window) → AreWindows w → IsPart part (window_effect_of i) w → AreWindows (windows_by part i w)
part_sound Run i w h p = moved_sound (window_effect_of i) w h p.0 p.1
part_sound (Spill k) i w h p =
    elim (k == 15) as (λ last. AreWindows (if last then record w { cansave = w.cansave + 1; canrestore = w.canrestore - 1 } else w))
    [ true ↦ record { current = h.current; others = omega (arith, h.others, p.1) } | false ↦ h ]
part_sound (Fill k) i w h p =
    elim (k == 15) as (λ last. AreWindows (if last then record w { cansave = w.cansave - 1; canrestore = w.canrestore + 1 } else w))
    [ true ↦ record { current = h.current; others = omega (arith, h.others, p.1) } | false ↦ h ]

-- ---- parts

pub record IsStep (k : ℕ) (i : Instr) (w : Window) : Type 0 where
  pub few : k < 16
  pub waits : waits i w ≡ true

-- a step of a spill or fill stands only at an instruction that spills or fills
step_at : (micro : Option ℕ) (k : ℕ) (i : Instr) (w : Window) → ((j : ℕ) → micro ≡ Some j → (1 ≤ j) × (j < 16) × (waits i w ≡ true)) → micro_at micro i w ≡ Some k → IsStep k i w
step_at (Some j) k i w h e = record { few = (h k e).1; waits = (h k e).2 }
step_at None k i w h e =
    elim (waits i w) as (λ b. waits i w ≡ b → (if b then Some 0 else None) ≡ Some k → IsStep k i w)
    [ true ↦ λ is e. record { few = let z : 0 ≡ k = cc in omega arith; waits = is } | false ↦ λ is e. cc ] refl e

-- and an instruction runs that does neither
run_at : (micro : Option ℕ) (i : Instr) (w : Window) → micro_at micro i w ≡ None → waits i w ≡ false
run_at (Some j) i w e = cc
run_at None i w e =
    elim (waits i w) as (λ b. ◌≡◌ {A = Option ℕ} (if b then Some 0 else None) None → b ≡ false) [ true ↦ λ e. cc | false ↦ λ e. refl ] e

-- what stands at a place is a part of its instruction
part_step : (k : ℕ) (i : Instr) (w : Window) → AreWindows w → IsStep k i w → IsPart (part_of (Some k) i w) (window_effect_of i) w
part_step k i w h st =
    elim (spills i w) as (λ b. spills i w ≡ b → (b || fills i w) ≡ true → IsPart (if b then Spill k else Fill k) (window_effect_of i) w) [
      | true ↦ λ is e. (omega (arith, st.few), spills_kept (window_effect_of i) w h is)
      | false ↦ λ is e. (omega (arith, st.few), fills_room (window_effect_of i) w h e)
    ] refl st.waits

part_run : (i : Instr) (w : Window) → waits i w ≡ false → IsPart Run (window_effect_of i) w
part_run i w e =
    elim (spills i w) as (λ b. (b || fills i w) ≡ false → (b ≡ false) × (fills i w ≡ false)) [ true ↦ λ e. cc | false ↦ λ e. (refl, e) ] e

-- ---- the place that follows

-- behind a step is another, in the same windows, or none
after_step : (spilling : Bool) (k j : ℕ) (i : Instr) (w : Window) → IsStep k i w → micro_after (Some k) ≡ Some j → IsStep j i (windows_by (if spilling then Spill k else Fill k) i w)
after_step true k j i w st e =
    elim (k == 15) as (λ last. (k == 15) ≡ last → (if last then None else Some (k + 1)) ≡ Some j → IsStep j i (if last then record w { cansave = w.cansave + 1; canrestore = w.canrestore - 1 } else w))
    [ true ↦ λ is e. cc | false ↦ λ is e. record { few = let z : k + 1 ≡ j = cc in grind (arith, nat_tests); waits = st.waits } ] refl e
after_step false k j i w st e =
    elim (k == 15) as (λ last. (k == 15) ≡ last → (if last then None else Some (k + 1)) ≡ Some j → IsStep j i (if last then record w { cansave = w.cansave - 1; canrestore = w.canrestore + 1 } else w))
    [ true ↦ λ is e. cc | false ↦ λ is e. record { few = let z : k + 1 ≡ j = cc in grind (arith, nat_tests); waits = st.waits } ] refl e

after_first : (k j : ℕ) → micro_after (Some k) ≡ Some j → 1 ≤ j
after_first k j e =
    elim (k == 15) as (λ last. (if last then None else Some (k + 1)) ≡ Some j → 1 ≤ j) [ true ↦ λ e. cc | false ↦ λ e. let z : k + 1 ≡ j = cc in omega arith ] e

-- a place is that of a pair which is guessed, if one is
placed : (micro : Option ℕ) (w : Window) (guess : Option Pair) (image : ImageView) → ((pair : Pair) → guess ≡ Some pair → IsSpotAt image (record { pair = pair; micro = micro; window = w }))
    → IsSpot image (option_map (λ pair. record { pair = pair; micro = micro; window = w }) guess)
placed micro w None image h = λ s e. cc
placed micro w (Some pair) image h = λ s e. let is : record { pair = pair; micro = micro; window = w } ≡ s = cc in subst (IsSpotAt image) is (h pair refl)

follows_by : (micro : Option ℕ) (image : ImageView) (s : Spot) (p : PredictorView) → IsSpotAt image s → micro_at s.micro (instr_at image s.pair.pc) s.window ≡ micro
    → let i = instr_at image s.pair.pc in
    IsSpot image (option_map (λ pair. record { pair = pair; micro = micro_after micro; window = windows_by (part_of micro i s.window) i s.window }) (leading micro i s.pair p).guess)
follows_by (Some k) image s p h e =
    let i = instr_at image s.pair.pc in
    let st = step_at s.micro k i s.window h.micro e in
    let w = windows_by (part_of (Some k) i s.window) i s.window in
    let at : IsSpotAt image (record { pair = s.pair; micro = micro_after (Some k); window = w }) = record {
      windows = part_sound (part_of (Some k) i s.window) i s.window h.windows (part_step k i s.window h.windows st);
      micro = λ j e. let next = after_step (spills i s.window) k j i s.window st e in (after_first k j e, next.few, next.waits);
    } in
    λ next e. let is : record { pair = s.pair; micro = micro_after (Some k); window = w } ≡ next = cc in subst (IsSpotAt image) is at
follows_by None image s p h e =
    let i = instr_at image s.pair.pc in
    placed None (windows_by Run i s.window) (leading None i s.pair p).guess image (λ pair _. record {
      windows = part_sound Run i s.window h.windows (part_run i s.window (run_at s.micro i s.window e));
      micro = λ k e. cc;
    })

pub spot_follows : (image : ImageView) (s : Spot) (p : PredictorView) → IsSpotAt image s → IsSpot image (follow (fetching image s p).entry)
spot_follows image s p h = follows_by (micro_at s.micro (instr_at image s.pair.pc) s.window) image s p h refl
