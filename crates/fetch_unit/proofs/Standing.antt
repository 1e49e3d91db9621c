-- The path beside the steps of a processor.
use Rattle.std.proofs.Common.{◌≡◌, ◌+◌, ◌<◌, ◌≤◌, ◌==◌, ◌||◌, ℕ, Bool, true, false, if◌then◌else◌, Option, Some, None, option_map, refl, sym, ap, ◌∙◌, subst, arith}
use Rattle.std.proofs.lemmas.Bool.{ne_eqb}
use Rattle.rsim_base.specs.declared.processor.Pair.{Pair}
use Rattle.rsim_base.specs.declared.processor.Window.{Window}
use Rattle.elf64_load.specs.Image.{ImageView}
use Rattle.sparc_decode.specs.declared.instr.Instr.{Instr}
use Rattle.sparc_decode.specs.declared.instr.Op.{Op}
use Rattle.sparc_decode.specs.declared.operands.WindowEffect.{WindowEffect}
use Rattle.sparc_decode.specs.declared.operands.WindowEffect.TheVariants as effect
use Rattle.sparc_decode.specs.Effects.{window_effect_of, window_effect_of_form}
use Rattle.sparc_meaning.specs.declared.arch.Arch.{Arch}
use Rattle.sparc_meaning.specs.declared.arch.ArchPhase.{ArchPhase}
use Rattle.sparc_meaning.specs.declared.arch.ArchPhase.TheVariants.{Run, Spill, Fill}
use Rattle.sparc_meaning.specs.declared.fetched.Computed.{Computed}
use Rattle.sparc_meaning.specs.declared.fetched.Fetched as meaning
use Rattle.sparc_meaning.specs.declared.fetched.Operands.{Operands}
use Rattle.sparc_meaning.specs.Applied.{advanced, applied}
use Rattle.sparc_meaning.specs.Arch.{IsPhase, IsSound, is_running}
use Rattle.sparc_meaning.specs.Computed.{computed}
use Rattle.sparc_meaning.specs.Fetched as step_part
use Rattle.sparc_meaning.specs.Fetched.{AreWindows, fills_by, next_of, operands, part_at, phase_after, spills_by, windows_by}
use Rattle.sparc_meaning.specs.Laws.{EffectsAsk, StepIsComputed}
use Rattle.sparc_meaning.specs.RegisterLaws.{StepsLeadOn}
use Rattle.sparc_meaning.specs.Step.{instr_at, step}
use Rattle.sparc_meaning.specs.Stepped.{Stepped, pair_of}
use Rattle.sparc_meaning.specs.Windows.{fills_first, spills_first, windows_of}
use Rattle.branch_predict.specs.Guesses.{PredictorView}
use Rattle.fetch_unit.specs.declared.path.Spot.{Spot}
use Rattle.fetch_unit.specs.Path.{IsSpotAt, begun, fetching, fills, follow, meant_by, micro_after, micro_at, part_of, redirected, spills, waits}
use Rattle.fetch_unit.specs.SpotLaws.{BegunStays, BootSpot, FetchedIsNext, FollowIsAfter, RedirectsAreSpots, StatesHaveSpots}
use Rattle.fetch_unit.specs.Spots.{HasBegun, IsNeeded, micro_of, spot_of}

-- ---- what is fetched

-- no instruction spills and fills
never_both : (e : WindowEffect) (w : Window) → fills_by e w ≡ true → spills_by e w ≡ false
never_both effect.Same w h = refl
never_both effect.Restore w h = refl
never_both effect.Save w h = cc
never_both effect.Flush w h = cc

first_part : (a b : Bool) (i : Instr) (w : Window) → spills i w ≡ a → fills i w ≡ b → part_of (if a || b then Some 0 else None) i w ≡ (if a then Spill 0 else if b then Fill 0 else Run)
first_part true b i w e f = rw e refl
first_part false true i w e f = rw e refl
first_part false false i w e f = refl

-- what stands where a processor does is what it runs
part_is : EffectsAsk → (phase : ArchPhase) (i : Instr) (s : Arch) → IsNeeded phase i.op s
    → part_of (micro_at (micro_of phase) i (windows_of s)) i (windows_of s) ≡ step_part.part_of phase i.op s
part_is ask Run i s needed = rw (ask i.op s).0 (rw (ask i.op s).1 (first_part (spills i (windows_of s)) (fills i (windows_of s)) i (windows_of s) refl refl))
part_is ask (Spill k) i s needed = rw (sym (ask i.op s).0 ∙ needed) refl
part_is ask (Fill k) i s needed = rw (never_both (window_effect_of i) (windows_of s) (sym (ask i.op s).1 ∙ needed)) refl

pub fetched_is_next : EffectsAsk → FetchedIsNext
fetched_is_next ask image s p needed =
    let i = instr_at image s.pc in
    ap (λ part. part_at part i s) (part_is ask s.phase i s needed)

-- ---- where it leads

micro_goes_on : (micro : Option ℕ) (i : Instr) (w : Window) → micro_after micro ≡ micro_of (phase_after (part_of micro i w))
micro_goes_on None i w = refl
micro_goes_on (Some k) i w =
    elim (spills i w) as (λ b. (if k == 15 then None else Some (k + 1)) ≡ micro_of (phase_after (if b then Spill k else Fill k))) [
      | true ↦ elim (k == 15) as (λ last. ◌≡◌ {A = Option ℕ} (if last then None else Some (k + 1)) (micro_of (if last then Run else Spill (k + 1)))) [ true ↦ refl | false ↦ refl ]
      | false ↦ elim (k == 15) as (λ last. ◌≡◌ {A = Option ℕ} (if last then None else Some (k + 1)) (micro_of (if last then Run else Fill (k + 1)))) [ true ↦ refl | false ↦ refl ]
    ]

-- a step that leaves a processor running has ended nothing
goes_on_by : (b : Bool) (f : meaning.Fetched) (x : Operands) (c : Computed) (value : ℕ) (s : Arch) → is_running c.end ≡ b → is_running (applied f x c value s).state.end ≡ true → is_running c.end ≡ true
goes_on_by true f x c value s e h = e
goes_on_by false f x c value s e h = let g = rw e at h in cc

pub follow_is_after : EffectsAsk → StepIsComputed → StepsLeadOn → FollowIsAfter
follow_is_after ask step_is leads image s p value needed runs guess =
    let i = instr_at image s.pc in
    let w = windows_of s in
    let micro = micro_at (micro_of s.phase) i w in
    let n = next_of image s in
    let x = operands n s in
    let c = computed image n x in
    let is : (step image s value).state ≡ (applied n x c value s).state = ap (λ (y : Stepped). y.state) (step_is image s value) in
    let on = goes_on_by (is_running c.end) n x c value s refl (subst (λ (t : Arch). is_running t.end ≡ true) is runs) in
    let lead = leads n x c value s on in
    let part = part_is ask s.phase i s needed in
    let next_micro : micro_after micro ≡ micro_of (step image s value).state.phase =
    micro_goes_on micro i w ∙ ap (λ q. micro_of (phase_after q)) part ∙ sym (ap (λ q. micro_of q) lead.2) ∙ sym (ap (λ (t : Arch). micro_of t.phase) is) in
    let next_window : windows_by (part_of micro i w) i w ≡ windows_of (step image s value).state =
    ap (λ q. windows_by q i w) part ∙ sym lead.1 ∙ sym (ap (λ (t : Arch). windows_of t) is) in
    let to : Option ℕ → Window → Pair → Spot = λ m v pair. record { pair = pair; micro = m; window = v } in
    ap (option_map (to (micro_after micro) (windows_by (part_of micro i w) i w))) guess
    ∙ ap (λ m. Some (to m (windows_by (part_of micro i w) i w) (pair_of (step image s value).state))) next_micro
    ∙ ap (λ v. Some (to (micro_of (step image s value).state.phase) v (pair_of (step image s value).state))) next_window

pub boot_spot : BootSpot
boot_spot image p n = (refl, tt)

-- ---- spills and fills that are under way

same_need : EffectsAsk → (phase : ArchPhase) (o : Op) (s t : Arch) → windows_of t ≡ windows_of s → IsNeeded phase o s → IsNeeded phase o t
same_need ask Run o s t same h = tt
same_need ask (Spill k) o s t same h = (ask o t).0 ∙ (ap (spills_by (window_effect_of_form o)) same ∙ (sym (ask o s).0 ∙ h))
same_need ask (Fill k) o s t same h = (ask o t).1 ∙ (ap (fills_by (window_effect_of_form o)) same ∙ (sym (ask o s).1 ∙ h))

part_needed_by : (a b : Bool) (o : Op) (s : Arch) → spills_first o s ≡ a → fills_first o s ≡ b → IsNeeded (if a then Spill 0 else if b then Fill 0 else Run) o s
part_needed_by true b o s e f = e
part_needed_by false true o s e f = f
part_needed_by false false o s e f = tt

part_needed : (phase : ArchPhase) (o : Op) (s : Arch) → IsNeeded phase o s → IsNeeded (step_part.part_of phase o s) o s
part_needed Run o s h = part_needed_by (spills_first o s) (fills_first o s) o s refl refl
part_needed (Spill k) o s h = h
part_needed (Fill k) o s h = h

-- the last step of a spill or fill
abbrev is_last : ArchPhase → Bool
is_last Run = false
is_last (Spill k) = k == 15
is_last (Fill k) = k == 15

-- the state behind a step that goes on
abbrev led : ImageView → ArchPhase → Operands → ℕ → Arch → Arch
led image part x value s = let f = part_at part (instr_at image s.pc) s in advanced f (computed image f x) value s

led_needed : (part : ArchPhase) (last : Bool) → EffectsAsk → (image : ImageView) (x : Operands) (value : ℕ) (s : Arch) → is_last part ≡ last → IsNeeded part (instr_at image s.pc).op s → HasBegun image (led image part x value s)
led_needed Run last ask image x value s e h = tt
led_needed (Spill k) true ask image x value s e h =
    let o = (instr_at image s.pc).op in
    let phase : (if k == 15 then Run else Spill (k + 1)) ≡ Run = rw e refl in
    subst (λ (q : ArchPhase). IsNeeded q o (led image (Spill k) x value s)) (sym phase) tt
led_needed (Spill k) false ask image x value s e h =
    let o = (instr_at image s.pc).op in
    let t = led image (Spill k) x value s in
    let phase : (if k == 15 then Run else Spill (k + 1)) ≡ Spill (k + 1) = rw e refl in
    let same : windows_by (Spill k) (instr_at image s.pc) (windows_of s) ≡ windows_of s = rw e refl in
    subst (λ (q : ArchPhase). IsNeeded q o t) (sym phase) (same_need ask (Spill (k + 1)) o s t same h)
led_needed (Fill k) true ask image x value s e h =
    let o = (instr_at image s.pc).op in
    let phase : (if k == 15 then Run else Fill (k + 1)) ≡ Run = rw e refl in
    subst (λ (q : ArchPhase). IsNeeded q o (led image (Fill k) x value s)) (sym phase) tt
led_needed (Fill k) false ask image x value s e h =
    let o = (instr_at image s.pc).op in
    let t = led image (Fill k) x value s in
    let phase : (if k == 15 then Run else Fill (k + 1)) ≡ Fill (k + 1) = rw e refl in
    let same : windows_by (Fill k) (instr_at image s.pc) (windows_of s) ≡ windows_of s = rw e refl in
    subst (λ (q : ArchPhase). IsNeeded q o t) (sym phase) (same_need ask (Fill (k + 1)) o s t same h)

applied_needed : (runs : Bool) → EffectsAsk → (image : ImageView) (part : ArchPhase) (x : Operands) (value : ℕ) (s : Arch)
    → let f = part_at part (instr_at image s.pc) s in is_running (computed image f x).end ≡ runs → IsNeeded part (instr_at image s.pc).op s → HasBegun image s → HasBegun image (applied f x (computed image f x) value s).state
applied_needed true ask image part x value s e h begun_before = rw e (led_needed part (is_last part) ask image x value s refl h)
applied_needed false ask image part x value s e h begun_before =
    let f = part_at part (instr_at image s.pc) s in
    rw e (same_need ask s.phase (instr_at image s.pc).op s (record s { end = (computed image f x).end }) refl begun_before)

pub begun_stays : EffectsAsk → StepIsComputed → BegunStays
begun_stays ask step_is image s value h =
    let n = next_of image s in
    let x = operands n s in
    subst (λ (y : Stepped). HasBegun image y.state) (sym (step_is image s value))
    (applied_needed (is_running (computed image n x).end) ask image n.part x value s refl (part_needed s.phase (instr_at image s.pc).op s h) h)

-- ---- places

under_way : EffectsAsk → (phase : ArchPhase) (i : Instr) (s : Arch) → IsPhase phase s.cansave s.canrestore → IsNeeded phase i.op s → (k : ℕ) → micro_of phase ≡ Some k → (1 ≤ k) × (k < 16) × (waits i (windows_of s) ≡ true)
under_way ask Run i s sound h k e = cc
under_way ask (Spill j) i s sound h k e =
    let z : j ≡ k = cc in
    (omega arith, omega arith, rw (sym (ask i.op s).0 ∙ h) refl)
under_way ask (Fill j) i s sound h k e =
    let z : j ≡ k = cc in
    let fills_it = sym (ask i.op s).1 ∙ h in
    (omega arith, omega arith, rw (never_both (window_effect_of i) (windows_of s) fills_it, fills_it) refl)

pub states_have_spots : EffectsAsk → StatesHaveSpots
states_have_spots ask image s sound h = record {
  windows = record { current = sound.current; others = sound.others };
  micro = λ k e. under_way ask s.phase (instr_at image s.pc) s sound.phase h k e;
}

-- what is fetched tells its place
back : (micro : Option ℕ) (waiting : Bool) → ((k : ℕ) → micro ≡ Some k → 1 ≤ k) → (i : Instr) (w : Window) → waits i w ≡ waiting → begun (micro_at micro i w) ≡ micro
back (Some k) waiting h i w e = let low = h k refl in rw (ne_eqb k 0 (λ z. omega arith)) refl
back None true h i w e = rw e refl
back None false h i w e = rw e refl

pub redirects_are_spots : RedirectsAreSpots
redirects_are_spots = (
  λ image pair w h. record { windows = h; micro = λ k e. cc },
  λ image s p h.
      let i = instr_at image s.pair.pc in
      ap (λ m. let spot : Spot = record { pair = s.pair; micro = m; window = s.window } in spot) (back s.micro (waits i s.window) (λ k e. (h.micro k e).0) i s.window refl),
)
