-- In each cycle a processor makes a step, or waits.
use Rattle.std.proofs.Common.{◌≡◌, ◌⊎◌, ◌+◌, ◌&&◌, not, ℕ, zero, suc, Bool, true, false, List, [], ◌∷◌, Some, slice_get, refl, sym, ap, ◌∙◌, inl, inr, ⊎_elim, arith}
use Rattle.elf64_load.specs.Image.{ImageView}
use Rattle.memory_contracts.specs.Store.{StoreView}
use Rattle.order_log.specs.Log.{Place}
use Rattle.sparc_meaning.specs.declared.acts.Act.{Act}
use Rattle.sparc_meaning.specs.declared.acts.Act.TheVariants.{Nothing, Load, Store, Atomic, Fence, Out, End as Ended}
use Rattle.sparc_meaning.specs.declared.arch.Arch.{Arch}
use Rattle.sparc_meaning.specs.Acts.{reads}
use Rattle.sparc_meaning.specs.Arch.{is_running}
use Rattle.sparc_meaning.specs.Run.{uses_value}
use Rattle.sparc_meaning.specs.Step.{step}
use Rattle.sparc_meaning.specs.StepIgnores.{step_ignores}
use Rattle.sparc_meaning.specs.StepReads.{step_reads}
use Rattle.sparc_meaning.specs.Stepped.{Stepped}
use Rattle.sparc_meaning.specs.Wants.{wanted}
use Rattle.cycle_loop.specs.Lines.{wants_line}
use Rattle.cycle_loop.specs.Machine.{At, CoreCycle, CoreView, MachineView, lacks_line, next_step, turn, turns, value_found}
use Rattle.cycle_loop.specs.Waits.{StepsOrWaits}
use Rattle.cycle_loop.proofs.Cycling.{turn_by}
use Rattle.list_facts.specs.Options.{Some-injective}

-- ---- whether a line is lacking goes by the step alone

by_want : (v : StoreView) (p : ℕ) (act : Act) → uses_value act ≡ true → lacks_line v p act ≡ wants_line v p (reads act)
by_want v p (Load addr n loaded) uses = refl
by_want v p (Atomic addr n loaded stored) uses = refl
by_want v p (Store addr n stored) uses = absurd cc
by_want v p Nothing uses = absurd cc
by_want v p (Fence mask) uses = absurd cc
by_want v p (Out spoken) uses = absurd cc
by_want v p Ended uses = absurd cc

-- whether the step uses its value doesn't go by the value
uses_by_want : (act : Act) → uses_value act ≡ true → (other : Act) → reads act ≡ reads other → uses_value other ≡ true
uses_by_want act uses (Load addr n loaded) same = refl
uses_by_want act uses (Atomic addr n loaded stored) same = refl
uses_by_want (Load addr n loaded) uses (Store addr' n' stored) same = absurd cc
uses_by_want (Load addr n loaded) uses Nothing same = absurd cc
uses_by_want (Load addr n loaded) uses (Fence mask) same = absurd cc
uses_by_want (Load addr n loaded) uses (Out spoken) same = absurd cc
uses_by_want (Load addr n loaded) uses Ended same = absurd cc
uses_by_want (Atomic addr n loaded s) uses (Store addr' n' stored) same = absurd cc
uses_by_want (Atomic addr n loaded s) uses Nothing same = absurd cc
uses_by_want (Atomic addr n loaded s) uses (Fence mask) same = absurd cc
uses_by_want (Atomic addr n loaded s) uses (Out spoken) same = absurd cc
uses_by_want (Atomic addr n loaded s) uses Ended same = absurd cc
uses_by_want _ uses _ same = absurd cc

lacks_for_all : (image : ImageView) (v : StoreView) (p : ℕ) (a : Arch) (x y : ℕ) → lacks_line v p (step image a x).act ≡ lacks_line v p (step image a y).act
lacks_for_all image v p a x y = by_use (uses_value (step image a x).act) refl
  where
    by_use : (b : Bool) → uses_value (step image a x).act ≡ b → lacks_line v p (step image a x).act ≡ lacks_line v p (step image a y).act
    by_use false quiet = ap (λ (s : Stepped). lacks_line v p s.act) (sym (step_ignores image a x y quiet))
    by_use true uses =
        let same : reads (step image a x).act ≡ reads (step image a y).act = step_reads image a x ∙ sym (step_reads image a y) in
        by_want v p (step image a x).act uses ∙ ap (wants_line v p) same ∙ sym (by_want v p (step image a y).act (uses_by_want (step image a x).act uses (step image a y).act same))

-- ---- a turn

abbrev Waits : ImageView → StoreView → ℕ → CoreView → Type 0
Waits image v p c = (bytes : ℕ → ℕ) → lacks_line v p (next_step image bytes c.arch).act ≡ true

turn_by-steps : (b : Bool) (p : ℕ) (s : Stepped) (x : At) → ((turn_by b p s x).core.retired ≡ x.core.retired + 1) ⊎ (((turn_by b p s x).core ≡ x.core) × (b ≡ false))
turn_by-steps true p s x = inl refl
turn_by-steps false p s x = inr (refl, refl)

off_by : (running lacks : Bool) → running ≡ true → (running && not lacks) ≡ false → lacks ≡ true
off_by true true runs off = refl
off_by true false runs off = absurd cc
off_by false lacks runs off = absurd cc

turn_steps : (image : ImageView) (v : StoreView) (p : ℕ) (c : CoreView) (log : List Place) (bytes : ℕ → ℕ) → is_running c.arch.end ≡ true →
    let d = (turn image v p (record { core = c; log = log; bytes = bytes })).core in (d.retired ≡ c.retired + 1) ⊎ ((d ≡ c) × Waits image v p c)
turn_steps image v p c log bytes running =
    let s = next_step image bytes c.arch in
    ⊎_elim inl
    (λ stays. inr (
      stays.0,
      λ other. lacks_for_all image v p c.arch (value_found other (wanted image c.arch)) (value_found bytes (wanted image c.arch))
          ∙ off_by (is_running c.arch.end) (lacks_line v p s.act) running stays.1,
    ))
    (turn_by-steps (is_running c.arch.end && not (lacks_line v p s.act)) p s (record { core = c; log = log; bytes = bytes }))

-- ---- the turns of all

-- the processor after its turn
record HasTurned (image : ImageView) (v : StoreView) (p : ℕ) (c : CoreView) (cores : List CoreView) (k : ℕ) : Type 0 where
  log : List Place
  bytes : ℕ → ℕ
  stands : slice_get cores k ≡ Some (turn image v p (record { core = c; log = log; bytes = bytes })).core

turns_each : (image : ImageView) (v : StoreView) (q p : ℕ) (cs : List CoreView) (log : List Place) (bytes : ℕ → ℕ) (k : ℕ) (c : CoreView) → slice_get cs k ≡ Some c → q ≡ p + k →
    HasTurned image v q c (turns image v p cs log bytes).cores k
turns_each image v q p [] log bytes k c at place = absurd cc
turns_each image v q p (x ∷ cs) log bytes zero c at place =
    let here : p ≡ q = omega arith in
    record {
      log = log;
      bytes = bytes;
      stands = ap (λ (d : CoreView). Some (turn image v p (record { core = d; log = log; bytes = bytes })).core) (Some-injective at)
          ∙ ap (λ (r : ℕ). Some (turn image v r (record { core = c; log = log; bytes = bytes })).core) here;
    }
turns_each image v q p (x ∷ cs) log bytes (suc k) c at place =
    let y = turn image v p (record { core = x; log = log; bytes = bytes }) in
    let there = turns_each image v q (suc p) cs y.log y.bytes k c at (omega arith) in
    record { log = there.log; bytes = there.bytes; stands = there.stands }

pub lacks_same : (v : StoreView) (bytes : ℕ → ℕ) (w : StoreView) (p : ℕ) (act : Act) → w ≡ record v { bytes = bytes; wishes = w.wishes } → lacks_line w p act ≡ lacks_line v p act
lacks_same v bytes w p act same = ap (λ (u : StoreView). lacks_line u p act) same ∙ by_act act
  where
    by_act : (act : Act) → lacks_line (record v { bytes = bytes; wishes = w.wishes }) p act ≡ lacks_line v p act
    by_act (Load addr n loaded) = refl
    by_act (Atomic addr n loaded stored) = refl
    by_act (Store addr n stored) = refl
    by_act Nothing = refl
    by_act (Fence mask) = refl
    by_act (Out spoken) = refl
    by_act Ended = refl

pub CoreCycle-steps : (image : ImageView) (old new : MachineView) → CoreCycle image old new → StepsOrWaits image old new
CoreCycle-steps image old new cycle p c at running =
    let v = cycle.ticked in
    let t = turns image v 0 old.cores old.log v.bytes in
    let turned = turns_each image v p 0 old.cores old.log v.bytes p c at (omega arith) in
    let x = turn image v p (record { core = c; log = turned.log; bytes = turned.bytes }) in (
      x.core,
      ap (λ (cores : List CoreView). slice_get cores p) cycle.cores ∙ turned.stands,
      ⊎_elim inl
          (λ stays. inr (stays.0, λ bytes. lacks_same v t.bytes new.store p (next_step image bytes c.arch).act cycle.store ∙ stays.1 bytes))
          (turn_steps image v p c turned.log turned.bytes running),
    )
