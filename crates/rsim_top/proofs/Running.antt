-- Runs, cycle by cycle.
use Rattle.std.proofs.Common.{◌≡◌, ◌⊎◌, ◌*◌, ◌≤◌, ◌<◌, ℕ, true, false, [], ◌∷◌, length, refl, sym, ap, subst, ◌∙◌, inl, inr, ⊎_elim, arith}
use Rattle.std.proofs.lemmas.Bool.{cases_lt, leb-true}
use Rattle.rsim_base.specs.Limits.{max_steps}
use Rattle.elf64_load.specs.Image.{ImageView}
use Rattle.machine_config.specs.Allowed.{IsAllowed, is_short}
use Rattle.machine_config.specs.Sizes.{AreSizes}
use Rattle.machine_config.specs.declared.config.Config.{Config}
use Rattle.cycle_loop.specs.Answers.{have_ended}
use Rattle.cycle_loop.specs.Machine.{CoreCycle, MachineView}
use Rattle.cycle_loop.specs.Waits.{StepsOrWaits}
use Rattle.cycle_loop.specs.Ready.{AreCounted}
use Rattle.cycle_loop.specs.Stands.{Closed}
use Rattle.rsim_base.specs.declared.memory.Model.{Model}
use Rattle.rsim_top.specs.Run.{HasCycled, HasRun, IsCycle, IsMade, RunsOn}

-- all processors together retire so few steps
pub few_steps : (config : Config) (cycles : ℕ) → AreSizes config → is_short config cycles ≡ true → config.processors * cycles ≤ max_steps
few_steps config cycles sizes short =
    let within : cycles * config.processors * config.retire_width ≤ max_steps = leb-true (cycles * config.processors * config.retire_width) max_steps short in
    let retires = sizes.retire_width.0 in
    let more : cycles * config.processors ≤ cycles * config.processors * config.retire_width = grind (arith, retires) in
    let same : config.processors * cycles ≡ cycles * config.processors = omega arith in
    omega arith

pub few_cycles : (config : Config) (cycles : ℕ) → AreSizes config → is_short config cycles ≡ true → cycles ≤ max_steps
few_cycles config cycles sizes short =
    let all = few_steps config cycles sizes short in
    let some = sizes.processors.0 in
    let more : cycles ≤ config.processors * cycles = grind (arith, some) in
    omega arith

-- ---- cycles

pub HasCycled-start : (image : ImageView) (v : MachineView) → HasCycled image v v
HasCycled-start image v = record { earlier = []; run = refl; count = omega arith }

pub HasCycled-more : (image : ImageView) (first v w : MachineView) → HasCycled image first v → have_ended v.cores ≡ false → CoreCycle image v w → StepsOrWaits image v w → HasCycled image first w
HasCycled-more image first v w ran going cycle steps =
    let is : IsCycle image v w = record { going = going; cycle = cycle; steps = steps } in
    record {
      earlier = v ∷ ran.earlier;
      run = (is, ran.run);
      count = let one = cycle.cycles in let before = ran.count in omega arith;
    }

-- so many cycles at most, and fewer only where all have ended
pub RunsOn-over : (image : ImageView) (cycles : ℕ) (first last : MachineView) → HasCycled image first last → (first.cycles ≤ cycles → last.cycles ≤ cycles) → (last.cycles < cycles → have_ended last.cores ≡ true) → RunsOn image cycles first last
RunsOn-over image cycles first last ran within over = record {
  ran = ran;
  within = within;
  over = λ low. let most = within low in ⊎_elim (λ lt. inr (over lt)) (λ ge. inl (omega arith)) (cases_lt last.cycles cycles);
}

-- ---- a machine that was made, has run, and was closed

pub record HasClosed (image : ImageView) (config : Config) (cycles : ℕ) (first last closed : MachineView) : Type 0 where
  pub made : IsMade image config first
  pub runs_on : RunsOn image cycles first last
  pub count : length last.cores ≡ length first.cores
  pub counted : AreCounted closed.cycles closed.cores
  pub fits : (model : Model) → Closed image model [] closed

pub HasRun-closed : (image : ImageView) (config : Config) (cycles : ℕ) (first last closed : MachineView) → closed ≡ last → HasClosed image config cycles first last closed → HasRun image config cycles closed
HasRun-closed image config cycles first last closed same has =
    let low : first.cycles ≤ cycles = let none = has.made.start.cycles in omega arith in
    record {
      first = first;
      made = has.made;
      ran = subst (HasCycled image first) (sym same) has.runs_on.ran;
      count = ap (λ (v : MachineView). length v.cores) same ∙ has.count ∙ has.made.count;
      within = subst (λ (v : MachineView). v.cycles ≤ cycles) (sym same) (has.runs_on.within low);
      over = subst (λ (v : MachineView). (v.cycles ≡ cycles) ⊎ (have_ended v.cores ≡ true)) (sym same) (has.runs_on.over low);
      counted = has.counted;
      closed = has.fits;
    }
