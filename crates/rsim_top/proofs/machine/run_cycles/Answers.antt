use Rattle.std.proofs.Common.{◌≡◌, ◌<◌, false, ◌∙◌, subst, arith}
use Rattle.elf64_load.specs.Image.{ImageView}
use Rattle.cycle_loop.specs.Answers.{have_ended}
use Rattle.cycle_loop.specs.Machine.{CoreCycle}
use Rattle.cycle_loop.specs.Waits.{StepsOrWaits}
use Rattle.rsim_top.specs.Machine.{shared_view}
use Rattle.rsim_top.proofs.Running.{HasCycled-more}
use Rattle.rsim_top.proofs.machine.run_cycles.Goals as goal

pub loop-machine-preserved : goal.loop-machine-preserved
loop-machine-preserved c =
    let old = shared_view c.loop-machine.machine in
    let new = shared_view c.cycle.new.self in
    let inv = c.loop-machine.invariant in
    let going : have_ended old.cores ≡ false = cc in
    record {
      is_open = c.cycle.ensures.open;
      image = c.cycle.ensures.image ∙ inv.image;
      count = c.cycle.ensures.count ∙ inv.count;
      ran = HasCycled-more c.args.machine.now.image (shared_view c.args.machine.now) old new inv.ran going (subst (λ (i : ImageView). CoreCycle i old new) inv.image c.in_ok-cycle.ensures.cycle)
          (subst (λ (i : ImageView). StepsOrWaits i old new) inv.image c.in_ok-cycle.ensures.steps);
      within = λ low. let one = c.in_ok-cycle.ensures.cycle.cycles in let below : old.cycles < c.args.cycles = omega arith in omega arith;
      stands = λ model stands. c.in_ok-cycle.ensures.kept model _ (inv.stands model stands);
    }
