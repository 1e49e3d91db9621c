use Rattle.std.proofs.Common.{◌≡◌, ◌-◌, ◌≤◌, false, [], length}
use Rattle.rsim_base.specs.declared.memory.Model.{Model}
use Rattle.cycle_loop.specs.Stands.{Stands}
use Rattle.rsim_top.specs.Machine.{shared_view}
use Rattle.rsim_top.specs.Run.{HasCycled}
use Rattle.rsim_top.proofs.machine.run_cycles.Given as goal

abbrev pub invariant-loop-machine : goal.invariant-loop-machine
invariant-loop-machine l = record {
  is_open : l.machine.closed ≡ false;
  image : l.machine.image ≡ l.fn.machine.image;
  count : length (shared_view l.machine).cores ≡ length (shared_view l.fn.machine).cores;
  ran : HasCycled l.fn.machine.image (shared_view l.fn.machine) (shared_view l.machine);
  within : (shared_view l.fn.machine).cycles ≤ l.cycles → (shared_view l.machine).cycles ≤ l.cycles;
  stands : (model : Model) → Stands l.fn.machine.image model [] (shared_view l.fn.machine) → Stands l.machine.image model [] (shared_view l.machine);
}

abbrev pub decreases-loop-machine : goal.decreases-loop-machine
decreases-loop-machine l = l.cycles - (shared_view l.machine).cycles
