use Rattle.std.proofs.Common.{◌≡◌, ◌≤◌, ◌+◌, ◌*◌, drop}
use Rattle.cycle_loop.specs.Answers.{all_retired}
use Rattle.rsim_top.specs.Machine.{shared_view}
use Rattle.rsim_top.proofs.command.all_retired.Given as goal

abbrev pub invariant-loop-p : goal.invariant-loop-p
invariant-loop-p l = record {
  low : l.steps ≤ l.p * 4294967296;
  counted : l.steps + all_retired (drop l.p (shared_view l.machine).cores) ≡ all_retired (shared_view l.machine).cores;
}
