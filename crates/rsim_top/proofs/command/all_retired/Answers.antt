use Rattle.std.proofs.Common.{arith}
use Rattle.rsim_top.specs.Machine.{shared_view}
use Rattle.rsim_top.proofs.Counting.{retired_all, retired_more}
use Rattle.rsim_top.proofs.command.all_retired.Goals as goal

pub loop-p-preserved : goal.loop-p-preserved
loop-p-preserved c = record {
  low = let low = c.loop-p.invariant.low in omega arith;
  counted = rw c.from-steps.ensures (retired_more (shared_view c.args.machine.now).cores c.loop-p.p c.loop-p.steps c.retired.result (omega arith) c.retired.ensures c.loop-p.invariant.counted);
}

pub returns : goal.returns
returns c = retired_all (shared_view c.args.machine.now).cores c.loop-p.p c.loop-p.steps (omega arith) c.loop-p.invariant.counted
