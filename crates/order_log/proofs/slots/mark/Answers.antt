use Rattle.std.proofs.Common.{arith}
use Rattle.order_log.proofs.Marks.{set-state_at}
use Rattle.order_log.proofs.slots.mark.Goals as goal

pub returns-clause-marked : goal.returns-clause-marked
returns-clause-marked c =
    let q = c.args.slots.now in
    set-state_at q.items c.args.at c.index_mut.result.now c.args.state (let ok = q.ok.0 in omega arith) c.index_mut.ensures.value
