use Rattle.std.proofs.Common.{arith}
use Rattle.settle_watch.proofs.InOrder.{placed_in_order}
use Rattle.settle_watch.proofs.watch.SettleWatch.watch.Goals as goal

pub invariant_of-self : goal.invariant_of-self
invariant_of-self c =
    (omega arith, rw c.place.ensures.items (placed_in_order (record { seq = c.args.seq; line = c.args.line; from_store = c.args.from_store }) c.self.inside.loads.items c.self.invariant.1))
