use Rattle.std.proofs.Common.{◌+◌, ◌%◌, ◌^◌, arith}
use Rattle.order_log.proofs.Kept.{AreListed-push}
use Rattle.order_log.proofs.log.OrderLog.take_place.Goals as goal

pub invariant_of-self : goal.invariant_of-self
invariant_of-self c =
    let l = c.self.inside in
    let listed = AreListed-push l.first ((l.first + c.len.result) % 2 ^ 64) l.slots.items l.waiting.lists c.args.access c.self.invariant.0 (let ok = l.slots.ok.0 in omega arith) in
    (rw (c.put.ensures.items, c.push.ensures.lists) listed, omega arith, omega arith)
