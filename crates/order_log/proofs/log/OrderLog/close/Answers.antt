use Rattle.std.proofs.Common.{refl, arith}
use Rattle.order_log.specs.declared.slots.State.TheVariants.{Retired}
use Rattle.order_log.proofs.Kept.{AreListed-same, SameEntries-append}
use Rattle.order_log.proofs.log.OrderLog.close.Goals as goal

pub invariant_of-self : goal.invariant_of-self
invariant_of-self c =
    let l = c.self.inside in
    let listed = AreListed-same l.first l.first l.slots.items _ l.waiting.lists c.self.invariant.0 (SameEntries-append l.first l.slots.items (record { access = c.args.rest.now; state = Retired }) refl) in
    (rw c.put.ensures.items listed, omega arith, omega arith)
