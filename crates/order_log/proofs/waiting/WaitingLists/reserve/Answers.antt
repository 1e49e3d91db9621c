use Rattle.order_log.proofs.Lists.{AreRoomy-same}
use Rattle.order_log.proofs.waiting.WaitingLists.reserve.Goals as goal

pub invariant_of-self : goal.invariant_of-self
invariant_of-self c =
    let l = c.self.inside in
    AreRoomy-same l.spare l.spare l.lists.items c.reserve_each.new.lists.items c.reserve_each.ensures.items c.self.invariant (c.reserve_each.ensures.kept l.spare c.self.invariant.room)
