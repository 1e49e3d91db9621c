use Rattle.std.proofs.Common.{refl, length-set}
use Rattle.std.specs.Vec.{with_item}
use Rattle.issue_queue.proofs.Wakes.{are_woken, entries-woken, sound-woken}
use Rattle.issue_queue.proofs.table.Table.wake.Goals as goal

pub invariant_of-self : goal.invariant_of-self
invariant_of-self c =
    sound-woken c.self.inside c.self.invariant c.args.r.0 _ _ _ _ _ _
    (are_woken c.self.inside c.args.r.0 _ _ _ _ _ _ _ _ _ c.from-register.ensures (rw (← c.self.view_is) at c.requires) c.index.ensures c.and.ensures c.outside-readers.ensures
    c.clear_needs.ensures.len c.clear_needs.ensures.needs c.clear_needs.ensures.clear c.or-self-inside.ensures refl c.none.ensures)

pub returns : goal.returns
returns c =
    let t = c.self.inside in
    let entries = entries-woken t c.self.invariant c.args.r.0 _ _ _ _ _ _
    (are_woken t c.args.r.0 _ _ _ _ _ _ c.none.result c.clear_needs.new.needs (with_item t.readers c.from-register.result c.none.result) c.from-register.ensures (rw (← c.self.view_is) at c.requires) c.index.ensures c.and.ensures c.outside-readers.ensures
    c.clear_needs.ensures.len c.clear_needs.ensures.needs c.clear_needs.ensures.clear c.or-self-inside.ensures refl c.none.ensures) in
    rw (← c.self.view_is) (λ i. record { entries = entries i; tick = t.tick; registers = length-set t.readers.items c.from-register.result c.none.result i })
