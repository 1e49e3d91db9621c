use Rattle.std.proofs.Common.{◌<◌, subst, sym, ap, ◌∙◌, arith}
use Rattle.std.specs.List.{All}
use Rattle.std.specs.VecDeque.{deque_len}
use Rattle.order_log.specs.Slots.{offset, places_of, after_change}
use Rattle.order_log.specs.Log.{LogView}
use Rattle.order_log.proofs.Kept.{AreListed-changed, list_of-within, MarksAll-listed}
use Rattle.order_log.proofs.Places.{places_of-changed}
use Rattle.order_log.proofs.log.OrderLog.change.Goals as goal

pub mark_all-requires : goal.mark_all-requires
mark_all-requires c =
    let l = c.self.inside in
    let ok = l.slots.ok.0 in
    let within = list_of-within l.first c.args.p.0 (deque_len l.slots) l.slots.items l.waiting.lists c.self.invariant.0 (omega arith) (omega arith) (omega arith) in
    subst (All (λ e. offset l.first e.slot < deque_len l.slots)) (sym c.list_of-entries.ensures) within

pub invariant_of-self : goal.invariant_of-self
invariant_of-self c =
    let l = c.self.inside in
    let marked = MarksAll-listed l.first c.args.p.0 c.args.span c.args.state c.list_of-entries.result.now l.slots.items c.mark_all.new.slots.items l.waiting.lists c.self.invariant.0 c.list_of-entries.ensures c.mark_all.ensures.marked in
    (rw (marked, c.remove.ensures.lists) (AreListed-changed l.first c.args.p.0 c.args.span c.args.state l.slots.items l.waiting.lists c.requires c.self.invariant.0), omega arith, omega arith)

pub returns-clause-places : goal.returns-clause-places
returns-clause-places c =
    let l = c.self.inside in
    let marked = MarksAll-listed l.first c.args.p.0 c.args.span c.args.state c.list_of-entries.result.now l.slots.items c.mark_all.new.slots.items l.waiting.lists c.self.invariant.0 c.list_of-entries.ensures c.mark_all.ensures.marked in
    ap places_of marked
    ∙ (places_of-changed c.args.p.0 c.args.span c.args.state l.slots.items c.requires
    ∙ ap (λ (v : LogView). after_change c.args.p.0 c.args.span c.args.state v.places) c.self.view_is)
