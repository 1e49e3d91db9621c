use Rattle.std.proofs.Common.{◌+◌, false, not, ◌&&◌, subst, sym, ap, ◌∙◌, arith}
use Rattle.memory_queue.specs.Queues.{QueueView, is_needed}
use Rattle.memory_queue.specs.Rows.{AreRows, passes_at, is_unplaced}
use Rattle.memory_queue.specs.declared.queued.Queued.{Queued}
use Rattle.memory_queue.proofs.Ringed.{row-turned}
use Rattle.memory_queue.proofs.Picking.{none-any, none-holds_back, none-on, passes-at}
use Rattle.memory_queue.proofs.Walking.{any-at}
use Rattle.memory_queue.proofs.queue.MemoryQueue.is_ready.Goals as goal

pub returns-then-holds_back : goal.returns-then-holds_back
returns-then-holds_back c =
    let q = c.args.self.now in
    let x = c.known.result.now in
    let model = ap (λ (v : QueueView). not x.placed && is_needed v.model x c.args.a c.args.access.now) c.self.view_is in
    sym (ap not (any-at (λ (x : Queued). not x.placed && is_needed q.model x c.args.a c.args.access.now) q.accesses c.loop-place.place c.args.k x c.known.ensures c.loop-place-test.true (sym model ∙ (sym c.holds_back.ensures ∙ c.if-holds_back.true))))

pub loop-place-init : goal.loop-place-init
loop-place-init c =
    let q = c.args.self.now in
    let rows : AreRows c.self.inside.rows c.args.self.now.accesses = subst (AreRows c.self.inside.rows) (ap (λ (v : QueueView). v.accesses) c.self.view_is) c.self.invariant.3 in
    let row = row-turned is_unplaced c.self.inside.rows.unplaced c.by_age-unplaced.result c.self.inside.rows.head c.args.self.now.accesses rows.unplaced c.by_age-unplaced.ensures in
    record {
      small = c.next-place.ensures.within;
      none = none-holds_back q.model c.args.a c.args.access.now q.accesses c.by_age-unplaced.result 0 0 c.next-place.result row c.next-place.ensures;
    }

pub loop-place-preserved : goal.loop-place-preserved
loop-place-preserved c =
    let q = c.args.self.now in
    let x = c.known.result.now in
    let rows : AreRows c.self.inside.rows c.args.self.now.accesses = subst (AreRows c.self.inside.rows) (ap (λ (v : QueueView). v.accesses) c.self.view_is) c.self.invariant.3 in
    let row = row-turned is_unplaced c.self.inside.rows.unplaced c.by_age-unplaced.result c.self.inside.rows.head c.args.self.now.accesses rows.unplaced c.by_age-unplaced.ensures in
    let next = c.next-place-in-loop-place.ensures in
    let model = ap (λ (v : QueueView). not x.placed && is_needed v.model x c.args.a c.args.access.now) c.self.view_is in
    let test = λ (x : Queued). not x.placed && is_needed q.model x c.args.a c.args.access.now in
    record {
      small = next.within;
      none = none-on (passes_at test q.accesses) 0 c.loop-place.place c.next-place-in-loop-place.result c.loop-place.invariant.none
          (passes-at test q.accesses c.loop-place.place x false c.known.ensures (sym model ∙ (sym c.holds_back.ensures ∙ c.if-holds_back.false)))
          (none-holds_back q.model c.args.a c.args.access.now q.accesses c.by_age-unplaced.result 0 (c.loop-place.place + 1) c.next-place-in-loop-place.result row next);
    }

pub returns : goal.returns
returns c =
    let q = c.args.self.now in
    sym (ap not (none-any (λ (x : Queued). not x.placed && is_needed q.model x c.args.a c.args.access.now) q.accesses c.args.k (λ j lt. c.loop-place.invariant.none j (omega arith) (omega (arith, lt, c.loop-place-test.false)))))
