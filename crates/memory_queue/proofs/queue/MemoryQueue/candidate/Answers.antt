use Rattle.std.proofs.Common.{◌+◌, ◌≤◌, length, subst, sym, ap, ◌∙◌, arith}
use Rattle.memory_queue.specs.Queues.{QueueView, binds_now}
use Rattle.memory_queue.specs.Rows.{AreRows, is_waiting}
use Rattle.memory_queue.proofs.Ringed.{row-turned}
use Rattle.memory_queue.proofs.Picking.{none-on, none-waiting}
use Rattle.memory_queue.proofs.queue.MemoryQueue.candidate.Goals as goal

pub loop-k-init : goal.loop-k-init
loop-k-init c =
    let rows : AreRows c.self.inside.rows c.args.self.now.accesses = subst (AreRows c.self.inside.rows) (ap (λ (v : QueueView). v.accesses) c.self.view_is) c.self.invariant.3 in
    let row = row-turned is_waiting c.self.inside.rows.waiting c.by_age-waiting.result c.self.inside.rows.head c.args.self.now.accesses rows.waiting c.by_age-waiting.ensures in
    let next = c.next-k.ensures in
    let long = ap (λ (v : QueueView). length v.accesses) c.self.view_is in
    record {
      behind = next.behind (omega (arith, c.if-from-end.false, long, c.self.invariant.2));
      small = next.within;
      none = none-waiting c.args.self.now c.by_age-waiting.result 0 c.args.from c.next-k.result row next;
    }

pub loop-k-preserved : goal.loop-k-preserved
loop-k-preserved c =
    let rows : AreRows c.self.inside.rows c.args.self.now.accesses = subst (AreRows c.self.inside.rows) (ap (λ (v : QueueView). v.accesses) c.self.view_is) c.self.invariant.3 in
    let row = row-turned is_waiting c.self.inside.rows.waiting c.by_age-waiting.result c.self.inside.rows.head c.args.self.now.accesses rows.waiting c.by_age-waiting.ensures in
    let next = c.next-k-in-loop-k.ensures in
    let before = c.loop-k.invariant in
    let long = ap (λ (v : QueueView). length v.accesses) c.self.view_is in
    let on : c.loop-k.k + 1 ≤ c.next-k-in-loop-k.result = next.behind (omega (arith, c.loop-k-test.true, long, c.self.invariant.2)) in
    record {
      behind = omega (arith, before.behind, on);
      small = next.within;
      none = none-on (binds_now c.args.self.now) c.args.from c.loop-k.k c.next-k-in-loop-k.result before.none (sym c.may_bind.ensures ∙ c.if-may_bind.false)
          (none-waiting c.args.self.now c.by_age-waiting.result 0 (c.loop-k.k + 1) c.next-k-in-loop-k.result row next);
    }
