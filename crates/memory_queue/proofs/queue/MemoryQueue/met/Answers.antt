use Rattle.std.proofs.Common.{◌≡◌, ◌-◌, length, find, reverse, take, true, false, subst, sym, ap, ◌∙◌, arith}
use Rattle.memory_queue.specs.Queues.{QueueView, is_met_at, meets}
use Rattle.memory_queue.specs.Rows.{AreRows, is_open}
use Rattle.memory_queue.proofs.Forwarding.{find-back, met-at}
use Rattle.memory_queue.proofs.Ringed.{row-turned}
use Rattle.memory_queue.proofs.Picking.{find-skipped, none-on, none-open}
use Rattle.memory_queue.proofs.queue.MemoryQueue.met.Goals as goal

pub returns-then-meets-clause-value : goal.returns-then-meets-clause-value
returns-then-meets-clause-value c =
    let xs = c.args.self.now.accesses in
    let x = c.known.result.now in
    find-skipped (meets c.args.a c.args.n) xs c.loop-end.end c.args.k c.loop-end.invariant.within c.requires c.loop-end.invariant.none
    ∙ (find-back (meets c.args.a c.args.n) xs c.loop-end.end x true c.loop-end-test.true c.known.ensures (sym c.meets.ensures ∙ c.if-meets.true)
    ∙ sym c.known.ensures)

pub loop-end-init : goal.loop-end-init
loop-end-init c =
    let xs = c.args.self.now.accesses in
    let rows : AreRows c.self.inside.rows c.args.self.now.accesses = subst (AreRows c.self.inside.rows) (ap (λ (v : QueueView). v.accesses) c.self.view_is) c.self.invariant.3 in
    let row = row-turned is_open c.self.inside.rows.stores c.by_age-stores.result c.self.inside.rows.head c.args.self.now.accesses rows.stores c.by_age-stores.ensures in
    let long = ap (λ (v : QueueView). length v.accesses) c.self.view_is in
    record {
      within = c.previous-end.ensures.within;
      none = none-open c.args.a c.args.n xs c.by_age-stores.result 0 c.args.k c.previous-end.result (omega (arith, c.requires, long, c.self.invariant.2)) row c.previous-end.ensures;
    }

pub loop-end-preserved : goal.loop-end-preserved
loop-end-preserved c =
    let xs = c.args.self.now.accesses in
    let x = c.known.result.now in
    let rows : AreRows c.self.inside.rows c.args.self.now.accesses = subst (AreRows c.self.inside.rows) (ap (λ (v : QueueView). v.accesses) c.self.view_is) c.self.invariant.3 in
    let row = row-turned is_open c.self.inside.rows.stores c.by_age-stores.result c.self.inside.rows.head c.args.self.now.accesses rows.stores c.by_age-stores.ensures in
    let long = ap (λ (v : QueueView). length v.accesses) c.self.view_is in
    let before = c.loop-end.invariant in
    let previous = c.previous-end-in-loop-end.ensures in
    let passed : meets c.args.a c.args.n x ≡ false = sym c.meets.ensures ∙ c.if-meets.false in
    record {
      within = omega (arith, previous.within, before.within);
      none = none-on (is_met_at c.args.a c.args.n xs) c.previous-end-in-loop-end.result (c.loop-end.end - 1) c.args.k
          (none-open c.args.a c.args.n xs c.by_age-stores.result 0 (c.loop-end.end - 1) c.previous-end-in-loop-end.result (omega (arith, before.within, c.requires, long, c.self.invariant.2)) row previous)
          (met-at c.args.a c.args.n xs (c.loop-end.end - 1) x false c.known.ensures passed)
          (λ j past lt. before.none j (omega (arith, past, c.loop-end-test.true)) lt);
    }

pub returns-clause-value : goal.returns-clause-value
returns-clause-value c =
    let xs = c.args.self.now.accesses in
    let none : c.loop-end.end ≡ 0 = omega (arith, c.loop-end-test.false) in
    find-skipped (meets c.args.a c.args.n) xs c.loop-end.end c.args.k c.loop-end.invariant.within c.requires c.loop-end.invariant.none
    ∙ ap (λ i. find (meets c.args.a c.args.n) (reverse (take i xs))) none
