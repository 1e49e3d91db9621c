use Rattle.std.proofs.Common.{◌<◌, ◌≤◌, length, subst, sym, ap, ◌∙◌, arith}
use Rattle.memory_queue.specs.Queues.{QueueView}
use Rattle.memory_queue.specs.Rows.{AreRows, is_unknown}
use Rattle.memory_queue.proofs.Binding.{none-from}
use Rattle.memory_queue.proofs.Ringed.{row-turned}
use Rattle.memory_queue.proofs.Picking.{false-of-not, none-unknown, there-at}
use Rattle.memory_queue.proofs.queue.MemoryQueue.first_unknown.Goals as goal

pub returns-clause-known : goal.returns-clause-known
returns-clause-known c = λ j below.
    let xs = c.args.self.now.accesses in
    let rows : AreRows c.self.inside.rows c.args.self.now.accesses = subst (AreRows c.self.inside.rows) (ap (λ (v : QueueView). v.accesses) c.self.view_is) c.self.invariant.3 in
    let row = row-turned is_unknown c.self.inside.rows.unknown c.by_age-unknown.result c.self.inside.rows.head c.args.self.now.accesses rows.unknown c.by_age-unknown.ensures in
    let next = c.next-oldest.ensures in
    none-unknown xs j (λ i lt. sym (row i (omega (arith, lt, below, c.min.ensures, next.within))) ∙ next.before i (omega arith) (omega (arith, lt, below, c.min.ensures)))

pub returns-clause-rest : goal.returns-clause-rest
returns-clause-rest c = λ j past lt.
    let xs = c.args.self.now.accesses in
    let rows : AreRows c.self.inside.rows c.args.self.now.accesses = subst (AreRows c.self.inside.rows) (ap (λ (v : QueueView). v.accesses) c.self.view_is) c.self.invariant.3 in
    let row = row-turned is_unknown c.self.inside.rows.unknown c.by_age-unknown.result c.self.inside.rows.head c.args.self.now.accesses rows.unknown c.by_age-unknown.ensures in
    let next = c.next-oldest.ensures in
    let long = ap (λ (v : QueueView). length v.accesses) c.self.view_is in
    let here : c.next-oldest.result ≤ j = omega (arith, past, lt, long, c.len.ensures, c.min.ensures) in
    let below : c.next-oldest.result < 128 = omega (arith, here, lt, long, c.self.invariant.2) in
    let (y, at, is) = there-at is_unknown xs c.next-oldest.result (sym (row c.next-oldest.result below) ∙ next.there below) in
    none-from c.args.self.now c.next-oldest.result y at (false-of-not _ is) j here
