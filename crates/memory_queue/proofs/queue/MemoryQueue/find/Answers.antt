use Rattle.std.proofs.Common.{List, length, ap, subst, arith}
use Rattle.memory_queue.specs.Queues.{AreRising, QueueView}
use Rattle.memory_queue.specs.declared.queued.Queued.{Queued}
use Rattle.memory_queue.proofs.Rising.{changed-at, none-more, unchanged}
use Rattle.memory_queue.proofs.queue.MemoryQueue.find.Goals as goal

pub returns-then-access-seq-clause-changed : goal.returns-then-access-seq-clause-changed
returns-then-access-seq-clause-changed c = λ change.
    let q = c.args.self.now in
    let rising : AreRising q.accesses = subst AreRising (ap (λ (v : QueueView). v.accesses) c.self.view_is) c.self.invariant.0 in
    ap (λ (xs : List Queued). record q { accesses = xs }) (changed-at c.args.seq change q.accesses c.loop-place.place c.known-access.result.now rising c.known-access.ensures c.if-access-seq.true)

pub loop-place-preserved : goal.loop-place-preserved
loop-place-preserved c = none-more c.args.seq c.args.self.now.accesses c.loop-place.place c.known-access.result.now c.known-access.ensures c.if-access-seq.false c.loop-place.invariant

pub returns-clause-none : goal.returns-clause-none
returns-clause-none c = λ none change.
    let q = c.args.self.now in
    let long = ap (λ (v : QueueView). length v.accesses) c.self.view_is in
    ap (λ (xs : List Queued). record q { accesses = xs }) (unchanged c.args.seq change q.accesses (λ k d within. c.loop-place.invariant k d (omega (arith, within, long, c.loop-place-test.false, c.len-place-end.ensures.len))))
