use Rattle.std.proofs.Common.{◌<◌, ◌+◌, All, subst, sym}
use Rattle.memory_queue.specs.Queues.{QueueView}
use Rattle.memory_queue.specs.declared.queued.Queued.{Queued}
use Rattle.memory_queue.specs.Numbers.{below-pushed}
use Rattle.core_tests.proofs.queues.push_all.Goals as goal

pub loop-seq-preserved : goal.loop-seq-preserved
loop-seq-preserved c =
    subst (λ (q : QueueView). All (λ (x : Queued). x.seq < c.loop-seq.seq + 1) q.accesses) (sym c.push.ensures.after) (below-pushed c.loop-seq.seq _ _ _ _ c.loop-seq.invariant)
