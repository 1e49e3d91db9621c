use Rattle.std.proofs.Common.{◌<◌, All}
use Rattle.memory_queue.specs.declared.queued.Queued.{Queued}
use Rattle.core_tests.proofs.queues.push_all.Given as goal

abbrev pub invariant-loop-seq : goal.invariant-loop-seq
invariant-loop-seq l = All (λ (x : Queued). x.seq < l.seq) l.queue.accesses
