use Rattle.std.proofs.Common.{◌≡◌, ℕ, ◌-◌, ◌<◌, ◌≤◌, false}
use Rattle.memory_queue.specs.Queues.{binds_now}
use Rattle.memory_queue.proofs.queue.MemoryQueue.candidate.Given as goal

abbrev pub invariant-loop-k : goal.invariant-loop-k
invariant-loop-k l = record {
  behind : l.from ≤ l.k;
  small : l.k ≤ 128;
  none : (j : ℕ) → l.from ≤ j → j < l.k → binds_now l.self j ≡ false;
}

abbrev pub decreases-loop-k : goal.decreases-loop-k
decreases-loop-k l = 128 - l.k
