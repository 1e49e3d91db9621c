use Rattle.std.proofs.Common.{◌≡◌, ℕ, ◌<◌, ◌≤◌, false}
use Rattle.memory_queue.specs.Queues.{is_met_at}
use Rattle.memory_queue.proofs.queue.MemoryQueue.met.Given as goal

abbrev pub invariant-loop-end : goal.invariant-loop-end
invariant-loop-end l = record {
  within : l.end ≤ l.k;
  none : (j : ℕ) → l.end ≤ j → j < l.k → is_met_at l.a l.n l.self.accesses j ≡ false;
}

abbrev pub decreases-loop-end : goal.decreases-loop-end
decreases-loop-end l = l.end
