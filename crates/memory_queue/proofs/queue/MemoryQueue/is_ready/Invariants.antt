use Rattle.std.proofs.Common.{◌≡◌, ℕ, ◌-◌, ◌<◌, ◌≤◌, false, not, ◌&&◌}
use Rattle.memory_queue.specs.Queues.{is_needed}
use Rattle.memory_queue.specs.Rows.{passes_at}
use Rattle.memory_queue.proofs.queue.MemoryQueue.is_ready.Given as goal

abbrev pub invariant-loop-place : goal.invariant-loop-place
invariant-loop-place l = record {
  small : l.place ≤ 128;
  none : (j : ℕ) → 0 ≤ j → j < l.place → passes_at (λ x. not x.placed && is_needed l.self.model x l.a l.access) l.self.accesses j ≡ false;
}

abbrev pub decreases-loop-place : goal.decreases-loop-place
decreases-loop-place l = 128 - l.place
