use Rattle.std.proofs.Common.{◌≤◌, length, subst, sym, arith}
use Rattle.std.proofs.lemmas.List.{length-drop}
use Rattle.circular_buffer.specs.Buffer.{Buffer}
use Rattle.memory_queue.specs.Queues.{AreRising}
use Rattle.memory_queue.specs.Rows.{AreRows}
use Rattle.memory_queue.specs.declared.queued.Queued.{Queued}
use Rattle.rsim_base.specs.Limits.{max_in_flight}
use Rattle.memory_queue.proofs.Rising.{rising-drop}
use Rattle.memory_queue.proofs.queue.MemoryQueue.pop.Goals as goal

pub invariant_of-self-2 : goal.invariant_of-self-2
invariant_of-self-2 c =
    let xs = c.self.inside.accesses.items in
    subst (λ (b : Buffer Queued). AreRising b.items × (b.capacity ≤ max_in_flight) × (length b.items ≤ 128) × AreRows c.pop.new.self b.items) (sym c.in_ok-access.ensures.items)
    (rising-drop xs c.self.invariant.0, c.self.invariant.1, omega (arith, c.self.invariant.2, length-drop 1 xs), c.pop.ensures xs c.self.invariant.2 c.self.invariant.3)
