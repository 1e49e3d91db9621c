use Rattle.std.proofs.Common.{◌≤◌, length, arith, subst, sym}
use Rattle.circular_buffer.specs.Buffer.{Buffer}
use Rattle.memory_queue.specs.Queues.{AreRising}
use Rattle.memory_queue.specs.Rows.{AreRows}
use Rattle.memory_queue.specs.declared.queued.Queued.{Queued}
use Rattle.machine_config.specs.Sizes.{sizes_of}
use Rattle.rsim_base.specs.Limits.{max_in_flight}
use Rattle.memory_queue.proofs.queue.MemoryQueue.make.Goals as goal

pub invariant_of-result : goal.invariant_of-result
invariant_of-result c =
    subst (λ (b : Buffer Queued). AreRising b.items × (b.capacity ≤ max_in_flight) × (length b.items ≤ 128) × AreRows c.none.result b.items) (sym c.in-Ok.ensures)
    ((λ i k d below within. absurd (omega (arith, within))), (sizes_of c.args.config.now c.requires).active_list.1, omega arith, c.none.ensures)
