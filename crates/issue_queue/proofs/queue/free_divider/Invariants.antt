use Rattle.std.proofs.Common.{◌≡◌, ◌+◌, drop}
use Rattle.issue_queue.specs.Queues.{free_divider}
use Rattle.issue_queue.proofs.queue.free_divider.Given as goal

abbrev pub invariant-loop-divider : goal.invariant-loop-divider
invariant-loop-divider l =
    l.divider + free_divider l.tick (drop l.divider l.dividers.items) ≡ free_divider l.tick l.dividers.items
