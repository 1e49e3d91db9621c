-- What is left to mark gives the same as all did at first.
use Rattle.std.proofs.Common.{◌≡◌, drop}
use Rattle.std.specs.VecDeque.{deque_len, deque_capacity}
use Rattle.order_log.proofs.Marks.{all_marked}
use Rattle.order_log.proofs.slots.mark_all.Given as goal

abbrev pub invariant-loop-entry : goal.invariant-loop-entry
invariant-loop-entry l = record {
  marked : all_marked l.first l.node.0 l.span l.state (drop l.entry-index l.entries) l.slots.items ≡ all_marked l.first l.node.0 l.span l.state l.entries l.initial.slots.items;
  len : deque_len l.slots ≡ deque_len l.initial.slots;
  capacity : deque_capacity l.slots ≡ deque_capacity l.initial.slots;
}
