-- Dropped slots stand for nothing.
use Rattle.std.proofs.Common.{◌≡◌, ◌≤◌}
use Rattle.std.specs.VecDeque.{deque_len, deque_capacity}
use Rattle.order_log.specs.Slots.{places_of, SameEntries}
use Rattle.order_log.proofs.slots.skip_dropped.Given as goal

abbrev pub invariant-loop-slots : goal.invariant-loop-slots
invariant-loop-slots l = record {
  places : places_of l.slots.items ≡ places_of l.initial.slots.items;
  entries : SameEntries l.initial.first l.initial.slots.items l.first l.slots.items;
  len : deque_len l.slots ≤ deque_len l.initial.slots;
  capacity : deque_capacity l.slots ≡ deque_capacity l.initial.slots;
}

abbrev pub decreases-loop-slots : goal.decreases-loop-slots
decreases-loop-slots l = deque_len l.slots
