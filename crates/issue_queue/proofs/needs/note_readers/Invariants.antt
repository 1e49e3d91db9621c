use Rattle.std.proofs.Common.{◌≡◌, ℕ, ◌==◌, ◌&&◌, ◌||◌, length, take}
use Rattle.ring_set.specs.Sets.{has}
use Rattle.issue_queue.specs.Needs.{needs_it, readers_at}
use Rattle.issue_queue.proofs.needs.note_readers.Given as goal

abbrev pub invariant-loop-need : goal.invariant-loop-need
invariant-loop-need l = record {
  readers : (r j : ℕ) → has (readers_at l.readers.items r) j ≡ ((j == l.place && needs_it r (take l.need-index l.needs)) || has (readers_at l.initial.readers.items r) j);
  len : length l.readers.items ≡ length l.initial.readers.items;
}
