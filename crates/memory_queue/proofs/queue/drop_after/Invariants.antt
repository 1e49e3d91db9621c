-- What went would not have stayed anyway.
use Rattle.std.proofs.Common.{◌≡◌, filter, nat_le, length, take}
use Rattle.memory_queue.specs.Queues.{AreRising}
use Rattle.memory_queue.specs.declared.queued.Queued.{Queued}
use Rattle.memory_queue.proofs.queue.drop_after.Given as goal

abbrev pub invariant-loop-accesses : goal.invariant-loop-accesses
invariant-loop-accesses l = record {
  rising : AreRising l.accesses.items;
  left : filter (λ (x : Queued). nat_le x.seq l.seq) l.accesses.items ≡ filter (λ (x : Queued). nat_le x.seq l.seq) l.initial.accesses.items;
  oldest : l.accesses.items ≡ take (length l.accesses.items) l.initial.accesses.items;
  places : l.accesses.capacity ≡ l.initial.accesses.capacity;
}

abbrev pub decreases-loop-accesses : goal.decreases-loop-accesses
decreases-loop-accesses l = length l.accesses.items
