-- No slot so far was marked with the line.
use Rattle.std.proofs.Common.{◌≡◌, find, drop}
use Rattle.cache_sets.specs.Ways.{names}
use Rattle.cache_sets.specs.Layout.{mark_at}
use Rattle.cache_sets.proofs.slots.find_slot.Given as goal

abbrev pub invariant-loop-slot : goal.invariant-loop-slot
invariant-loop-slot l =
    find (λ slot. names l.line.0 (mark_at l.marks.items slot)) (drop l.slot-index l.slots) ≡ find (λ slot. names l.line.0 (mark_at l.marks.items slot)) l.slots
