-- The slots that are left, and the last that was not reserved so far, give what all slots give.
use Rattle.std.proofs.Common.{◌≡◌, None, drop}
use Rattle.cache_sets.proofs.Rooms.{room_after, free, bare}
use Rattle.cache_sets.proofs.slots.find_room.Given as goal

abbrev pub invariant-loop-slot : goal.invariant-loop-slot
invariant-loop-slot l =
    room_after (free l.lines.items l.reserved.items) (bare l.reserved.items) l.room (drop l.slot-index l.slots)
    ≡ room_after (free l.lines.items l.reserved.items) (bare l.reserved.items) None l.slots
