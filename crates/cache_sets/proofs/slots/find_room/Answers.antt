use Rattle.std.proofs.Common.{◌≡◌, Bool, true, cond, Option, Some, ℕ, ◌+◌, drop, is_none, slice_index_or, arith, sym, ap, ◌∙◌}
use Rattle.std.proofs.lemmas.Bool.{and_from}
use Rattle.std.proofs.lemmas.List.{at_drop_more, at_drop_all}
use Rattle.cache_sets.specs.Layout.{mark_at}
use Rattle.cache_sets.proofs.Rooms.{bare, free, room_after, room_after_none}
use Rattle.cache_sets.proofs.slots.find_room.Goals as goal

pub returns-then-is_bare-2 : goal.returns-then-is_bare-2
returns-then-is_bare-2 c =
    let lines = c.args.lines.now.items in
    let reserved = c.args.reserved.now.items in
    let slots = c.args.slots.now in
    let i = c.loop-slot.slot-index in
    let slot = slice_index_or slots i 0 in
    let unreserved : is_none (mark_at reserved slot) ≡ true = cc in
    let empty : is_none (mark_at lines slot) ≡ true = cc in
    let taken = and_from (is_none (mark_at lines slot)) (is_none (mark_at reserved slot)) empty unreserved in
    let rest : Option ℕ = room_after (free lines reserved) (bare reserved) (cond (bare reserved slot) (Some slot) c.loop-slot.room) (drop (i + 1) slots) in
    let step = at_drop_more (room_after (free lines reserved) (bare reserved) c.loop-slot.room) slots i 0 (omega arith) in
    sym (ap (λ (b : Bool). cond b (Some slot) rest) taken) ∙ (sym step ∙ (c.loop-slot.invariant ∙ room_after_none (free lines reserved) (bare reserved) slots))

pub returns : goal.returns
returns c =
    let lines = c.args.lines.now.items in
    let reserved = c.args.reserved.now.items in
    let slots = c.args.slots.now in
    let done = at_drop_all (room_after (free lines reserved) (bare reserved) c.loop-slot.room) slots c.loop-slot.slot-index (omega arith) in
    sym done ∙ (c.loop-slot.invariant ∙ room_after_none (free lines reserved) (bare reserved) slots)
