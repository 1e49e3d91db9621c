use Rattle.cache_levels.proofs.Copying.{fill_copies, change_copies, room_copies, others_stay}
use Rattle.cache_levels.proofs.laws.copies_follow.Goals as goal

pub returns-clause-fill : goal.returns-clause-fill
returns-clause-fill c = fill_copies c.lines_are_apart.ensures c.look_ups_follow.ensures.fill

pub returns-clause-change : goal.returns-clause-change
returns-clause-change c = change_copies c.lines_are_apart.ensures

pub returns-clause-room : goal.returns-clause-room
returns-clause-room c = room_copies c.look_ups_follow.ensures.reserve

pub returns-clause-others : goal.returns-clause-others
returns-clause-others c = others_stay c.lines_are_apart.ensures c.look_ups_follow.ensures.touch c.look_ups_follow.ensures.hold
