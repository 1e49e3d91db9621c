use Rattle.cache_levels.specs.Levels.{LevelsView}
use Rattle.cache_levels.proofs.Standing.{AreSound-without, AreSound-without_victim}
use Rattle.cache_levels.proofs.levels.Levels.room.Goals as goal
use Rattle.cache_levels.proofs.levels.Levels.room.Goals.{in-Some, in_default}

pub invariant_of-self-2 : goal.invariant_of-self-2
invariant_of-self-2 c =
    let s = c.self.inside in
    let old : LevelsView = record { first = s.first; second = s.second; copies = s.copies.items; line_bytes = s.line_bytes } in
    let e = c.in_ok-room.ensures in
    elim c.match-room.branch [
      | in-Some w ↦ rw w.self-inside-is (AreSound-without_victim old c.args.line.0 c.in_ok-room.room w.in-Some.victim w.drop_line.new.self c.reserve_way.new.self c.self.invariant w.in-Some.is w.drop_line.ensures.sound w.drop_line.ensures.looks e.sound e.reserved e.told e.looks)
      | in_default w ↦ rw w.self-inside-is (AreSound-without old c.args.line.0 c.in_ok-room.room c.reserve_way.new.self c.self.invariant w.in_default.is e.sound e.reserved e.told e.looks)
    ]

pub returns-clause-sound : goal.returns-clause-sound
returns-clause-sound c =
    let s = c.self.inside in
    let old : LevelsView = record { first = s.first; second = s.second; copies = s.copies.items; line_bytes = s.line_bytes } in
    let e = c.in_ok-room.ensures in
    elim c.match-room.branch [
      | in-Some w ↦ rw w.self-inside-is (AreSound-without_victim old c.args.line.0 c.in_ok-room.room w.in-Some.victim w.drop_line.new.self c.reserve_way.new.self c.self.invariant w.in-Some.is w.drop_line.ensures.sound w.drop_line.ensures.looks e.sound e.reserved e.told e.looks)
      | in_default w ↦ rw w.self-inside-is (AreSound-without old c.args.line.0 c.in_ok-room.room c.reserve_way.new.self c.self.invariant w.in_default.is e.sound e.reserved e.told e.looks)
    ]
