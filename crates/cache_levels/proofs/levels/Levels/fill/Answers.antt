use Rattle.cache_levels.specs.declared.levels.LineCopy.{LineCopy}
use Rattle.cache_levels.specs.Levels.{LevelsView}
use Rattle.cache_levels.proofs.Standing.{AreSound-filled}
use Rattle.cache_levels.proofs.levels.Levels.fill.Goals as goal

pub invariant_of-self : goal.invariant_of-self
invariant_of-self c =
    let s = c.self.inside in
    let old : LevelsView = record { first = s.first; second = s.second; copies = s.copies.items; line_bytes = s.line_bytes } in
    let copy : LineCopy = record { owned = c.args.owned; bytes = c.args.bytes.now } in
    AreSound-filled old c.args.line.0 c.in-Some.slot copy c.bring.new.cache c.fill.new.self c.self.invariant c.told-bytes c.bring.ensures.sound c.bring.ensures.unreserved c.bring.ensures.others c.fill.ensures.sound c.fill.ensures.filled c.fill.ensures.looks

pub returns-in-Some-clause-sound : goal.returns-in-Some-clause-sound
returns-in-Some-clause-sound c =
    let s = c.self.inside in
    let old : LevelsView = record { first = s.first; second = s.second; copies = s.copies.items; line_bytes = s.line_bytes } in
    let copy : LineCopy = record { owned = c.args.owned; bytes = c.args.bytes.now } in
    AreSound-filled old c.args.line.0 c.in-Some.slot copy c.bring.new.cache c.fill.new.self c.self.invariant c.told-bytes c.bring.ensures.sound c.bring.ensures.unreserved c.bring.ensures.others c.fill.ensures.sound c.fill.ensures.filled c.fill.ensures.looks
