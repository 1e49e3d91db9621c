use Rattle.std.proofs.Common.{IsTrue, subst, sym}
use Rattle.cache_levels.specs.Levels.{LevelsView, held}
use Rattle.cache_levels.proofs.Standing.{AreSound-brought}
use Rattle.cache_levels.proofs.levels.Levels.bring_near.Goals as goal

pub invariant_of-self : goal.invariant_of-self
invariant_of-self c =
    let s = c.self.inside in
    let old : LevelsView = record { first = s.first; second = s.second; copies = s.copies.items; line_bytes = s.line_bytes } in
    let there = subst (λ (v : LevelsView). IsTrue (held c.args.line.0 v)) (sym c.self.view_is) c.requires in
    AreSound-brought old c.args.line.0 c.bring.new.cache c.touch.new.cache c.self.invariant there c.bring.ensures.sound c.bring.ensures.unreserved c.bring.ensures.others c.touch.ensures.sound c.touch.ensures.touched c.touch.ensures.looks

pub returns-clause-sound : goal.returns-clause-sound
returns-clause-sound c =
    let s = c.self.inside in
    let old : LevelsView = record { first = s.first; second = s.second; copies = s.copies.items; line_bytes = s.line_bytes } in
    let there = subst (λ (v : LevelsView). IsTrue (held c.args.line.0 v)) (sym c.self.view_is) c.requires in
    AreSound-brought old c.args.line.0 c.bring.new.cache c.touch.new.cache c.self.invariant there c.bring.ensures.sound c.bring.ensures.unreserved c.bring.ensures.others c.touch.ensures.sound c.touch.ensures.touched c.touch.ensures.looks
