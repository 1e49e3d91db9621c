-- The walk before the line, at it, and behind it.
use Rattle.order_checker.proofs.AtLines.{IsAt-from}
use Rattle.order_checker.proofs.LineSteps.{IsAtLine-reached, IsWalk-passed, left_before}
use Rattle.order_checker.proofs.lines.walk_line.Goals as goal

pub reach-requires : goal.reach-requires
reach-requires c = (c.requires.certificate.in_text c.args.place c.args.line.now c.requires.stands).index

pub judge_line-requires-clause-at : goal.judge_line-requires-clause-at
judge_line-requires-clause-at c =
    IsAtLine-reached c.args.image.now c.args.order.now c.args.place c.args.line.now c.args.walk.now c.reach.new.self c.requires.certificate c.requires.strays c.requires.stands c.requires.walk c.reach.ensures.same c.in_ok-reach.ensures.walked c.in_ok-reach.ensures.reached

pub store-requires-clause-aligned : goal.store-requires-clause-aligned
store-requires-clause-aligned c =
    (IsAt-from c.args.image.now c.args.order.now c.args.place c.args.line.now c.reach.new.self
    (IsAtLine-reached c.args.image.now c.args.order.now c.args.place c.args.line.now c.args.walk.now c.reach.new.self c.requires.certificate c.requires.strays c.requires.stands c.requires.walk c.reach.ensures.same c.in_ok-reach.ensures.walked c.in_ok-reach.ensures.reached)).aligned

pub pass-requires-clause-left : goal.pass-requires-clause-left
pass-requires-clause-left c =
    left_before c.args.image.now c.args.order.now c.args.place c.args.line.now c.reach.new.self
    (IsAtLine-reached c.args.image.now c.args.order.now c.args.place c.args.line.now c.args.walk.now c.reach.new.self c.requires.certificate c.requires.strays c.requires.stands c.requires.walk c.reach.ensures.same c.in_ok-reach.ensures.walked c.in_ok-reach.ensures.reached)

pub returns-clause-walked : goal.returns-clause-walked
returns-clause-walked c =
    IsWalk-passed c.args.image.now c.args.order.now c.args.place c.args.line.now c.reach.new.self c.pass.new.self
    (IsAtLine-reached c.args.image.now c.args.order.now c.args.place c.args.line.now c.args.walk.now c.reach.new.self c.requires.certificate c.requires.strays c.requires.stands c.requires.walk c.reach.ensures.same c.in_ok-reach.ensures.walked c.in_ok-reach.ensures.reached)
    c.pass.ensures.same c.pass.ensures.next c.pass.ensures.left
