-- A line more.
use Rattle.order_checker.proofs.Unmade.{unmade_found, unmade_more}
use Rattle.order_checker.proofs.runs.first_unmade.Goals as goal

pub returns-in-Some : goal.returns-in-Some
returns-in-Some c = unmade_found c.args.lines.now c.args.p.0 c.args.count c.loop-place.place _ c.in-Some.fault c.loop-place-test.true c.loop-place.invariant c.in-Some.ensures

pub loop-place-preserved : goal.loop-place-preserved
loop-place-preserved c = unmade_more c.args.lines.now c.args.p.0 c.args.count c.loop-place.place _ c.loop-place-test.true c.loop-place.invariant c.in-None.ensures
