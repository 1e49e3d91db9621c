-- The clauses of the check, by the laws.
use Rattle.order_checker.proofs.Verdicts.{verdict_once, accepted_fits, fitting_accepted}
use Rattle.order_checker.proofs.checking.check.Goals as goal

pub returns-clause-only : goal.returns-clause-only
returns-clause-only c = λ order is. verdict_once c.texts_are_read_once.ensures.once c.args.image.now c.args.text.now c.judge.result c.judge.ensures.verdict order is

pub returns-clause-fits : goal.returns-clause-fits
returns-clause-fits c = accepted_fits c.faultless_orders_fit.ensures.fits c.args.image.now c.args.text.now c.judge.result c.judge.ensures.whole

pub returns-clause-accepts : goal.returns-clause-accepts
returns-clause-accepts c = λ order runs is whole fit. fitting_accepted c.faultless_orders_fit.ensures.faultless c.args.image.now order runs c.judge.result is fit (c.judge.ensures.each order is whole)
