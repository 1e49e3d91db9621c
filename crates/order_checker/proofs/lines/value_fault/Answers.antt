use Rattle.std.proofs.Common.{arith}
use Rattle.std.proofs.lemmas.Option.{slice_get_within}
use Rattle.order_checker.proofs.AtLines.{IsAt-from}
use Rattle.order_checker.proofs.lines.value_fault.Goals as goal

pub wrong_value-requires-clause-aligned : goal.wrong_value-requires-clause-aligned
wrong_value-requires-clause-aligned c = (IsAt-from c.args.image.now c.args.order.now c.args.place c.args.line.now c.args.walk.now c.requires.at).aligned

pub wrong_value-requires-clause-few : goal.wrong_value-requires-clause-few
wrong_value-requires-clause-few c =
    let within = slice_get_within c.args.order.now.lines c.args.place c.args.line.now c.requires.at.stands in
    let few = c.requires.at.certificate.few_lines in
    omega (arith, within, few)
