use Rattle.order_certificate.proofs.Parts.{onto_ok, heading-pieces}
use Rattle.order_certificate.proofs.writing.push_heading.Goals as goal

pub returns-clause-put : goal.returns-clause-put
returns-clause-put c =
    let named = rw c.name.ensures at c.in_ok-push-2.ensures.put in
    onto_ok _ (heading-pieces c.args.model c.args.processors _ _ _ _ _ c.in_ok-push.ensures.put named c.in_ok-push-3.ensures.put) c.push_decimal.ensures.put
