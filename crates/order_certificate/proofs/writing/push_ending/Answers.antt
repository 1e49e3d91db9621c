use Rattle.std.proofs.Common.{rules}
use Rattle.order_certificate.proofs.Parts.{onto_ok, ending-pieces}
use Rattle.order_certificate.proofs.writing.push_ending.Goals as goal

pub returns-clause-put : goal.returns-clause-put
returns-clause-put c =
    onto_ok _ (ending-pieces c.args.counts.now.items c.loop-count.count-index _ _ _ (search rules) c.loop-count.invariant) c.push_byte.ensures.put
