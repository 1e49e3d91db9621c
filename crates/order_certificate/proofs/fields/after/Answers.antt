use Rattle.order_certificate.proofs.Words.{after_from_cases}
use Rattle.order_certificate.proofs.fields.after.Goals as goal

pub returns : goal.returns
returns c = after_from_cases c.args.word.now c.args.text.now _ c.strip_prefix.ensures.cases
