use Rattle.order_certificate.proofs.Once.{read_once}
use Rattle.order_certificate.proofs.Wholes.{same_text, front_once}
use Rattle.order_certificate.proofs.laws.texts_are_read_once.Goals as goal

pub returns-clause-texts : goal.returns-clause-texts
returns-clause-texts c = same_text

pub returns-clause-fronts : goal.returns-clause-fronts
returns-clause-fronts c = front_once

pub returns-clause-once : goal.returns-clause-once
returns-clause-once c = read_once
