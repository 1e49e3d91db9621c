use Rattle.std.proofs.Common.{rules}
use Rattle.order_certificate.proofs.Extending.{extends_on}
use Rattle.order_certificate.proofs.Parts.{onto_ok, line-pieces}
use Rattle.order_certificate.proofs.writing.push_line.Goals as goal

pub returns-clause-put : goal.returns-clause-put
returns-clause-put c =
    let kind = rw c.letter.ensures at c.in_ok-push.ensures.put in
    let size = rw c.count.ensures at c.in_ok-push_decimal-3.ensures.put in
    onto_ok _ (line-pieces c.args.access.now _ _ _ _ _ _ _ _ _ (search rules) c.in_ok-push_decimal.ensures.put c.in_ok-push_decimal-2.ensures.put kind c.in_ok-push_byte.ensures.put
    size c.in_ok-push_hex.ensures.put c.in_ok-push_byte-2.ensures.put) c.push_values.ensures.put

pub returns-in_err-push_hex-clause-kept : goal.returns-in_err-push_hex-clause-kept
returns-in_err-push_hex-clause-kept c =
    extends_on c.in_ok-push_decimal.ensures.kept (extends_on c.in_ok-push_decimal-2.ensures.kept (extends_on c.in_ok-push.ensures.kept (extends_on c.in_ok-push_byte.ensures.kept (extends_on c.in_ok-push_decimal-3.ensures.kept c.in_err-push_hex.ensures.kept))))

pub returns-in_err-push_byte-2-clause-kept : goal.returns-in_err-push_byte-2-clause-kept
returns-in_err-push_byte-2-clause-kept c =
    extends_on c.in_ok-push_decimal.ensures.kept (extends_on c.in_ok-push_decimal-2.ensures.kept (extends_on c.in_ok-push.ensures.kept (extends_on c.in_ok-push_byte.ensures.kept (extends_on c.in_ok-push_decimal-3.ensures.kept (extends_on c.in_ok-push_hex.ensures.kept c.in_err-push_byte-2.ensures.kept)))))

pub returns-clause-kept : goal.returns-clause-kept
returns-clause-kept c =
    extends_on c.in_ok-push_decimal.ensures.kept (extends_on c.in_ok-push_decimal-2.ensures.kept (extends_on c.in_ok-push.ensures.kept (extends_on c.in_ok-push_byte.ensures.kept (extends_on c.in_ok-push_decimal-3.ensures.kept (extends_on c.in_ok-push_hex.ensures.kept (extends_on c.in_ok-push_byte-2.ensures.kept c.push_values.ensures.kept))))))
