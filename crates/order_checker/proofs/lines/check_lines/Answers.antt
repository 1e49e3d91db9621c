use Rattle.std.proofs.Common.{length, ap, arith}
use Rattle.std.proofs.lemmas.Result.{err_from_is_err_and}
use Rattle.order_certificate.specs.Certificate.{CertificateView}
use Rattle.order_checker.specs.Faults.{line_fault}
use Rattle.order_checker.proofs.Outcomes.{IsFault-first}
use Rattle.order_checker.proofs.lines.check_lines.Goals as goal

pub returns-in_err-check_line-clause-fault : goal.returns-in_err-check_line-clause-fault
returns-in_err-check_line-clause-fault c =
    let same = ap length (ap (λ (order : CertificateView). order.lines) c.order.view_is) in
    let p = err_from_is_err_and c.from_residual.result c.from_residual.ensures.1 in
    rw (p.1, p.2) (IsFault-first (line_fault c.args.image.now c.args.order.now) c.loop-place.place (length c.args.order.now.lines) c.in_err-check_line.field-0.0 c.in_err-check_line.ensures.fault c.loop-place.invariant.0 (omega (arith, same)))
