-- The faults of the parts, in their order.
use Rattle.std.proofs.Common.{sym, ap, subst, ◌∙◌}
use Rattle.std.proofs.lemmas.Result.{err_from_is_err_and}
use Rattle.order_certificate.specs.Certificate.{CertificateView}
use Rattle.order_checker.specs.Outcomes.{IsFault}
use Rattle.order_checker.proofs.NoTexts.{plain_where_fault}
use Rattle.order_checker.proofs.Verdicts.{fault_of_strays, fault_of_runs, fault_of_lines, no_fault, strays_same}
use Rattle.order_checker.proofs.checking.check_order.Goals as goal

pub returns-in_err-tables-clause-fault : goal.returns-in_err-tables-clause-fault
returns-in_err-tables-clause-fault c =
    let same = strays_same c.args.order.now c.order.inside.processors c.deref.result.now (ap (λ (o : CertificateView). o.processors) c.order.view_is) (c.deref.ensures.value ∙ ap (λ (o : CertificateView). o.lines) c.order.view_is) in
    let p = err_from_is_err_and c.from_residual.result c.from_residual.ensures.1 in
    rw (p.1, p.2) (fault_of_strays c.args.image.now c.args.order.now c.in_err-tables.field-0.0 (subst (λ o. IsFault o c.in_err-tables.field-0.0) same c.in_err-tables.ensures.fault))

pub returns-in_err-walks-clause-fault : goal.returns-in_err-walks-clause-fault
returns-in_err-walks-clause-fault c =
    let same = strays_same c.args.order.now c.order.inside.processors c.deref.result.now (ap (λ (o : CertificateView). o.processors) c.order.view_is) (c.deref.ensures.value ∙ ap (λ (o : CertificateView). o.lines) c.order.view_is) in
    let p = err_from_is_err_and c.from_residual-in_err-walks.result c.from_residual-in_err-walks.ensures.1 in
    rw (p.1, p.2) (fault_of_runs c.args.image.now c.args.order.now c.in_err-walks.field-0.0 (sym same ∙ c.in_ok-tables.ensures.none) c.in_err-walks.ensures.fault)

pub returns-clause-none : goal.returns-clause-none
returns-clause-none c =
    let same = strays_same c.args.order.now c.order.inside.processors c.deref.result.now (ap (λ (o : CertificateView). o.processors) c.order.view_is) (c.deref.ensures.value ∙ ap (λ (o : CertificateView). o.lines) c.order.view_is) in
    no_fault c.args.image.now c.args.order.now (sym same ∙ c.in_ok-tables.ensures.none) c.in_ok-walks.ensures.none c.in_ok-check_lines.ensures.none

pub returns-in_err-check_lines-clause-fault : goal.returns-in_err-check_lines-clause-fault
returns-in_err-check_lines-clause-fault c =
    let same = strays_same c.args.order.now c.order.inside.processors c.deref.result.now (ap (λ (o : CertificateView). o.processors) c.order.view_is) (c.deref.ensures.value ∙ ap (λ (o : CertificateView). o.lines) c.order.view_is) in
    let p = err_from_is_err_and c.from_residual-in_err-check_lines.result c.from_residual-in_err-check_lines.ensures.1 in
    rw (p.1, p.2) (fault_of_lines c.args.image.now c.args.order.now c.in_err-check_lines.field-0.0 (sym same ∙ c.in_ok-tables.ensures.none) c.in_ok-walks.ensures.none c.in_err-check_lines.ensures.fault)

pub returns-in_err-tables-clause-plain : goal.returns-in_err-tables-clause-plain
returns-in_err-tables-clause-plain c = plain_where_fault c.args.image.now c.args.order.now c.from_residual.result (returns-in_err-tables-clause-fault c)

pub returns-in_err-walks-clause-plain : goal.returns-in_err-walks-clause-plain
returns-in_err-walks-clause-plain c = plain_where_fault c.args.image.now c.args.order.now c.from_residual-in_err-walks.result (returns-in_err-walks-clause-fault c)

pub returns-in_err-check_lines-clause-plain : goal.returns-in_err-check_lines-clause-plain
returns-in_err-check_lines-clause-plain c = plain_where_fault c.args.image.now c.args.order.now c.from_residual-in_err-check_lines.result (returns-in_err-check_lines-clause-fault c)
