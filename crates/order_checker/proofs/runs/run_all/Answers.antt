-- One processor more, or the first with a fault.
use Rattle.std.proofs.Common.{◌≡◌, ℕ, ◌+◌, ◌++◌, ◌∷◌, [], None, rules, ap, sym, subst, add-one, arith}
use Rattle.std.proofs.lemmas.Result.{err_from_is_err_and}
use Rattle.order_certificate.specs.Certificate.{CertificateView}
use Rattle.order_checker.specs.Faults.{run_fault}
use Rattle.order_checker.specs.Firsts.{first}
use Rattle.order_checker.specs.Walking.{AreWalks}
use Rattle.order_checker.proofs.FirstOnes.{first_none-more}
use Rattle.order_checker.proofs.LineSteps.{AreWalks-more}
use Rattle.order_checker.proofs.Outcomes.{IsFault-first}
use Rattle.order_checker.proofs.runs.run_all.Goals as goal

pub returns-in_err-walk-clause-fault : goal.returns-in_err-walk-clause-fault
returns-in_err-walk-clause-fault c =
    let same = ap (λ (order : CertificateView). order.processors) c.order.view_is in
    let p = err_from_is_err_and c.from_residual.result c.from_residual.ensures.1 in
    rw (p.1, p.2) (IsFault-first (run_fault c.args.image.now c.args.order.now) c.loop-p.p c.args.order.now.processors c.in_err-walk.field-0.0 c.in_err-walk.ensures.fault c.loop-p.invariant.0 (omega (arith, same)))

pub loop-p-preserved : goal.loop-p-preserved
loop-p-preserved c =
    let image = c.args.image.now in
    let order = c.args.order.now in
    let p = c.loop-p.p in
    let items : c.push.new.self.items ≡ c.loop-p.walks.items ++ c.in_ok-walk.walk ∷ [] = search rules in (
      subst (λ (k : ℕ). first (run_fault image order) k ≡ None) (sym (add-one p)) (first_none-more (run_fault image order) p c.loop-p.invariant.0 c.in_ok-walk.ensures.walk.fine),
      subst (AreWalks image order (p + 1) 0) (sym items) (AreWalks-more image order p c.loop-p.walks.items c.in_ok-walk.walk c.loop-p.invariant.1 c.in_ok-walk.ensures.walk),
    )
