use Rattle.std.proofs.Common.{sym, ap, ◌∙◌}
use Rattle.order_certificate.proofs.Decimals.{with_digits_more, with_digits_end}
use Rattle.order_certificate.proofs.fields.with_digits.Goals as goal

pub loop-longer-smaller : goal.loop-longer-smaller
loop-longer-smaller c = (with_digits_more _ _ _ _ _ (sym c.in-Some.ensures)).1

pub loop-longer-preserved : goal.loop-longer-preserved
loop-longer-preserved c = sym (with_digits_more _ _ _ _ _ (sym c.in-Some.ensures)).0 ∙ c.loop-longer.invariant

pub returns-clause-number : goal.returns-clause-number
returns-clause-number c = ap (λ x. x.0) (sym (with_digits_end _ _ _ (sym c.in_default.ensures)) ∙ c.loop-longer.invariant)

pub returns-clause-rest : goal.returns-clause-rest
returns-clause-rest c = ap (λ x. x.1) (sym (with_digits_end _ _ _ (sym c.in_default.ensures)) ∙ c.loop-longer.invariant)
