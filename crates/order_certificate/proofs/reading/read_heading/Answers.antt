use Rattle.std.proofs.Common.{sym, subst, Err}
use Rattle.order_certificate.specs.Reading.{IsRead}
use Rattle.order_certificate.proofs.Orders.{no_version, no_model, no_processors, has_heading}
use Rattle.order_certificate.proofs.reading.read_heading.Goals as goal

pub returns-in_default-clause-fault : goal.returns-in_default-clause-fault
returns-in_default-clause-fault c =
    subst (λ f. IsRead c.args.text.now (Err f)) (sym c.fault_at.ensures) (no_version c.args.text.now (sym c.in_default.ensures))

pub returns-in_default-model_at-clause-fault : goal.returns-in_default-model_at-clause-fault
returns-in_default-model_at-clause-fault c =
    subst (λ f. IsRead c.args.text.now (Err f)) (sym c.fault_at-in_default-model_at.ensures)
    (no_model c.args.text.now c.in-Some.behind_version.now (sym c.in-Some.ensures) (sym c.in_default-model_at.ensures))

pub returns-in_default-processors_at-clause-fault : goal.returns-in_default-processors_at-clause-fault
returns-in_default-processors_at-clause-fault c =
    subst (λ f. IsRead c.args.text.now (Err f)) (sym c.fault_at-in_default-processors_at.ensures)
    (no_processors c.args.text.now c.in-Some.behind_version.now (sym c.in-Some.ensures) c.in-Some-model_at.model c.in-Some-model_at.behind_model.now (sym c.in-Some-model_at.ensures) (sym c.in_default-processors_at.ensures.value))

pub returns-clause-heading : goal.returns-clause-heading
returns-clause-heading c =
    has_heading c.args.text.now c.in-Some.behind_version.now (sym c.in-Some.ensures) c.in-Some-model_at.model c.in-Some-model_at.behind_model.now (sym c.in-Some-model_at.ensures)
    c.in-Some-processors_at.processors c.in-Some-processors_at.rest.now (sym c.in-Some-processors_at.ensures.value)
