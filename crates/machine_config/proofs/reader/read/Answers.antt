use Rattle.std.proofs.Common.{◌≡◌, ◌∙◌, [], Some, sym, ap}
use Rattle.std.proofs.lemmas.Result.{err_from_is_err_and}
use Rattle.machine_config.specs.Text.{lines}
use Rattle.machine_config.specs.declared.fault.ConfigFault.TheVariants.{Memory}
use Rattle.machine_config.proofs.Whole.{Reads-fault, first_fault-text, first_fault-lines, first_fault-shape, shape_fault-some, shape_fault-none, IsNamedBy-numbers, processors-given, mesh_width-given, IsAllowed-numbers, mesh_width-positive, lines_fault-memory}
use Rattle.machine_config.proofs.reader.read.Goals as goal

pub returns-in-Some-clause-reads : goal.returns-in-Some-clause-reads
returns-in-Some-clause-reads c = first_fault-text c.args.text.now c.in-Some.at (sym c.place_of_no_text.ensures ∙ c.in-Some.is)

pub returns-in_err-given-clause-reads : goal.returns-in_err-given-clause-reads
returns-in_err-given-clause-reads c =
    let p = err_from_is_err_and c.from_residual.result c.from_residual.ensures.1 in
    rw (p.1, p.2) (Reads-fault c.args.text.now _ (first_fault-lines c.args.text.now _ (sym c.place_of_no_text.ensures ∙ c.in_default.is) c.in_err-given.ensures))

pub returns-in_err-given-clause-memory : goal.returns-in_err-given-clause-memory
returns-in_err-given-clause-memory c = λ e.
    let p = err_from_is_err_and c.from_residual.result c.from_residual.ensures.1 in
    let same : c.in_err-given.field-0.0 ≡ Memory = cc (p.1, p.2, e) in
    lines_fault-memory [] (lines c.args.text.now) (c.in_err-given.ensures ∙ ap (λ fault. Some fault) same)

pub nonzero_rem-config : goal.nonzero_rem-config
nonzero_rem-config c = mesh_width-positive _ _ c.from_numbers-config.ensures c.in_ok-given.ensures.1.allowed

pub returns-then-config-ne0-clause-reads : goal.returns-then-config-ne0-clause-reads
returns-then-config-ne0-clause-reads c =
    let read = c.in_ok-given.ensures.1 in
    first_fault-shape c.args.text.now (sym c.place_of_no_text.ensures ∙ c.in_default.is) c.in_ok-given.ensures.0
    ∙ shape_fault-some c.args.text.now c.from_numbers-config.result
    (processors-given c.in_ok-given.given.numbers c.from_numbers-config.result c.args.text.now c.from_numbers-config.ensures read.numbers) (mesh_width-given c.in_ok-given.given.numbers c.from_numbers-config.result c.args.text.now c.from_numbers-config.ensures read.numbers) c.if-config-ne0.true

pub returns-clause-reads : goal.returns-clause-reads
returns-clause-reads c =
    let read = c.in_ok-given.ensures.1 in (
      first_fault-shape c.args.text.now (sym c.place_of_no_text.ensures ∙ c.in_default.is) c.in_ok-given.ensures.0
          ∙ shape_fault-none c.args.text.now c.from_numbers-config.result
          (processors-given c.in_ok-given.given.numbers c.from_numbers-config.result c.args.text.now c.from_numbers-config.ensures read.numbers) (mesh_width-given c.in_ok-given.given.numbers c.from_numbers-config.result c.args.text.now c.from_numbers-config.ensures read.numbers) c.if-config-ne0.false,
      IsNamedBy-numbers _ _ c.args.text.now c.from_numbers-config.ensures read.numbers,
    )

pub returns-clause-allowed : goal.returns-clause-allowed
returns-clause-allowed c =
    IsAllowed-numbers _ _ c.from_numbers-config.ensures c.in_ok-given.ensures.1.allowed c.if-config-ne0.false
