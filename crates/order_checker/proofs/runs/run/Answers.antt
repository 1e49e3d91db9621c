-- The fault of a step, or of a line.
use Rattle.std.proofs.Common.{◌≡◌, length, inr, sym, ◌∙◌, arith}
use Rattle.std.proofs.lemmas.Result.{err_from_is_err_and}
use Rattle.order_checker.proofs.Unmade.{run_fault_step, run_fault_lines}
use Rattle.order_checker.proofs.runs.run.Goals as goal

pub returns-in_err-program-clause-fault : goal.returns-in_err-program-clause-fault
returns-in_err-program-clause-fault c =
    let p = err_from_is_err_and c.from_residual.result c.from_residual.ensures.1 in
    rw (p.1, p.2) (run_fault_step c.args.lines.now c.args.p.0 c.args.image.now c.args.processors c.args.steps c.in_err-program.field-0.0 c.in_err-program.ensures.fault)

pub returns-in-None-clause-none : goal.returns-in-None-clause-none
returns-in-None-clause-none c =
    let count : length c.in_ok-program.program.places.items ≡ c.len.result = omega arith in
    run_fault_lines c.args.image.now c.args.processors c.args.lines.now c.args.p.0 c.args.steps c.len.result c.in_ok-program.program.places.items c.in_ok-program.program.fences.items c.in_ok-program.ensures.ran count ∙ sym c.in-None.ensures

pub returns-in-Some-clause-fault : goal.returns-in-Some-clause-fault
returns-in-Some-clause-fault c =
    let count : length c.in_ok-program.program.places.items ≡ c.len.result = omega arith in
    inr (run_fault_lines c.args.image.now c.args.processors c.args.lines.now c.args.p.0 c.args.steps c.len.result c.in_ok-program.program.places.items c.in_ok-program.program.fences.items c.in_ok-program.ensures.ran count ∙ sym c.in-Some.ensures)
