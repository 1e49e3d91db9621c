-- A line more.
use Rattle.std.proofs.lemmas.Result.{err_from_is_err_and}
use Rattle.order_checker.proofs.TableLines.{fault_found, tables_more}
use Rattle.order_checker.proofs.places.find_places.Goals as goal

pub returns-in_err-note_line-clause-fault : goal.returns-in_err-note_line-clause-fault
returns-in_err-note_line-clause-fault c =
    let p = err_from_is_err_and c.from_residual-in_err-note_line.result c.from_residual-in_err-note_line.ensures.1 in
    rw (p.1, p.2) (fault_found c.args.lines.now c.args.processors c.loop-place.place _ c.loop-place.tables.items c.in_err-note_line.field-0.0 c.loop-place-test.true c.loop-place.invariant.none c.loop-place.invariant.tables c.in_err-note_line.ensures.fault)

pub loop-place-preserved : goal.loop-place-preserved
loop-place-preserved c =
    let more = tables_more c.args.lines.now c.args.processors c.loop-place.place _ c.loop-place.tables.items c.note_line.new.tables.items c.loop-place-test.true c.loop-place.invariant.none c.loop-place.invariant.tables c.in_ok-note_line.ensures.noted in
    record { none = more.0; tables = more.1 }
