use Rattle.std.proofs.Common.{◌≡◌, ◌++◌, ap, sym, ◌∙◌, arith}
use Rattle.rsim_top.specs.Machine.{shared_view}
use Rattle.rsim_top.specs.ReportText.{output_text}
use Rattle.rsim_top.proofs.Texts.{IsOf-map, output_of, outputs_from, outputs_put, put_more}
use Rattle.rsim_top.proofs.report_text.push_outputs.Goals as goal

pub loop-p-preserved : goal.loop-p-preserved
loop-p-preserved c =
    let v = shared_view c.args.machine.now in
    let p = c.loop-p.p in
    let old = c.loop-p.text.items in
    let new = c.push_output.new.text.items in
    put_more output_of outputs_from outputs_put v.cores p old new _ (omega arith)
    (IsOf-map v.cores p (λ d. d.output ≡ c.output.result.now) (λ d. new ≡ old ++ output_of p d)
    (λ d is. c.in_ok-push_output.ensures ∙ ap (λ xs. old ++ output_text p xs) (sym is)) (omega arith) c.output.ensures) c.loop-p.invariant
