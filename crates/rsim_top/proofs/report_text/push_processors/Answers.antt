use Rattle.std.proofs.Common.{◌≡◌, ◌++◌, ap, sym, ◌∙◌, arith}
use Rattle.sparc_meaning.specs.declared.arch.End.{End}
use Rattle.rsim_top.specs.Machine.{shared_view}
use Rattle.rsim_top.specs.ReportText.{processor_line}
use Rattle.rsim_top.proofs.Texts.{IsOf-both, line_of, lines_from, lines_put, put_more}
use Rattle.rsim_top.proofs.report_text.push_processors.Goals as goal

pub loop-p-preserved : goal.loop-p-preserved
loop-p-preserved c =
    let v = shared_view c.args.machine.now in
    let p = c.loop-p.p in
    let old = c.loop-p.text.items in
    let new = c.push_processor.new.text.items in
    put_more line_of lines_from lines_put v.cores p old new _ (omega arith)
    (IsOf-both v.cores p (λ d. d.retired ≡ c.retired-retired.result) (λ d. d.arch.end ≡ c.end-end.result) (λ d. new ≡ old ++ line_of p d)
    (λ d retired end. c.in_ok-push_processor.ensures ∙ ap (λ n. old ++ processor_line p n c.end-end.result) (sym retired) ∙ ap (λ (e : End). old ++ processor_line p d.retired e) (sym end))
    (omega arith) c.retired-retired.ensures c.end-end.ensures) c.loop-p.invariant
