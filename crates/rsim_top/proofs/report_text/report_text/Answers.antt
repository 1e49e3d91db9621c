use Rattle.std.proofs.Common.{◌++◌, ap, ◌∙◌}
use Rattle.rsim_top.specs.Machine.{shared_view}
use Rattle.rsim_top.specs.ReportText.{no_counts, report_foot, report_head}
use Rattle.rsim_top.proofs.Texts.{report_put}
use Rattle.rsim_top.proofs.report_text.report_text.Goals as goal

pub returns : goal.returns
returns c = report_put (shared_view c.args.machine.now) c.new-text.result.items c.push_head.new.text.items c.push_processors.new.text.items c.push_outputs.new.text.items c.push_foot.new.text.items
    c.new-text.ensures.items (c.in_ok-push_head.ensures ∙ ap (λ n. c.new-text.result.items ++ report_head n) c.cycles.ensures) c.in_ok-push_processors.ensures c.in_ok-push_outputs.ensures
    (c.in_ok-push_foot.ensures ∙ ap (λ n. c.push_outputs.new.text.items ++ report_foot n no_counts) c.unperformed.ensures)
