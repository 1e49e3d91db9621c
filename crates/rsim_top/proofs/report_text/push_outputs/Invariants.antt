use Rattle.std.proofs.Common.{◌≡◌, ◌++◌, drop}
use Rattle.rsim_top.specs.Machine.{shared_view}
use Rattle.rsim_top.proofs.Texts.{outputs_from}
use Rattle.rsim_top.proofs.report_text.push_outputs.Given as goal

abbrev pub invariant-loop-p : goal.invariant-loop-p
invariant-loop-p l = l.text.items ++ outputs_from l.p (drop l.p (shared_view l.machine).cores) ≡ l.fn.text.items ++ outputs_from 0 (shared_view l.machine).cores
