use Rattle.std.proofs.Common.{◌≡◌, ◌++◌, drop}
use Rattle.rsim_top.specs.Machine.{shared_view}
use Rattle.rsim_top.proofs.Texts.{lines_from}
use Rattle.rsim_top.proofs.report_text.push_processors.Given as goal

abbrev pub invariant-loop-p : goal.invariant-loop-p
invariant-loop-p l = l.text.items ++ lines_from l.p (drop l.p (shared_view l.machine).cores) ≡ l.fn.text.items ++ lines_from 0 (shared_view l.machine).cores
