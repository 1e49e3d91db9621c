use Rattle.std.proofs.Common.{◌≡◌, ◌++◌, drop}
use Rattle.rsim_top.specs.Machine.{counts_of, shared_view}
use Rattle.rsim_top.proofs.Texts.{counts_from}
use Rattle.rsim_top.proofs.order_file.retired_counts.Given as goal

abbrev pub invariant-loop-p : goal.invariant-loop-p
invariant-loop-p l = l.counts.items ++ counts_from l.p (drop l.p (shared_view l.machine).cores) ≡ counts_of (shared_view l.machine)
