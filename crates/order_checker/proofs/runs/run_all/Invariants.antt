-- The processors so far have run without a fault.
use Rattle.std.proofs.Common.{◌≡◌, None}
use Rattle.order_checker.specs.Faults.{run_fault}
use Rattle.order_checker.specs.Firsts.{first}
use Rattle.order_checker.specs.Walking.{AreWalks}
use Rattle.order_checker.proofs.runs.run_all.Given as goal

abbrev pub invariant-loop-p : goal.invariant-loop-p
invariant-loop-p l = (first (run_fault l.image l.order) l.p ≡ None) × AreWalks l.image l.order l.p 0 l.walks.items
