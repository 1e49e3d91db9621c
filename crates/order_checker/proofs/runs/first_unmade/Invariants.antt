-- The lines so far are of accesses that were made.
use Rattle.std.proofs.Common.{◌≡◌, None}
use Rattle.order_checker.specs.Faults.{unmade}
use Rattle.order_checker.specs.Firsts.{first}
use Rattle.order_checker.proofs.runs.first_unmade.Given as goal

abbrev pub invariant-loop-place : goal.invariant-loop-place
invariant-loop-place l = first (unmade l.lines l.p.0 l.count) l.place ≡ None
