-- The lines so far have no fault, and the walks and memory have come to the next.
use Rattle.std.proofs.Common.{◌≡◌, None}
use Rattle.order_checker.specs.Faults.{line_fault}
use Rattle.order_checker.specs.Firsts.{first}
use Rattle.order_checker.specs.Walking.{HasWalked}
use Rattle.order_checker.proofs.lines.check_lines.Given as goal

abbrev pub invariant-loop-place : goal.invariant-loop-place
invariant-loop-place l = (first (line_fault l.image l.order) l.place ≡ None) × HasWalked l.image l.order l.place l.walks.items l.memory
