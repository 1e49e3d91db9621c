-- The bytes so far are what their sources have written.
use Rattle.std.proofs.Common.{◌≡◌, None}
use Rattle.order_checker.specs.Faults.{wrong}
use Rattle.order_checker.specs.Firsts.{first}
use Rattle.order_checker.proofs.values.first_wrong.Given as goal

abbrev pub invariant-loop-b : goal.invariant-loop-b
invariant-loop-b l = first (wrong l.image l.order.lines l.place l.line) l.b ≡ None
