-- The bytes so far are those of the store.
use Rattle.std.proofs.Common.{◌≡◌, None}
use Rattle.order_checker.specs.Firsts.{first}
use Rattle.order_checker.specs.Walking.{differs_from}
use Rattle.order_checker.proofs.values.first_differing.Given as goal

abbrev pub invariant-loop-b : goal.invariant-loop-b
invariant-loop-b l = first (differs_from l.store l.place l.line) l.b ≡ None
