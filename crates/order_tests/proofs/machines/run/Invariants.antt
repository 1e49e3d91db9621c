use Rattle.std.proofs.Common.{◌≡◌, false}
use Rattle.order_tests.proofs.machines.run.Given as goal

abbrev pub invariant-loop : goal.invariant-loop
invariant-loop g l = l.machine.closed ≡ false
