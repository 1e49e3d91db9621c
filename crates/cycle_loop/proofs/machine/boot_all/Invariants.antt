use Rattle.cycle_loop.proofs.Keeping.{IsBooted}
use Rattle.cycle_loop.proofs.machine.boot_all.Given as goal

abbrev pub invariant-loop-p : goal.invariant-loop-p
invariant-loop-p l = IsBooted l.image l.count l.processors.items l.p
