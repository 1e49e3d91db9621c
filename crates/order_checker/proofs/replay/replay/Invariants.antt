-- The steps so far had no fault.
use Rattle.order_checker.specs.Programs.{IsReplaying}
use Rattle.order_checker.proofs.replay.replay.Given as goal

abbrev pub invariant-loop-s : goal.invariant-loop-s
invariant-loop-s l = IsReplaying l.image l.processors l.lines l.p.0 l.s l.arch l.now l.program.places.items l.program.fences.items
