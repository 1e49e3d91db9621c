use Rattle.cycle_loop.proofs.Looping.{HasRoomBelow}
use Rattle.cycle_loop.proofs.turns.reserve_outputs.Given as goal

abbrev pub invariant-loop-p : goal.invariant-loop-p
invariant-loop-p l = HasRoomBelow l.initial.processors.items l.processors.items l.p
