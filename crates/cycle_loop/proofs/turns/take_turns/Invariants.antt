use Rattle.cycle_loop.proofs.Looping.{HasTurned}
use Rattle.cycle_loop.proofs.turns.take_turns.Given as goal

abbrev pub invariant-loop-p : goal.invariant-loop-p
invariant-loop-p g l =
    HasTurned l.image (g.M.CoherentStore.meaning l.initial.store) (g.M.CoherentStore.meaning l.store) l.initial.processors.items l.processors.items l.initial.log.places l.log.places l.log.spare l.p
