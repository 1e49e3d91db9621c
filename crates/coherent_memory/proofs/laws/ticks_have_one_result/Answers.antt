use Rattle.coherent_memory.proofs.Once.{ticks-once}
use Rattle.coherent_memory.proofs.laws.ticks_have_one_result.Goals as goal

pub returns : goal.returns
returns g c = ticks-once g.C.Carrier.Moves
