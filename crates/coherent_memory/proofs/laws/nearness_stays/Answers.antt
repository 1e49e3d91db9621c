use Rattle.coherent_memory.proofs.Nearness.{near-read, near-written}
use Rattle.coherent_memory.proofs.laws.nearness_stays.Goals as goal

pub returns-clause-read : goal.returns-clause-read
returns-clause-read c = near-read c.look_ups_follow.ensures.touch c.lines_are_apart.ensures

pub returns-clause-write : goal.returns-clause-write
returns-clause-write c = near-written c.look_ups_follow.ensures.touch c.lines_are_apart.ensures
