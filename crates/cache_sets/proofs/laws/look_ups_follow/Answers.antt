use Rattle.cache_sets.proofs.Calls.{set_of_slot}
use Rattle.cache_sets.proofs.Looking.{LooksUp-touched, LooksUp-with_reserved, LooksUp-with_held, LooksUp-filled, LooksUp-dropped}
use Rattle.std.proofs.Common.{length}
use Rattle.cache_sets.proofs.laws.look_ups_follow.Goals as goal

pub returns-clause-touch : goal.returns-clause-touch
returns-clause-touch c = λ slot cache sound below. LooksUp-touched slot cache (set_of_slot (length cache.sets) cache.ways slot below) sound

pub returns-clause-reserve : goal.returns-clause-reserve
returns-clause-reserve c = λ line cache sound unreserved. LooksUp-with_reserved line cache unreserved sound

pub returns-clause-hold : goal.returns-clause-hold
returns-clause-hold c = λ line slot cache sound is. LooksUp-with_held line slot cache is sound

pub returns-clause-fill : goal.returns-clause-fill
returns-clause-fill c = λ slot line cache sound is. LooksUp-filled slot line cache is sound

pub returns-clause-drop : goal.returns-clause-drop
returns-clause-drop c = λ line cache sound. LooksUp-dropped line cache sound
