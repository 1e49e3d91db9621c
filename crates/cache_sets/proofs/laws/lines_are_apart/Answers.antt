use Rattle.cache_sets.proofs.Looking.{IsApart-sound}
use Rattle.cache_sets.proofs.laws.lines_are_apart.Goals as goal

pub returns : goal.returns
returns c = IsApart-sound
