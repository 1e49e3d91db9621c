use Rattle.ring_set.specs.Sets.{has}
use Rattle.ring_set.proofs.Bits.{test_or}
use Rattle.ring_set.proofs.set.Places.or.Goals as goal

pub returns : goal.returns
unfolding has
returns c = λ j. test_or c.args.self.0 c.args.other.0 j
