use Rattle.ring_set.specs.Sets.{has}
use Rattle.ring_set.proofs.Bits.{test_zero}
use Rattle.ring_set.proofs.set.Places.none.Goals as goal

pub returns : goal.returns
unfolding has
returns c = test_zero
