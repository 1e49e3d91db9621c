use Rattle.std.proofs.Common.{arith}
use Rattle.ring_set.specs.Sets.{has}
use Rattle.ring_set.proofs.Bits.{test_outside}
use Rattle.ring_set.proofs.set.Places.outside.Goals as goal

pub returns : goal.returns
unfolding has
returns c = λ j. test_outside c.args.self.0 c.args.other.0 j (omega arith) (omega arith)
