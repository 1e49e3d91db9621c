use Rattle.std.proofs.Common.{arith}
use Rattle.ring_set.specs.Sets.{has}
use Rattle.ring_set.proofs.Bits.{test_without, without_less}
use Rattle.ring_set.proofs.set.Places.without.Goals as goal

pub returns-clause-has : goal.returns-clause-has
unfolding has
returns-clause-has c = λ j. test_without c.args.self.0 c.args.place j (omega arith) c.requires

pub returns-clause-less : goal.returns-clause-less
unfolding has
returns-clause-less c = λ has. without_less c.args.self.0 c.args.place c.requires has
