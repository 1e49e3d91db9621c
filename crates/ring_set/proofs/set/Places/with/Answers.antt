use Rattle.ring_set.specs.Sets.{has}
use Rattle.ring_set.proofs.Bits.{test_with}
use Rattle.ring_set.proofs.set.Places.with.Goals as goal

pub returns : goal.returns
unfolding has
returns c = λ j. test_with c.args.self.0 c.args.place j c.requires
