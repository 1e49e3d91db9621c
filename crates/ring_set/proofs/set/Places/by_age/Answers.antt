use Rattle.std.proofs.Common.{arith}
use Rattle.ring_set.specs.Sets.{has, place_at}
use Rattle.ring_set.proofs.Turns.{test-turned_right}
use Rattle.ring_set.proofs.set.Places.by_age.Goals as goal

pub returns : goal.returns
unfolding has place_at
returns c = λ k lt. test-turned_right c.args.self.0 c.args.head k _ _ (omega arith) c.requires lt c.from.ensures c.rotate_right.ensures
