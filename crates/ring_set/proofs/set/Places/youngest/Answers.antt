use Rattle.std.proofs.Common.{sym, arith}
use Rattle.ring_set.specs.Sets.{aged, has, place_at}
use Rattle.ring_set.proofs.Turns.{test-turned_right, leading-greatest_low}
use Rattle.ring_set.proofs.set.Places.youngest.Goals as goal

pub returns : goal.returns
unfolding has place_at
returns c =
    leading-greatest_low (aged c.args.self c.args.head) c.rotate_right.result c.ones.result c.args.count (omega arith) c.requires.count c.ones.ensures (λ k lt.
    sym (test-turned_right c.args.self.0 c.args.head k _ _ (omega arith) c.requires.head lt c.from.ensures c.rotate_right.ensures))
