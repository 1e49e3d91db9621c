use Rattle.std.proofs.Common.{sym, arith}
use Rattle.ring_set.specs.Sets.{aged, has, place_at}
use Rattle.ring_set.proofs.Turns.{test-turned_right, trailing-least}
use Rattle.ring_set.proofs.set.Places.oldest.Goals as goal

pub returns : goal.returns
unfolding has place_at
returns c =
    trailing-least (aged c.args.self c.args.head) c.rotate_right.result (omega arith) (λ k lt.
    sym (test-turned_right c.args.self.0 c.args.head k _ _ (omega arith) c.requires lt c.from.ensures c.rotate_right.ensures))
