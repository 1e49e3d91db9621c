use Rattle.std.proofs.Common.{ap, ◌∙◌, arith}
use Rattle.ring_set.specs.Sets.{has, place_at}
use Rattle.ring_set.proofs.Bits.{test, test_ones}
use Rattle.ring_set.proofs.Turns.{test-turned_left}
use Rattle.ring_set.proofs.set.Places.run.Goals as goal

pub returns : goal.returns
unfolding has place_at
returns c = λ k lt.
    test-turned_left c.ones.result c.args.head k _ _ (omega arith) c.requires.head lt c.from.ensures c.rotate_left.ensures
    ∙ ap (λ w. test w k) c.ones.ensures ∙ test_ones c.args.count k
