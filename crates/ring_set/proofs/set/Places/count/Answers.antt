use Rattle.std.proofs.Common.{sym, ◌∙◌, arith}
use Rattle.ring_set.specs.Sets.{has, place_at}
use Rattle.ring_set.proofs.Bits.{test}
use Rattle.ring_set.proofs.Counts.{how_many-turned, ones-how_many}
use Rattle.ring_set.proofs.set.Places.count.Goals as goal

pub returns : goal.returns
unfolding has place_at
returns c = λ head lt.
    ones-how_many 128 c.args.self.0 (omega arith) ∙ sym (how_many-turned (test c.args.self.0) head lt)
