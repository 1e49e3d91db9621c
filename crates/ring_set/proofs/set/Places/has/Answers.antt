use Rattle.std.proofs.Common.{◌==◌, ap}
use Rattle.std.proofs.lemmas.Nat.Bits.{shr_and_one}
use Rattle.ring_set.specs.Sets.{has}
use Rattle.ring_set.proofs.set.Places.has.Goals as goal

pub returns : goal.returns
unfolding has
returns c = ap (λ x. x == 1) (shr_and_one c.args.self.0 c.args.place)
