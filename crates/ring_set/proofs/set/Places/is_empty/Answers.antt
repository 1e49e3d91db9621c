use Rattle.std.proofs.Common.{ap, ◌∙◌}
use Rattle.std.proofs.lemmas.Bool.{eqb-true, eq-eqb}
use Rattle.ring_set.specs.Sets.{has}
use Rattle.ring_set.proofs.Bits.{test, test_zero, zero_from_tests}
use Rattle.ring_set.proofs.set.Places.is_empty.Goals as goal

pub returns-clause-none : goal.returns-clause-none
unfolding has
returns-clause-none c = λ is j. ap (λ w. test w j) (eqb-true _ _ is) ∙ test_zero j

pub returns-clause-some : goal.returns-clause-some
unfolding has
returns-clause-some c = λ none. eq-eqb _ _ (zero_from_tests c.args.self.0 none)
