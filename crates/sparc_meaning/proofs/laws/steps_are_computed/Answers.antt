use Rattle.sparc_meaning.proofs.Computing.{step_is_computed}
use Rattle.sparc_meaning.proofs.Telling.{ends_alone, others_ignore_the_value}
use Rattle.sparc_meaning.proofs.laws.steps_are_computed.Goals as goal

pub returns-clause-step : goal.returns-clause-step
returns-clause-step c = step_is_computed

pub returns-clause-ends : goal.returns-clause-ends
returns-clause-ends c = ends_alone

pub returns-clause-others : goal.returns-clause-others
returns-clause-others c = others_ignore_the_value
