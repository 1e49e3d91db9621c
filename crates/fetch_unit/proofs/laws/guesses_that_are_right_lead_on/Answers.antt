-- The law is proved by the kind of the instruction.
use Rattle.fetch_unit.proofs.Guessing.{lead_on, straight_ones}
use Rattle.fetch_unit.proofs.laws.guesses_that_are_right_lead_on.Goals as goal

pub returns-clause-leads : goal.returns-clause-leads
returns-clause-leads c = lead_on

pub returns-clause-straight : goal.returns-clause-straight
returns-clause-straight c = straight_ones
