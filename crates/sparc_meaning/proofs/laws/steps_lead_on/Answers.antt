use Rattle.sparc_meaning.proofs.Numbered.{steps_lead, windows_stay}
use Rattle.sparc_meaning.proofs.laws.steps_lead_on.Goals as goal

pub returns-clause-leads : goal.returns-clause-leads
returns-clause-leads c = steps_lead

pub returns-clause-windows : goal.returns-clause-windows
returns-clause-windows c = windows_stay
