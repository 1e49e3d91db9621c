use Rattle.sparc_meaning.proofs.Keeping.{windows_are_kept}
use Rattle.sparc_meaning.proofs.laws.windows_are_kept.Goals as goal

pub returns-clause-kept : goal.returns-clause-kept
returns-clause-kept c = windows_are_kept
