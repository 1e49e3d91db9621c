use Rattle.sparc_alu.proofs.FourCodes.{differ}
use Rattle.sparc_alu.proofs.condition.is_less.Goals as goal

pub returns : goal.returns
returns c = differ _ _ _ _ c.negative.ensures c.overflow.ensures
