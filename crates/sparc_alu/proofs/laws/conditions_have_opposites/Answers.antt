use Rattle.sparc_alu.proofs.Opposites.{codes_opposite, register_opposite}
use Rattle.sparc_alu.proofs.laws.conditions_have_opposites.Goals as goal

pub returns-clause-codes : goal.returns-clause-codes
returns-clause-codes c = codes_opposite

pub returns-clause-registers : goal.returns-clause-registers
returns-clause-registers c = register_opposite
