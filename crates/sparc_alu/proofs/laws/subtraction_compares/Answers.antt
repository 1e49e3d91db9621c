use Rattle.sparc_alu.proofs.Compared.{subtraction_compares}
use Rattle.sparc_alu.proofs.laws.subtraction_compares.Goals as goal

pub returns : goal.returns
returns c a b cc _ _ = subtraction_compares a b cc
