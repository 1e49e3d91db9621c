use Rattle.sparc_meaning.proofs.Numbered.{destinations_pass, global_zero_stays, numbers_are_below, numbers_name, operands_are_read, registers_stay}
use Rattle.sparc_meaning.proofs.laws.registers_are_numbered.Goals as goal

pub returns-clause-below : goal.returns-clause-below
returns-clause-below c = numbers_are_below

pub returns-clause-name : goal.returns-clause-name
returns-clause-name c = numbers_name

pub returns-clause-operands : goal.returns-clause-operands
returns-clause-operands c = operands_are_read

pub returns-clause-results : goal.returns-clause-results
returns-clause-results c = destinations_pass

pub returns-clause-zero : goal.returns-clause-zero
returns-clause-zero c = global_zero_stays

pub returns-clause-count : goal.returns-clause-count
returns-clause-count c = registers_stay
