use Rattle.miss_registers.specs.OneLine.{register_of-with_register, register_of-without_register, victim_of-with_victim, victim_of-without_victim, victim_of-with_emptied}
use Rattle.miss_registers.proofs.laws.lines_are_apart.Goals as goal

pub returns : goal.returns
returns c = record {
  begun = register_of-with_register;
  closed = register_of-without_register;
  kept = victim_of-with_victim;
  emptied = victim_of-with_emptied;
  freed = victim_of-without_victim;
}
