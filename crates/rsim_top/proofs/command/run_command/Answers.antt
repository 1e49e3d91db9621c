use Rattle.rsim_top.proofs.Causes.{IsExact-from_answer, IsComplete-from_answer}
use Rattle.rsim_top.proofs.command.run_command.Goals as goal

pub returns-clause-exactly : goal.returns-clause-exactly
returns-clause-exactly g c = IsExact-from_answer _ _ _ _ c.run_words.ensures.answer

pub returns-clause-complete : goal.returns-clause-complete
returns-clause-complete g c = IsComplete-from_answer _ _ _ _ c.run_words.ensures.answer
