use Rattle.rsim_top.proofs.CheckCauses.{IsExactCheck-from_answer, IsCompleteCheck-from_answer}
use Rattle.rsim_top.proofs.checking.check_command.Goals as goal

pub returns-clause-exactly : goal.returns-clause-exactly
returns-clause-exactly g c = IsExactCheck-from_answer _ _ _ _ c.check_words.ensures.answer

pub returns-clause-complete : goal.returns-clause-complete
returns-clause-complete g c = IsCompleteCheck-from_answer _ _ _ _ c.check_words.ensures.answer
