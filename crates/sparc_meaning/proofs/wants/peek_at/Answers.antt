use Rattle.std.proofs.Common.{sym, ◌∙◌}
use Rattle.sparc_meaning.specs.StepReads.{step_reads}
use Rattle.sparc_meaning.proofs.wants.peek_at.Goals as goal

pub returns-then-is_running-clause-wants : goal.returns-then-is_running-clause-wants
returns-then-is_running-clause-wants c = λ running value. c.wants.ensures.value ∙ sym (step_reads c.args.image.now c.args.arch.now value)
