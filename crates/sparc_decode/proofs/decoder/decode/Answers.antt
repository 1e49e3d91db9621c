use Rattle.sparc_decode.specs.Facts.{branch_in_range, call_in_range, arithmetic_in_range, memory_in_range}
use Rattle.sparc_decode.proofs.decoder.decode.Goals as goal

pub returns-in-0-clause-in_range : goal.returns-in-0-clause-in_range
returns-in-0-clause-in_range c = rw c.branch-word.ensures (branch_in_range c.args.word)

pub returns-in-1-clause-in_range : goal.returns-in-1-clause-in_range
returns-in-1-clause-in_range c = rw c.call.ensures (call_in_range c.args.word)

pub returns-in-2-clause-in_range : goal.returns-in-2-clause-in_range
returns-in-2-clause-in_range c = rw c.arithmetic.ensures (arithmetic_in_range c.args.word)

pub returns-in_default-clause-in_range : goal.returns-in_default-clause-in_range
returns-in_default-clause-in_range c = rw c.memory.ensures (memory_in_range c.args.word)
