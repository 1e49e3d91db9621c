use Rattle.std.proofs.Common.{◌∙◌}
use Rattle.memory_queue.proofs.Ringed.{previous-of}
use Rattle.memory_queue.proofs.rows.previous.Goals as goal

pub returns : goal.returns
returns c = previous-of c.args.set 0 c.args.n c.from.result (c.from.ensures ∙ c.youngest.ensures)
