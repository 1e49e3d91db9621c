use Rattle.std.proofs.Common.{◌∙◌}
use Rattle.memory_queue.proofs.Ringed.{next-of}
use Rattle.memory_queue.proofs.rows.next.Goals as goal

pub returns : goal.returns
returns c = next-of c.args.set c.outside-later.result c.run.result 0 c.args.from c.from.result c.outside-later.ensures c.run.ensures (c.from.ensures ∙ c.oldest.ensures)
