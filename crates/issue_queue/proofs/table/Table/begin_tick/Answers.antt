use Rattle.std.proofs.Common.{refl}
use Rattle.issue_queue.specs.Tables.{entries_of}
use Rattle.issue_queue.proofs.table.Table.begin_tick.Goals as goal

pub returns : goal.returns
unfolding entries_of
returns c = rw (← c.self.view_is) refl
