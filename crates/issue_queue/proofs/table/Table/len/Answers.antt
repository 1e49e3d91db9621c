use Rattle.std.proofs.Common.{◌%◌, ◌∙◌, refl, arith}
use Rattle.issue_queue.proofs.Entries.{length-entries}
use Rattle.issue_queue.proofs.table.Table.len.Goals as goal

pub returns : goal.returns
returns c =
    let low = c.self.inside.low in
    rw (← c.self.view_is) (c.from.ensures ∙ length-entries c.self.inside c.count.result (low % 128) refl (c.count.ensures (low % 128) (omega arith)))
