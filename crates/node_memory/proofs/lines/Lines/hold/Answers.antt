use Rattle.std.proofs.Common.{◌∙◌}
use Rattle.node_memory.proofs.Below.{CacheLaws}
use Rattle.node_memory.proofs.Held.{copies_of, held-copy}
use Rattle.node_memory.proofs.lines.Lines.hold.Goals as goal

pub returns-clause-copy : goal.returns-clause-copy
returns-clause-copy c =
    let laws : CacheLaws = assumption in
    let levels = c.args.self.now.levels in
    c.hold.ensures ∙ held-copy c.args.line.0 levels (copies_of laws levels c.requires)
