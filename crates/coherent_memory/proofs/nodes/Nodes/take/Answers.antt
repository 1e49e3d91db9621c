use Rattle.std.proofs.Common.{◌++◌, sym, ap, ◌∙◌}
use Rattle.node_memory.specs.NodeViews.{node_of}
use Rattle.memory_contracts.specs.Letters.{letter_of}
use Rattle.node_memory.specs.Nodes.{NodeView, left_from}
use Rattle.node_memory.specs.Rows.{after_message, lost_at}
use Rattle.coherent_memory.specs.NodeRows.{no_node}
use Rattle.coherent_memory.proofs.PartRows.{rows_of-changed, rows_of-given}
use Rattle.coherent_memory.proofs.nodes.Nodes.take.Goals as goal

pub returns-clause-after : goal.returns-clause-after
returns-clause-after c =
    rows_of-changed node_of no_node c.args.self.now.list.items c.args.p.0 c.index_mut-node.result.now c.on_message.new.self (after_message (letter_of c.args.m.now)) c.requires.node c.index_mut-node.ensures.value c.on_message.ensures.after

pub returns-clause-lost : goal.returns-clause-lost
returns-clause-lost c =
    let given = rows_of-given node_of no_node c.args.self.now.list.items c.args.p.0 c.index_mut-node.result.now c.requires.node c.index_mut-node.ensures.value in
    c.on_message.ensures.lost ∙ ap (λ (v : NodeView). c.args.lost.now.items ++ left_from v.at (lost_at (letter_of c.args.m.now) v)) (sym given)
