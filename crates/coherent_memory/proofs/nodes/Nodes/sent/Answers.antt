use Rattle.node_memory.specs.NodeViews.{node_of}
use Rattle.node_memory.specs.Nodes.{without_first_mail}
use Rattle.coherent_memory.specs.NodeRows.{no_node}
use Rattle.coherent_memory.proofs.PartRows.{rows_of-changed}
use Rattle.coherent_memory.proofs.nodes.Nodes.sent.Goals as goal

pub returns-clause-after : goal.returns-clause-after
returns-clause-after c =
    rows_of-changed node_of no_node c.args.self.now.list.items c.args.p.0 c.index_mut-node.result.now c.sent.new.self without_first_mail c.requires.node c.index_mut-node.ensures.value c.sent.ensures
