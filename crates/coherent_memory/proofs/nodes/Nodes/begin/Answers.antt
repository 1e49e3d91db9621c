use Rattle.std.proofs.Common.{◌++◌, sym, ap, ◌∙◌}
use Rattle.node_memory.specs.NodeViews.{node_of}
use Rattle.node_memory.specs.Nodes.{NodeView, left_from}
use Rattle.node_memory.specs.Starting.{begins}
use Rattle.coherent_memory.specs.NodeRows.{no_node}
use Rattle.coherent_memory.proofs.PartRows.{rows_of-changed, rows_of-given}
use Rattle.coherent_memory.proofs.nodes.Nodes.begin.Goals as goal

pub returns-clause-after : goal.returns-clause-after
returns-clause-after c =
    rows_of-changed node_of no_node c.args.self.now.list.items c.args.p.0 c.index_mut-node.result.now c.start_wish.new.self (λ v. (begins c.args.now v).after) c.requires.node c.index_mut-node.ensures.value c.start_wish.ensures.after

pub returns-clause-lost : goal.returns-clause-lost
returns-clause-lost c =
    let given = rows_of-given node_of no_node c.args.self.now.list.items c.args.p.0 c.index_mut-node.result.now c.requires.node c.index_mut-node.ensures.value in
    c.start_wish.ensures.lost ∙ ap (λ (v : NodeView). c.args.lost.now.items ++ left_from v.at (begins c.args.now v).lost) (sym given)
