use Rattle.std.proofs.Common.{◌+◌, List, sym, ap, subst}
use Rattle.node_memory.specs.Nodes.{Coming, NodeView}
use Rattle.node_memory.specs.NodeViews.{node_of}
use Rattle.node_memory.specs.Sound.{AreBefore}
use Rattle.node_memory.specs.Fetched.{begins-before}
use Rattle.memory_tests.proofs.nodes.Tested.tick.Goals as goal

pub invariant_of-self : goal.invariant_of-self
invariant_of-self g c =
    let s = c.args.self.now in
    let coming = ap (λ (v : NodeView). v.coming) c.start_wish-started.ensures.after in
    record { later = subst (λ (cs : List Coming). AreBefore (s.now + 1) cs) (sym coming) (begins-before s.now (node_of s.node) s.later) }
