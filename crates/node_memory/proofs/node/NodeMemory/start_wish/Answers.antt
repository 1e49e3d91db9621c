use Rattle.std.proofs.Common.{◌<◌, List, length, sym, ap, subst, ◌∙◌}
use Rattle.node_memory.specs.Nodes.{Coming, NodeView}
use Rattle.node_memory.specs.NodeViews.{node_of}
use Rattle.node_memory.specs.Sound.{AreBefore}
use Rattle.node_memory.specs.Fetched.{arrive-before}
use Rattle.node_memory.proofs.Fetched.{arrive-few}
use Rattle.node_memory.proofs.node.NodeMemory.start_wish.Goals as goal

pub begin_first-requires-clause-later : goal.begin_first-requires-clause-later
begin_first-requires-clause-later c =
    let v = node_of c.args.self.now in
    let coming = ap (λ (v : NodeView). v.coming) c.drop_covered.ensures ∙ ap (λ (v : NodeView). v.coming) c.bring_near.ensures in
    subst (λ (cs : List Coming). AreBefore c.args.now cs) (sym coming) (arrive-before v.latency c.args.now v.coming v.levels c.requires.later)

pub begin_first-requires-clause-room : goal.begin_first-requires-clause-room
begin_first-requires-clause-room c =
    let s = c.args.self.now in
    let v = node_of s in
    let coming = ap (λ (v : NodeView). v.coming) c.drop_covered.ensures ∙ ap (λ (v : NodeView). v.coming) c.bring_near.ensures in
    subst (λ (cs : List Coming). length cs < 64) (sym coming) (arrive-few v.latency c.args.now v.coming v.levels s.sound.latency s.sound.coming c.requires.later)
