use Rattle.std.proofs.Common.{◌≡◌, length}
use Rattle.node_memory.specs.NodeParts.{wishes_in}
use Rattle.node_memory.specs.Starting.{uncovered}
use Rattle.node_memory.proofs.wish_list.WishList.drop_covered.Given as goal

abbrev pub invariant-loop-self : goal.invariant-loop-self
invariant-loop-self l = uncovered l.misses (wishes_in l.self) ≡ uncovered l.misses (wishes_in l.fn.self)

abbrev pub decreases-loop-self : goal.decreases-loop-self
decreases-loop-self l = length (wishes_in l.self)
