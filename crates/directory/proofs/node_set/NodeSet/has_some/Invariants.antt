use Rattle.std.proofs.Common.{◌≡◌}
use Rattle.memory_contracts.specs.Protocol.Lines.{is_some_node}
use Rattle.directory.specs.NodeSets.{set_of}
use Rattle.directory.proofs.node_set.NodeSet.has_some.Given as goal

abbrev pub invariant-loop-x : goal.invariant-loop-x
invariant-loop-x l = l.some ≡ is_some_node l.x (set_of l.self)
