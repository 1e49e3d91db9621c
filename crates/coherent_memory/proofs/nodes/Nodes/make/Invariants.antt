use Rattle.std.proofs.Common.{◌≡◌, ℕ, ◌<◌, length}
use Rattle.node_memory.specs.NodeViews.{node_of}
use Rattle.node_memory.specs.Nodes.{empty_node}
use Rattle.coherent_memory.specs.NodeRows.{no_node}
use Rattle.coherent_memory.specs.Rows.{rows_of}
use Rattle.coherent_memory.proofs.nodes.Nodes.make.Given as goal

abbrev pub invariant-loop-p : goal.invariant-loop-p
invariant-loop-p l = record {
  count : length l.list.items ≡ l.p;
  start : (q : ℕ) → q < length l.list.items → rows_of node_of no_node l.list.items q ≡ empty_node l.config q;
}
