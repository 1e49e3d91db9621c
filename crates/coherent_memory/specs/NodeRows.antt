-- The nodes.
use Rattle.std.specs.Prelude.{ℕ, [], length}
use Rattle.cache_levels.specs.Levels.{LevelsView}
use Rattle.node_memory.specs.NodeViews.{node_of}
use Rattle.node_memory.specs.Nodes.{NodeView, no_misses}
use Rattle.coherent_memory.specs.Rows.{rows_of}
use Rattle.coherent_memory.specs.declared.nodes.Nodes.{Nodes}

abbrev pub no_levels : LevelsView
no_levels = record { first = record { ways = 0; sets = [] }; second = record { ways = 0; sets = [] }; copies = []; line_bytes = 0 }

-- where there is no node
abbrev pub no_node : NodeView
no_node = record {
  at = 0;
  nodes = 0;
  latency = 0;
  levels = no_levels;
  misses = no_misses 0;
  wishes = [];
  coming = [];
  outbox = [];
}

abbrev pub nodes_in : Nodes → ℕ → NodeView
nodes_in nodes = rows_of node_of no_node nodes.list.items

abbrev pub node_count : Nodes → ℕ
node_count nodes = length nodes.list.items
