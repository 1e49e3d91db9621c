-- A node as its whole state.
use Rattle.node_memory.specs.Nodes.{NodeView}
use Rattle.node_memory.specs.NodeParts.{node_with}
use Rattle.node_memory.specs.Sound.{IsSound}
use Rattle.node_memory.specs.declared.node.NodeMemory.{NodeMemory}

abbrev pub node_of : NodeMemory → NodeView
node_of s = node_with s.at s.nodes s.latency s.lines s.wishes s.coming s.outbox

-- each is sound
pub node_is_sound : (s : NodeMemory) → IsSound (node_of s)
node_is_sound s = s.sound
