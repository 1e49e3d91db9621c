-- The whole memory where its homes, its nodes or its carrier have changed.
use Rattle.std.proofs.Common.{◌≡◌, ℕ, ◌<◌}
use Rattle.memory_contracts.specs.Carrier.{CarrierView}
use Rattle.memory_contracts.specs.Updates.{with_at}
use Rattle.directory.specs.Homes.{HomeView}
use Rattle.node_memory.specs.Nodes.{NodeView}
use Rattle.node_memory.specs.NodeViews.{node_is_sound, node_of}
use Rattle.node_memory.specs.Sound.{IsSound}
use Rattle.coherent_memory.specs.Fabrics.{system_with}
use Rattle.coherent_memory.specs.HomeRows.{homes_in}
use Rattle.coherent_memory.specs.NodeRows.{no_node, node_count, nodes_in}
use Rattle.coherent_memory.specs.Turns.{with_home, with_node}
use Rattle.coherent_memory.specs.declared.homes.Homes.{Homes}
use Rattle.coherent_memory.specs.declared.nodes.Nodes.{Nodes}
use Rattle.coherent_memory.proofs.PartRows.{rows_of-each}

pub with-nodes : (homes : Homes) (nodes nodes' : Nodes) (carrier : CarrierView) (p : ℕ) (v : NodeView) → nodes_in nodes' ≡ with_at (nodes_in nodes) p v →
    system_with homes nodes' carrier ≡ with_node p v (system_with homes nodes carrier)
with-nodes homes nodes nodes' carrier p v is = λ i. record { homes = homes_in homes; nodes = is i; carrier = carrier }

pub with-homes : (homes homes' : Homes) (nodes : Nodes) (carrier : CarrierView) (p : ℕ) (h : HomeView) → homes_in homes' ≡ with_at (homes_in homes) p h →
    system_with homes' nodes carrier ≡ with_home p h (system_with homes nodes carrier)
with-homes homes homes' nodes carrier p h is = λ i. record { homes = is i; nodes = nodes_in nodes; carrier = carrier }

pub with-carried : (homes : Homes) (nodes : Nodes) (carrier carrier' : CarrierView) → carrier' ≡ carrier → system_with homes nodes carrier' ≡ system_with homes nodes carrier
with-carried homes nodes carrier carrier' is = λ i. record { homes = homes_in homes; nodes = nodes_in nodes; carrier = is i }

pub nodes-sound : (nodes : Nodes) (p : ℕ) → p < node_count nodes → IsSound (nodes_in nodes p)
nodes-sound nodes p below = rows_of-each node_of no_node IsSound nodes.list.items p node_is_sound below
