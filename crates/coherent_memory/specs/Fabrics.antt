-- The homes, the nodes and the carrier as the whole memory.
use Rattle.memory_contracts.specs.Carrier.{CarrierView}
use Rattle.coherent_memory.specs.HomeRows.{homes_in}
use Rattle.coherent_memory.specs.NodeRows.{nodes_in}
use Rattle.coherent_memory.specs.Systems.{System}
use Rattle.coherent_memory.specs.declared.homes.Homes.{Homes}
use Rattle.coherent_memory.specs.declared.nodes.Nodes.{Nodes}

abbrev pub system_with : Homes → Nodes → CarrierView → System
system_with homes nodes carrier = record { homes = homes_in homes; nodes = nodes_in nodes; carrier = carrier }
