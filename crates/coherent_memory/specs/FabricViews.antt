-- A fabric as the whole memory that it is.
use Rattle.memory_contracts.specs.Carrier.{CarrierView}
use Rattle.coherent_memory.specs.Fabrics.{system_with}
use Rattle.coherent_memory.specs.Systems.{System}
use Rattle.coherent_memory.specs.declared.fabric.Fabric.{Fabric}

abbrev pub system_of : {C : Type 0} {b : _} → (C → CarrierView) → Fabric C b → System
system_of meaning f = system_with f.homes f.nodes (meaning f.carrier)
