-- A coherent memory as the store that it is.
use Rattle.memory_contracts.specs.Carrier.{CarrierView}
use Rattle.memory_contracts.specs.Store.{StoreView}
use Rattle.coherent_memory.specs.FabricViews.{system_of}
use Rattle.coherent_memory.specs.Stores.{Memory, Shape, store_of}
use Rattle.coherent_memory.specs.Systems.{System}
use Rattle.coherent_memory.specs.MemoryInvariants.{shape_of}
use Rattle.coherent_memory.specs.declared.memory.CoherentMemory.{CoherentMemory}

abbrev pub memory_of : {C : Type 0} {b : _} → (C → CarrierView) → CoherentMemory C b → System
memory_of meaning m = system_of meaning m.fabric

abbrev pub memory_shape : {C : Type 0} {b : _} → CoherentMemory C b → Shape
memory_shape m = shape_of m.fabric.count m.spans.items m.line_bytes

abbrev pub store_in : {C : Type 0} {b : _} → (C → CarrierView) → CoherentMemory C b → StoreView
store_in meaning m = store_of (memory_shape m) m.ticks (memory_of meaning m)

abbrev pub memory_in : {C : Type 0} {b : _} → (C → CarrierView) → CoherentMemory C b → Memory
memory_in meaning m = record { shape = memory_shape m; ticks = m.ticks; system = memory_of meaning m }
