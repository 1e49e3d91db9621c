-- The view of a machine, by what its store means.
use Rattle.memory_contracts.specs.Store.{StoreView}
use Rattle.cycle_loop.specs.Machine.{MachineView}
use Rattle.cycle_loop.specs.Machines.{machine_view}
use Rattle.cycle_loop.specs.declared.machine.Machine.{Machine}

abbrev pub view_of : {M : Type 0} {b : _} → (M → StoreView) → Machine M b → MachineView
view_of meaning m = machine_view m.processors.items (meaning m.store) m.log.places m.cycles
