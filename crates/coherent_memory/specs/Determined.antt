-- A tick has one result.
use Rattle.std.specs.Prelude.{◌≡◌, List}
use Rattle.rsim_base.specs.declared.memory.Line.{Line}
use Rattle.rsim_base.specs.declared.memory.Node.{Node}
use Rattle.memory_contracts.specs.Carrier.{CarrierView}
use Rattle.coherent_memory.specs.Stores.{Memory, MemoryTicks}

-- a tick of the carrier has
abbrev pub MovesOnce : (CarrierView → CarrierView → Type 0) → Type 0
MovesOnce Moves = (u v w : CarrierView) → Moves u v → Moves u w → v ≡ w

-- a tick of memory has: homes, nodes, messages, and the lines that are told to have left
abbrev pub TicksOnce : (CarrierView → CarrierView → Type 0) → Type 0
TicksOnce Moves = (m t u : Memory) (gone told : List (Node × Line)) → MemoryTicks Moves m t gone → MemoryTicks Moves m u told → (t ≡ u) × (gone ≡ told)
