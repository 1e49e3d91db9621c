-- The whole memory as the store that it is, and what its calls make of it.
use Rattle.std.specs.Prelude.{◌≡◌, ℕ, ◌+◌, ◌/◌, ◌%◌, Bool, List, if◌then◌else◌, slice_index}
use Rattle.rsim_base.specs.declared.memory.Line.{Line}
use Rattle.rsim_base.specs.declared.memory.Node.{Node}
use Rattle.memory_contracts.specs.Carrier.{CarrierView}
use Rattle.memory_contracts.specs.Store.{Effects, StoreView}
use Rattle.cache_levels.specs.Levels.{near, owned}
use Rattle.node_memory.specs.Nodes.{after_read, after_wish, after_write}
use Rattle.coherent_memory.specs.Lost.{holds}
use Rattle.coherent_memory.specs.Systems.{System, content, is_kept}
use Rattle.coherent_memory.specs.Turns.{HasTicked, with_node}

-- what does not change: how many nodes there are, which addresses have memory, and how many bytes a line has
pub record Shape : Type 0 where
  pub nodes : ℕ
  pub mapped : ℕ → Bool
  pub line_bytes : ℕ

-- the byte at an address is that of the content of its line; where no home keeps the line there is none
abbrev pub byte_at : Shape → System → ℕ → ℕ
byte_at shape s a =
    let l = a / shape.line_bytes in
    if is_kept shape.nodes s l then slice_index (content shape.nodes s l) (a % shape.line_bytes) else 0

abbrev pub store_of : Shape → ℕ → System → StoreView
store_of shape ticks s = record {
  bytes = byte_at shape s;
  mapped = shape.mapped;
  held = holds s;
  near = λ p l. near l (s.nodes p).levels;
  owned = λ p l. owned l (s.nodes p).levels;
  wishes = λ p. (s.nodes p).wishes;
  nodes = shape.nodes;
  line_bytes = shape.line_bytes;
  ticks = ticks;
}

-- ---- what stands behind it

pub record Memory : Type 0 where
  pub shape : Shape
  pub ticks : ℕ
  pub system : System

abbrev pub view_of : Memory → StoreView
view_of m = store_of m.shape m.ticks m.system

-- a read and a write make their line the most recent; they and a wish change nothing at any other node
abbrev pub memory_effects : Effects Memory
memory_effects = record {
  reading = λ p a n m. record m { system = with_node p (after_read a (m.system.nodes p)) m.system };
  writing = λ p a n value m. record m { system = with_node p (after_write a n value (m.system.nodes p)) m.system };
  wishing = λ p line own m. record m { system = with_node p (after_wish line own (m.system.nodes p)) m.system };
}

pub record MemoryTicks (Moves : CarrierView → CarrierView → Type 0) (old new : Memory) (lost : List (Node × Line)) : Type 0 where
  pub shape : new.shape ≡ old.shape
  pub ticks : new.ticks ≡ old.ticks + 1
  pub system : HasTicked Moves old.shape.nodes old.ticks old.system new.system lost
