-- What the whole memory keeps beside its lines.
use Rattle.std.specs.Prelude.{◌≡◌, ℕ, ◌/◌, ◌<◌, true, List}
use Rattle.elf64_load.specs.declared.span.Span.{Span}
use Rattle.memory_contracts.specs.FlatLayout.{mapped_in}
use Rattle.cache_levels.specs.Sizes.{IsLineSize}
use Rattle.node_memory.specs.Sound.{AreBefore}
use Rattle.coherent_memory.specs.Stores.{Shape}
use Rattle.coherent_memory.specs.Systems.{System, is_kept}

-- where the regions have these spans
abbrev pub shape_of : ℕ → List Span → ℕ → Shape
shape_of nodes spans line_bytes = record { nodes = nodes; mapped = mapped_in spans; line_bytes = line_bytes }

pub record IsWhole (shape : Shape) (ticks : ℕ) (s : System) : Type 0 where
  pub size : IsLineSize shape.line_bytes
  -- each node has lines of this size, and fetches none that it is to wish later
  pub bytes : (p : ℕ) → p < shape.nodes → (s.nodes p).levels.line_bytes ≡ shape.line_bytes
  pub fetched : (p : ℕ) → p < shape.nodes → AreBefore ticks (s.nodes p).coming
  -- each line with a mapped byte is kept by its home
  pub kept : (a : ℕ) → shape.mapped a ≡ true → is_kept shape.nodes s (a / shape.line_bytes) ≡ true
  pub carrier : s.carrier.ticks ≡ ticks
