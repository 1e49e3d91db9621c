-- What a coherent memory is at first.
use Rattle.std.proofs.Common.{◌≡◌, ◌<◌, ◌≤◌, ℕ, List, sym, subst, ◌∙◌, arith}
use Rattle.std.specs.List.{list_any}
use Rattle.elf64_load.specs.Image.{ImageView, holds, is_mapped}
use Rattle.elf64_load.specs.Layout.{spans}
use Rattle.elf64_load.specs.declared.span.Span.{Span}
use Rattle.machine_config.specs.Allowed.{IsAllowed}
use Rattle.machine_config.specs.declared.config.Config.{Config}
use Rattle.memory_contracts.specs.Carrier.{CarrierView}
use Rattle.memory_contracts.specs.Protocol.Laws.{CurrentIsContent, LinesStayCoherent, OrderIsFree}
use Rattle.memory_contracts.specs.Start.{IsStart}
use Rattle.cache_levels.specs.Sizes.{IsLineSize}
use Rattle.node_memory.specs.Nodes.{NodeView}
use Rattle.coherent_memory.specs.FabricViews.{system_of}
use Rattle.coherent_memory.specs.First.{IsFirst}
use Rattle.coherent_memory.specs.Stores.{Shape, byte_at, store_of}
use Rattle.coherent_memory.specs.MemoryInvariants.{IsWhole, shape_of}
use Rattle.coherent_memory.specs.declared.fabric.Fabric.{Fabric}
use Rattle.coherent_memory.proofs.Fabrics.{nodes-sound}
use Rattle.coherent_memory.proofs.Memories.{nothing-past}
use Rattle.machine_config.specs.Sizes.{sizes_of}
use Rattle.coherent_memory.proofs.Soundness.{IsNothing}
use Rattle.coherent_memory.proofs.Starting.{mapped-spans, small-first, start-first, whole-first}

-- the parts of one that was made of an image and a configuration
pub record AreMade {C : Type 0} {b : _} (meaning : C → CarrierView) (image : ImageView) (config : Config) (f : Fabric C b) (order copy : List Span) (line_bytes : ℕ) : Type 0 where
  pub allowed : IsAllowed config
  pub first : IsFirst image config (system_of meaning f)
  pub count : f.count ≡ config.processors
  pub ticks : (system_of meaning f).carrier.ticks ≡ 0
  pub copied : copy ≡ order
  pub spans : (a : ℕ) → list_any (λ s. spans a s) order ≡ list_any (holds a 1) image.regions
  pub line : line_bytes ≡ config.line

module _ {C : Type 0} {b : _} (stay : LinesStayCoherent) (free : OrderIsFree) (current : CurrentIsContent) (meaning : C → CarrierView) (image : ImageView) (config : Config) (f : Fabric C b) (order copy : List Span) (line_bytes : ℕ) (made : AreMade meaning image config f order copy line_bytes) where
  abbrev shape : Shape
  shape = shape_of f.count copy line_bytes

  some : 0 < config.processors
  some = (sizes_of config made.allowed).processors.0

  size : IsLineSize config.line
  size =
      let sound = nodes-sound f.nodes 0 (subst (λ (n : ℕ). 0 < n) (sym (f.node_count ∙ made.count)) some) in
      subst (λ (v : NodeView). IsLineSize v.levels.line_bytes) (made.first.nodes 0 some) sound.levels.line_bytes

  wide : 0 < config.line
  wide = let low = size.low in omega (arith, low)

  mapped : shape.mapped ≡ is_mapped image
  mapped = mapped-spans image order copy made.copied made.spans

  past : (p : ℕ) → config.processors ≤ p → IsNothing ((system_of meaning f).nodes p)
  past p beyond = nothing-past f.nodes p (omega (arith, beyond, f.node_count, made.count))

  pub made-whole : IsWhole shape 0 (system_of meaning f)
  made-whole = whole-first stay free current image config (system_of meaning f) some made.first shape made.count made.line wide mapped past (subst IsLineSize (sym made.line) size) made.ticks

  pub made-start : IsStart image config (store_of shape 0 (system_of meaning f))
  made-start = start-first stay free current image config (system_of meaning f) some made.first shape made.count made.line wide mapped past

  pub made-small : (a : ℕ) → byte_at shape (system_of meaning f) a < 256
  made-small = small-first stay free current image config (system_of meaning f) some made.first shape made.count made.line wide
