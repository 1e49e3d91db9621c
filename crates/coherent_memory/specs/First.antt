-- What the whole memory begins with.
use Rattle.std.specs.Prelude.{◌≡◌, ℕ, ◌<◌, []}
use Rattle.elf64_load.specs.Image.{ImageView}
use Rattle.machine_config.specs.declared.config.Config.{Config}
use Rattle.directory.specs.Start.{IsStart}
use Rattle.node_memory.specs.Nodes.{empty_node}
use Rattle.coherent_memory.specs.Systems.{System}

-- every home has the image's lines, no node has any, and no message is under way
pub record IsFirst (image : ImageView) (config : Config) (s : System) : Type 0 where
  pub homes : (p : ℕ) → p < config.processors → IsStart image config p (s.homes p)
  pub nodes : (p : ℕ) → p < config.processors → s.nodes p ≡ empty_node config p
  pub flights : s.carrier.flights ≡ []
