-- What a store begins with.
use Rattle.std.specs.Prelude.{◌≡◌, ℕ, ◌<◌, ◌^◌, false, []}
use Rattle.elf64_load.specs.Image.{ImageView, byte_at, is_mapped}
use Rattle.machine_config.specs.declared.config.Config.{Config}
use Rattle.memory_contracts.specs.Store.{StoreView}

-- Memory is that of the image, and no line is with a node or asked for.
pub record IsStart (image : ImageView) (config : Config) (v : StoreView) : Type 0 where
  pub bytes : (a : ℕ) → a < 2 ^ 64 → v.bytes a ≡ byte_at image a
  pub mapped : v.mapped ≡ is_mapped image
  pub held : (p l : ℕ) → v.held p l ≡ false
  pub near : (p l : ℕ) → v.near p l ≡ false
  pub owned : (p l : ℕ) → v.owned p l ≡ false
  pub wishes : (p : ℕ) → v.wishes p ≡ []
  pub nodes : v.nodes ≡ config.processors
  pub line_bytes : v.line_bytes ≡ config.line
  pub ticks : v.ticks ≡ 0
