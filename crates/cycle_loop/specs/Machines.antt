-- A machine as the rules see it.
use Rattle.std.specs.Prelude.{◌≡◌, ℕ, ◌<◌, ◌^◌, List}
use Rattle.elf64_load.specs.Image.{ImageView, byte_at, is_mapped}
use Rattle.machine_config.specs.declared.config.Config.{Config}
use Rattle.memory_contracts.specs.Store.{StoreView}
use Rattle.order_log.specs.Log.{Place}
use Rattle.cycle_loop.specs.Machine.{MachineView}
use Rattle.cycle_loop.specs.Ready.{views_of}
use Rattle.cycle_loop.specs.declared.processor.Processor.{Processor}

abbrev pub machine_view : List Processor → StoreView → List Place → ℕ → MachineView
machine_view processors store log cycles = record { cores = views_of processors; store = store; log = log; cycles = cycles }

-- a store that a machine may be made over: memory is the image's
pub record Serves (image : ImageView) (config : Config) (v : StoreView) : Type 0 where
  pub bytes : (a : ℕ) → a < 2 ^ 64 → v.bytes a ≡ byte_at image a
  pub mapped : v.mapped ≡ is_mapped image
  pub nodes : v.nodes ≡ config.processors
  pub line_bytes : v.line_bytes ≡ config.line
  pub ticks : v.ticks ≡ 0
