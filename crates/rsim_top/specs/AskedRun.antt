-- The run that a command asks for.
use Rattle.std.specs.Prelude.{ℕ, List, Ok}
use Rattle.machine_config.specs.declared.config.Config.{Config}
use Rattle.machine_config.specs.Faults.{Reads}
use Rattle.elf64_load.specs.Image.{ImageView}
use Rattle.elf64_load.specs.Faults.{Loads}
use Rattle.cycle_loop.specs.Machine.{MachineView}
use Rattle.rsim_top.specs.Run.{HasRun}

-- the settings that a text gives, the image that a file gives, and a machine of both that has run
pub record AskedRun (cycles : ℕ) (text exe : List ℕ) : Type 0 where
  pub config : Config
  pub read : Reads text (Ok config)
  pub image : ImageView
  pub loaded : Loads exe (Ok image)
  pub machine : MachineView
  pub ran : HasRun image config cycles machine
