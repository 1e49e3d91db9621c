-- The run of a machine, as the states that it has been in.
use Rattle.std.specs.Prelude.{◌≡◌, ◌⊎◌, ℕ, ◌+◌, ◌≤◌, true, false, List, [], ◌∷◌, length}
use Rattle.rsim_base.specs.declared.memory.Model.{Model}
use Rattle.elf64_load.specs.Image.{ImageView}
use Rattle.machine_config.specs.declared.config.Config.{Config}
use Rattle.memory_contracts.specs.Start.{IsStart}
use Rattle.cycle_loop.specs.Answers.{have_ended}
use Rattle.cycle_loop.specs.Machine.{CoreCycle, MachineView}
use Rattle.cycle_loop.specs.Ready.{AreCounted}
use Rattle.cycle_loop.specs.Stands.{Closed}
use Rattle.cycle_loop.specs.Start.{IsAtStart}
use Rattle.cycle_loop.specs.Waits.{StepsOrWaits}

-- a machine of the configuration before its first cycle: no processor has made a step, and none has a line
pub record IsMade (image : ImageView) (config : Config) (v : MachineView) : Type 0 where
  pub start : IsAtStart image v
  pub store : IsStart image config v.store
  pub count : length v.cores ≡ config.processors

-- A cycle of a machine whose processors have not all ended: each that has not makes one step, or lacks the line of its next.
pub record IsCycle (image : ImageView) (old new : MachineView) : Type 0 where
  pub going : have_ended old.cores ≡ false
  pub cycle : CoreCycle image old new
  pub steps : StepsOrWaits image old new

-- the states that a machine has been in since the first, the newest first: each comes of a cycle from the one behind it
abbrev pub IsRun : ImageView → MachineView → List MachineView → Type 0
IsRun image first [] = ⊥
IsRun image first (v ∷ []) = v ≡ first
IsRun image first (w ∷ v ∷ vs) = IsCycle image v w × IsRun image first (v ∷ vs)

-- a run has led from the one to the other, a cycle from state to state
pub record HasCycled (image : ImageView) (first last : MachineView) : Type 0 where
  pub earlier : List MachineView
  pub run : IsRun image first (last ∷ earlier)
  pub count : last.cycles ≡ first.cycles + length earlier

-- ...until so many cycles had run, or each processor had ended
pub record RunsOn (image : ImageView) (cycles : ℕ) (first last : MachineView) : Type 0 where
  pub ran : HasCycled image first last
  pub within : first.cycles ≤ cycles → last.cycles ≤ cycles
  pub over : first.cycles ≤ cycles → (last.cycles ≡ cycles) ⊎ (have_ended last.cores ≡ true)

-- A machine of the image and the configuration that has run so, and is closed: its order fits under every model, since each
-- processor has made its steps one after the other.
pub record HasRun (image : ImageView) (config : Config) (cycles : ℕ) (last : MachineView) : Type 0 where
  pub first : MachineView
  pub made : IsMade image config first
  pub ran : HasCycled image first last
  pub count : length last.cores ≡ config.processors
  pub within : last.cycles ≤ cycles
  pub over : (last.cycles ≡ cycles) ⊎ (have_ended last.cores ≡ true)
  pub counted : AreCounted last.cycles last.cores
  pub closed : (model : Model) → Closed image model [] last
