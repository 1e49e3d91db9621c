-- What each part of a command answers and leaves.
use Rattle.std.specs.Prelude.{◌≡◌, ◌⊎◌, ◌≤◌, ℕ, true, List, Option, Some, None, Result, Ok, Err, Vec}
use Rattle.command_words.specs.declared.read.RunWords.{RunWords}
use Rattle.command_words.specs.Asked.{RunAsked}
use Rattle.command_words.specs.Reading.{executable_of}
use Rattle.machine_config.specs.declared.config.Config.{Config}
use Rattle.machine_config.specs.Allowed.{IsAllowed, is_short}
use Rattle.machine_config.specs.Faults.{Reads}
use Rattle.memory_contracts.specs.declared.bag.BagCarrier.{BagCarrier}
use Rattle.coherent_memory.specs.declared.memory.CoherentMemory.{CoherentMemory}
use Rattle.cycle_loop.specs.Machine.{MachineView}
use Rattle.cycle_loop.specs.declared.machine.Machine.{Machine}
use Rattle.elf64_load.specs.Image.{ImageView}
use Rattle.elf64_load.specs.Faults.{Loads}
use Rattle.rsim_top.specs.declared.refusal.File.{File}
use Rattle.rsim_top.specs.declared.refusal.File.TheVariants as file
use Rattle.rsim_top.specs.declared.refusal.Refusal.{Refusal}
use Rattle.rsim_top.specs.declared.refusal.Refusal.TheVariants.{Write, Memory}
use Rattle.rsim_top.specs.Outside.{Shelf, Sink, HasFile, HasPrefixOfFile, HasWritten, HasPrefixWritten, MayFail}
use Rattle.rsim_top.specs.Machine.{shared_view}
use Rattle.rsim_top.specs.Run.{HasRun}
use Rattle.rsim_top.specs.Steps.{setup_refusal, image_refusal}
use Rattle.rsim_top.specs.TwoFiles.{IsFetched, fetch_refusal}

-- what words that were read ask for
abbrev pub asked_by : RunWords → RunAsked
asked_by w = record { executable = executable_of w.executable; config = w.config.now; cycles = w.cycles; order = w.order.now }

-- a file that was fetched, or why it was not
abbrev pub Fetches : {A : Type 0} → Shelf → Shelf → File → ℕ → List ℕ → Result (Vec ℕ A) Refusal → Type 0
Fetches old new which limit name (Ok bytes) = IsFetched old new name (Some bytes.items) × (fetch_refusal which limit (Some bytes.items) ≡ None)
Fetches old new which limit name (Err why) =
    (why ≡ Memory) ⊎ ((came : Option (List ℕ)) × IsFetched old new name came × (fetch_refusal which limit came ≡ Some why))

-- a text's settings, with which the run is short enough, or why they are refused
pub record AreSettings (cycles : ℕ) (text : List ℕ) (config : Config) : Type 0 where
  pub read : Reads text (Ok config)
  pub allowed : IsAllowed config
  pub short : is_short config cycles ≡ true
  pub none : setup_refusal cycles text ≡ None

abbrev pub SetsUp : ℕ → List ℕ → Result Config Refusal → Type 0
SetsUp cycles text (Ok config) = AreSettings cycles text config
SetsUp cycles text (Err why) = (why ≡ Memory) ⊎ (setup_refusal cycles text ≡ Some why)

-- a machine that has run the executable's image
pub record RanImage (exe : List ℕ) (config : Config) (cycles : ℕ) (v : MachineView) : Type 0 where
  pub image : ImageView
  pub loaded : Loads exe (Ok image)
  pub ran : HasRun image config cycles v

-- ...or why it was not run
abbrev pub Runs : {c b : _} → List ℕ → Config → ℕ → Result (Machine (CoherentMemory BagCarrier c) b) Refusal → Type 0
Runs exe config cycles (Ok m) = RanImage exe config cycles (shared_view m)
Runs exe config cycles (Err why) = (why ≡ Memory) ⊎ (image_refusal exe ≡ Some why)

-- the file of the order, as far as it was written
abbrev pub StoresOrder : Shelf → Shelf → List ℕ → List ℕ → Result (Unit {0}) Refusal → Type 0
StoresOrder old new name text (Ok _) = HasFile name text old.files new.files
StoresOrder old new name text (Err why) =
    HasPrefixOfFile name text old.files new.files × ((why ≡ Memory) ⊎ ((why ≡ Write file.Order) × MayFail old.is_sure old.faults new.faults))

-- the report, as far as it was written
abbrev pub PutsReport : Sink → Sink → List ℕ → Result (Unit {0}) Refusal → Type 0
PutsReport old new text (Ok _) = HasWritten text old.written new.written
PutsReport old new text (Err why) =
    HasPrefixWritten text old.written new.written × ((why ≡ Memory) ⊎ ((why ≡ Write file.Report) × MayFail old.is_sure old.faults new.faults))

-- the count of faults has not fallen, and the shelf is as sure as before
pub record Kept (old new : Shelf) : Type 0 where
  pub faults : old.faults ≤ new.faults
  pub is_sure : new.is_sure ≡ old.is_sure
