-- A machine before its first cycle.
use Rattle.std.specs.Prelude.{◌≡◌, ℕ, ◌^◌, ◌<◌, List, [], length, Some, slice_get}
use Rattle.elf64_load.specs.Image.{ImageView, byte_at}
use Rattle.sparc_meaning.specs.Arch.{boot}
use Rattle.cycle_loop.specs.Machine.{CoreView, MachineView}

-- processor p of n before its first step
abbrev pub booted : ImageView → ℕ → ℕ → CoreView
booted image n p = record { arch = boot image p n; retired = 0; accesses = 0; output = []; waiting = [] }

abbrev pub AreBooted : ImageView → ℕ → List CoreView → Type 0
AreBooted image n cores = (p : ℕ) (c : CoreView) → slice_get cores p ≡ Some c → c ≡ booted image n p

-- No processor has made a step, and memory is the image's.
pub record IsAtStart (image : ImageView) (m : MachineView) : Type 0 where
  pub cores : AreBooted image (length m.cores) m.cores
  pub log : m.log ≡ []
  pub memory : (a : ℕ) → a < 2 ^ 64 → m.store.bytes a ≡ byte_at image a
  pub bytes : (a : ℕ) → a < 2 ^ 64 → m.store.bytes a < 256
  pub cycles : m.cycles ≡ 0
