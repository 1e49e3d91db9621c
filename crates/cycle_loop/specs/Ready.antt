-- What a machine keeps beside what stands in its order, so that each of its calls may be made.
use Rattle.std.specs.Prelude.{◌≡◌, ℕ, ◌+◌, ◌<◌, ◌≤◌, List, map, length, Some, slice_get, vec_len, vec_capacity}
use Rattle.std.specs.Coded.{Unit-prop, le_prop}
use Rattle.std.proofs.Math.Bool.{Bool-set}
use Rattle.std.proofs.Math.Nat.{ℕ_set}
use Rattle.rsim_base.specs.Limits.{max_processors}
use Rattle.sparc_meaning.specs.Arch.{IsPhase, IsSound}
use Rattle.sparc_meaning.specs.declared.arch.Arch.{Arch}
use Rattle.sparc_meaning.specs.declared.arch.ArchPhase.{ArchPhase}
use Rattle.sparc_meaning.specs.declared.arch.ArchPhase.TheVariants.{Run, Spill, Fill}
use Rattle.elf64_load.specs.Image.{ImageView, is_mapped}
use Rattle.memory_contracts.specs.Store.{StoreView}
use Rattle.cycle_loop.specs.Ranges.{IsKept}
use Rattle.cycle_loop.specs.Machine.{CoreView, MachineView}
use Rattle.cycle_loop.specs.Processors.{view_of}
use Rattle.cycle_loop.specs.declared.processor.Processor.{Processor}

abbrev pub views_of : List Processor → List CoreView
views_of processors = map view_of processors

-- a step makes one access at most, and a cycle one step
pub record IsCounted (cycles : ℕ) (c : CoreView) : Type 0 where
  pub accesses : c.accesses ≤ c.retired
  pub retired : c.retired ≤ cycles

abbrev pub AreCounted : ℕ → List CoreView → Type 0
AreCounted cycles cores = (p : ℕ) (c : CoreView) → slice_get cores p ≡ Some c → IsCounted cycles c

-- each output has room for what one step puts
abbrev pub HaveRoom : List Processor → Type 0
HaveRoom processors = (p : ℕ) (c : Processor) → slice_get processors p ≡ Some c → vec_len c.output + 21 ≤ vec_capacity c.output

-- The store has a node for each processor, and the image's addresses in lines of so many bytes; the counts are those of
-- the cycles.
pub record IsReady (image : ImageView) (line_bytes : ℕ) (m : MachineView) : Type 0 where
  pub nodes : m.store.nodes ≡ length m.cores
  pub most : length m.cores ≤ max_processors
  pub mapped : m.store.mapped ≡ is_mapped image
  pub line : line_bytes ≡ m.store.line_bytes
  pub some : 0 < line_bytes
  pub ticks : m.store.ticks ≡ m.cycles
  pub kept : IsKept m
  pub counted : AreCounted m.cycles m.cores

-- a store that all processors may use
pub record MayUseAll (image : ImageView) (v : StoreView) (line_bytes n : ℕ) : Type 0 where
  pub nodes : v.nodes ≡ n
  pub most : n ≤ max_processors
  pub mapped : v.mapped ≡ is_mapped image
  pub line : line_bytes ≡ v.line_bytes
  pub some : 0 < line_bytes

-- ---- it has one proof at most

IsPhase-prop : (phase : ArchPhase) (cansave canrestore : ℕ) → IsProp (IsPhase phase cansave canrestore)
IsPhase-prop Run cansave canrestore = Unit-prop
IsPhase-prop (Spill k) cansave canrestore = hlevel (le_prop)
IsPhase-prop (Fill k) cansave canrestore = hlevel (le_prop)

IsSound-prop : (s : Arch) → IsProp (IsSound s)
IsSound-prop s = hlevel (le_prop, ℕ_set, IsPhase-prop)

pub IsReady-prop : (image : ImageView) (line_bytes : ℕ) (m : MachineView) → IsProp (IsReady image line_bytes m)
IsReady-prop image line_bytes m = hlevel (le_prop, ℕ_set, Bool-set, IsSound-prop)
