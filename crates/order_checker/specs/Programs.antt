-- What a processor has made, as the code keeps it.
use Rattle.std.specs.Prelude.{◌≡◌, ℕ, ◌<◌, ◌≤◌, List, [], length, map, slice_get, Option, option_to_list, Ok}
use Rattle.rsim_base.specs.Made.{Made}
use Rattle.rsim_base.specs.declared.memory.Access.{Access}
use Rattle.order_axioms.specs.Counted.{counts}
use Rattle.order_axioms.specs.declared.counting.Fences.{Fences}
use Rattle.elf64_load.specs.Image.{ImageView}
use Rattle.sparc_meaning.specs.Accesses.{by_access}
use Rattle.sparc_meaning.specs.Arch.{IsSound}
use Rattle.sparc_meaning.specs.Run.{Ran}
use Rattle.sparc_meaning.specs.declared.acts.Act.{Act}
use Rattle.sparc_meaning.specs.declared.arch.Arch.{Arch}
use Rattle.order_checker.specs.Faults.{place_of, replayed}

-- what is kept of an access that a step makes: its place here, where there is one
abbrev pub kept : {A : Type 0} → Act → Option A → List A
kept act place = by_access [] (λ a. option_to_list place) act

-- the accesses that processor p has made, by where their lines stand and by the fences before them
pub record IsProgram (lines : List Access) (p : ℕ) (made : List Made) (places : List ℕ) (fences : List Fences) : Type 0 where
  pub count : length places ≡ length made
  pub stand : (i : ℕ) → i < length made → slice_get places i ≡ place_of lines p i
  pub fenced : map counts fences ≡ map (λ m. m.fences) made

-- a processor of n after k steps without a fault
pub record IsReplayed (image : ImageView) (n : ℕ) (lines : List Access) (p k : ℕ) (places : List ℕ) (fences : List Fences) : Type 0 where
  pub ran : Ran
  pub is : replayed image n lines p k ≡ Ok ran
  pub made : IsProgram lines p ran.accesses places fences

-- each count is at most so much
pub record AreAtMost (k : ℕ) (f : Fences) : Type 0 where
  pub ll : f.ll ≤ k
  pub sl : f.sl ≤ k
  pub ls : f.ls ≤ k
  pub ss : f.ss ≤ k

-- the same with the processor's state and the fences so far
pub record IsReplaying (image : ImageView) (n : ℕ) (lines : List Access) (p k : ℕ) (arch : Arch) (now : Fences) (places : List ℕ) (fences : List Fences) : Type 0 where
  pub so_far : IsReplayed image n lines p k places fences
  pub state : so_far.ran.state ≡ arch
  pub sound : IsSound arch
  pub fenced : so_far.ran.fences ≡ counts now
  pub few_fences : AreAtMost k now
  pub few : length so_far.ran.accesses ≤ k
