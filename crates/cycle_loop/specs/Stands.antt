-- What is true of a machine between two cycles, and of one that is closed. `taken` are the accesses that were taken out of
-- its log, in order.
use Rattle.std.specs.Prelude.{◌≡◌, ◌⊎◌, ℕ, ◌<◌, ◌≤◌, ◌^◌, true, false, List, [], ◌++◌, map, length, slice_get, Some}
use Rattle.std.specs.List.{All, Contains}
use Rattle.rsim_base.specs.Accesses.{loads, stores}
use Rattle.rsim_base.specs.Made.{Made}
use Rattle.rsim_base.specs.declared.memory.Access.{Access}
use Rattle.rsim_base.specs.declared.memory.Model.{Model}
use Rattle.elf64_load.specs.Image.{ImageView}
use Rattle.order_axioms.specs.Axioms.{needs}
use Rattle.order_certificate.specs.OrderText.{IsPrintable}
use Rattle.order_checker.specs.Fit.{Fit}
use Rattle.order_checker.specs.Values.{Explains}
use Rattle.order_checker.specs.Walking.{written_byte}
use Rattle.sparc_meaning.specs.Arch.{IsSound}
use Rattle.sparc_meaning.specs.Run.{Ran, run}
use Rattle.cycle_loop.specs.Answers.{all_retired}
use Rattle.cycle_loop.specs.Machine.{CoreView, MachineView}

-- the order so far: what was taken out, and then what the log has
abbrev pub order_so_far : List Access → MachineView → List Access
order_so_far taken m = taken ++ map (λ x. x.access) m.log

-- a line of an order can tell the access: its numbers fit there, and the value that its kind lacks is 0
pub record IsTold (e : Access) : Type 0 where
  pub printable : IsPrintable e
  pub loaded : loads e.kind ≡ false → e.loaded ≡ 0
  pub stored : stores e.kind ≡ false → e.stored ≡ 0

-- by the number of the access, the values that a program has loaded; the value of one that loads nothing is not used
abbrev pub loaded_values : List Made → List ℕ
loaded_values made = map (λ m. m.access.loaded) made

-- Processor p of n: its retired steps are a run on the values that they have loaded, and the order has each of its accesses
-- once, with this value, in places that keep the model.
pub record IsRunOf (image : ImageView) (model : Model) (n : ℕ) (order : List Access) (p : ℕ) (c : CoreView) : Type 0 where
  pub ran : Ran
  pub has_run : run image p n c.retired (loaded_values ran.accesses) ≡ Some ran
  pub numbered : (i : ℕ) (m : Made) → slice_get ran.accesses i ≡ Some m → (m.access.node.0 ≡ p) × (m.access.index ≡ i)
  pub state : ran.state ≡ c.arch
  pub output : ran.output ≡ c.output
  pub count : length ran.accesses ≡ c.accesses
  pub sound : IsSound c.arch
  -- what stands in the order it has made
  pub made : (j : ℕ) (e : Access) → slice_get order j ≡ Some e → e.node.0 ≡ p → (m : Made) × (slice_get ran.accesses e.index ≡ Some m) × (m.access ≡ e)
  -- what it has made stands there, or is a store that waits to be performed
  pub all : (i : ℕ) (m : Made) → slice_get ran.accesses i ≡ Some m → ((j : ℕ) × (slice_get order j ≡ Some m.access)) ⊎ Contains c.waiting m
  pub once : (j k : ℕ) (e f : Access) → slice_get order j ≡ Some e → slice_get order k ≡ Some f → e.node.0 ≡ p → f.node.0 ≡ p → e.index ≡ f.index → j ≡ k
  -- what must stand before an access that stands there does so
  pub ordered : (k : ℕ) (f : Access) (i : ℕ) (x y : Made) → slice_get order k ≡ Some f → f.node.0 ≡ p → i < f.index → slice_get ran.accesses i ≡ Some x → slice_get ran.accesses f.index ≡ Some y
      → needs model x y ≡ true → (j : ℕ) × (slice_get order j ≡ Some x.access) × (j < k)
  -- this machine performs each store as it retires it
  pub none_waits : c.waiting ≡ []

pub record Stands (image : ImageView) (model : Model) (taken : List Access) (m : MachineView) : Type 0 where
  pub runs : (p : ℕ) (c : CoreView) → slice_get m.cores p ≡ Some c → IsRunOf image model (length m.cores) (order_so_far taken m) p c
  pub nodes : (j : ℕ) (e : Access) → slice_get (order_so_far taken m) j ≡ Some e → e.node.0 < length m.cores
  pub retired : All (λ x. x.retired ≡ true) m.log
  pub told : (j : ℕ) (e : Access) → slice_get (order_so_far taken m) j ≡ Some e → IsTold e
  -- no more accesses than steps
  pub few : length (order_so_far taken m) ≤ all_retired m.cores
  -- each loaded value is what its sources have written, and memory is what all have written
  pub explains : Explains image (order_so_far taken m)
  pub memory : (a : ℕ) → a < 2 ^ 64 → m.store.bytes a ≡ written_byte image (order_so_far taken m) (length (order_so_far taken m)) a
  pub bytes : (a : ℕ) → a < 2 ^ 64 → m.store.bytes a < 256

-- A closed machine: each place is retired, and the order fits the retired steps.
pub record Closed (image : ImageView) (model : Model) (taken : List Access) (m : MachineView) : Type 0 where
  pub runs : List Ran
  pub fits : Fit image model (map (λ (c : CoreView). c.retired) m.cores) (order_so_far taken m) runs
  pub are_runs : (p : ℕ) (c : CoreView) (ran : Ran) → slice_get m.cores p ≡ Some c → slice_get runs p ≡ Some ran → (ran.state ≡ c.arch) × (ran.output ≡ c.output) × (length ran.accesses ≡ c.accesses)
  pub retired : All (λ x. x.retired ≡ true) m.log
  pub told : (j : ℕ) (e : Access) → slice_get (order_so_far taken m) j ≡ Some e → IsTold e
  pub few : length (order_so_far taken m) ≤ all_retired m.cores
