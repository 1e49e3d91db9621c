-- Orders that fit an executable: those that a machine may write for it.
use Rattle.std.specs.Prelude.{◌≡◌, ℕ, true, List, Some, length, map, slice_get}
use Rattle.rsim_base.specs.declared.memory.Access.{Access}
use Rattle.rsim_base.specs.declared.memory.Model.{Model}
use Rattle.elf64_load.specs.Image.{ImageView}
use Rattle.sparc_meaning.specs.Run.{Ran, run}
use Rattle.rsim_base.specs.Accesses.{loads}
use Rattle.order_checker.specs.Order.{Respects}
use Rattle.order_checker.specs.Values.{Explains}

-- The runs are those of so many steps of each processor on the values that the order says were loaded; the
-- order lists their accesses and keeps the model; and it explains each loaded value.
pub record Fit (image : ImageView) (model : Model) (steps : List ℕ) (order : List Access) (runs : List Ran) : Type 0 where
  -- by processor, the loaded values by the number of the access
  pub values : List (List ℕ)
  pub are_loaded : (j : ℕ) (e : Access) (vs : List ℕ) → slice_get order j ≡ Some e → loads e.kind ≡ true → slice_get values e.node.0 ≡ Some vs → slice_get vs e.index ≡ Some e.loaded
  pub have_values : length values ≡ length steps
  pub have_runs : length runs ≡ length steps
  pub are_run : (p k : ℕ) (vs : List ℕ) (ran : Ran) → slice_get steps p ≡ Some k → slice_get values p ≡ Some vs → slice_get runs p ≡ Some ran → run image p (length steps) k vs ≡ Some ran
  pub respects : Respects model (map (λ ran. ran.accesses) runs) order
  pub explains : Explains image order
