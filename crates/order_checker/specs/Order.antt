-- Orders of accesses: whether one lists what programs have made, and keeps a consistency model.
use Rattle.std.specs.Prelude.{◌≡◌, ℕ, ◌<◌, true, List, Option, Some, slice_get, option_and_then}
use Rattle.rsim_base.specs.declared.memory.Access.{Access}
use Rattle.rsim_base.specs.declared.memory.Model.{Model}
use Rattle.rsim_base.specs.Made.{Made}
use Rattle.order_axioms.specs.Axioms.{needs}

-- access i of program p
abbrev pub made_at : List (List Made) → ℕ → ℕ → Option Made
made_at programs p i = option_and_then (λ made. slice_get made i) (slice_get programs p)

-- an entry of an order is the access: the same number of the same program, kind, size, address and stored
-- value
pub record IsEntryOf (access entry : Access) : Type 0 where
  pub node : entry.node ≡ access.node
  pub index : entry.index ≡ access.index
  pub kind : entry.kind ≡ access.kind
  pub size : entry.size ≡ access.size
  pub addr : entry.addr ≡ access.addr
  pub stored : entry.stored ≡ access.stored

-- The order lists each access of the programs once and nothing else, and keeps the model: an access that
-- must stand before a later one of its program does so.
pub record Respects (model : Model) (programs : List (List Made)) (order : List Access) : Type 0 where
  pub made : (j : ℕ) (e : Access) → slice_get order j ≡ Some e → (m : Made) × (made_at programs e.node.0 e.index ≡ Some m) × IsEntryOf m.access e
  pub all : (p i : ℕ) (m : Made) → made_at programs p i ≡ Some m → (j : ℕ) × (e : Access) × (slice_get order j ≡ Some e) × (e.node.0 ≡ p) × (e.index ≡ i)
  pub once : (j k : ℕ) (e f : Access) → slice_get order j ≡ Some e → slice_get order k ≡ Some f → e.node.0 ≡ f.node.0 → e.index ≡ f.index → j ≡ k
  pub ordered : (j k : ℕ) (e f : Access) (x y : Made) → slice_get order j ≡ Some e → slice_get order k ≡ Some f → e.node.0 ≡ f.node.0 → e.index < f.index
      → made_at programs e.node.0 e.index ≡ Some x → made_at programs f.node.0 f.index ≡ Some y → needs model x y ≡ true → j < k
