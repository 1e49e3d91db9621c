-- Which lines leave the nodes that hold them, in a turn and in the turns of the first nodes.
use Rattle.std.specs.Prelude.{◌≡◌, ◌≢◌, ℕ, suc, ◌*◌, ◌<◌, ◌≤◌, Bool, true, ◌&&◌, not, List, ◌++◌, length}
use Rattle.rsim_base.specs.declared.memory.Line.{Line}
use Rattle.rsim_base.specs.declared.memory.Node.{Node}
use Rattle.memory_contracts.specs.Protocol.NodeTable.{is_held}
use Rattle.memory_contracts.specs.Store.{are_once, is_among}
use Rattle.node_memory.specs.Nodes.{copy_of}
use Rattle.node_memory.specs.Sound.{IsSound}
use Rattle.coherent_memory.specs.SystemInvariants.{IsFine}
use Rattle.coherent_memory.specs.Systems.{System}
use Rattle.coherent_memory.specs.Turns.{Turn, begun}

abbrev pub holds : System → ℕ → ℕ → Bool
holds s p l = is_held (copy_of (s.nodes p) l)

-- these are the lines that left the nodes that held them, each once
pub record AreGone (s t : System) (gone : List (Node × Line)) : Type 0 where
  pub exactly : (p l : ℕ) → is_among gone p l ≡ (holds s p l && not (holds t p l))
  pub once : are_once gone ≡ true

-- only node p changes, and at most two lines leave it
pub record AreGoneFrom (p : ℕ) (s t : System) (gone : List (Node × Line)) : Type 0 where
  pub told : AreGone s t gone
  pub others : (q : ℕ) → q ≢ p → t.nodes q ≡ s.nodes q
  pub few : length gone ≤ 2

-- only the first m nodes change, and at most two lines leave each
pub record AreGoneBelow (m : ℕ) (s t : System) (gone : List (Node × Line)) : Type 0 where
  pub told : AreGone s t gone
  pub others : (q : ℕ) → m ≤ q → t.nodes q ≡ s.nodes q
  pub few : length gone ≤ 2 * m

-- a turn tells the lines that leave its node
abbrev pub TurnTells : Type 0
TurnTells =
    (n p now : ℕ) (s t : System) (gone : List (Node × Line))
    → IsFine n s
    → IsSound (s.nodes p)
    → IsSound ((begun p now s).nodes p)
    → p < n
    → Turn p now s t gone
    → AreGoneFrom p s t gone

-- and the turns of the first nodes all that leave them
abbrev pub TurnsTell : Type 0
TurnsTell =
    (p : ℕ) (s t u : System) (gone more : List (Node × Line))
    → AreGoneBelow p s t gone
    → AreGoneFrom p t u more
    → AreGoneBelow (suc p) s u (gone ++ more)
