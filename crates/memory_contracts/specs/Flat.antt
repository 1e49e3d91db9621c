-- A store without caches: each line is with one node at a time.
use Rattle.std.specs.Prelude.{ℕ, zero, suc, ◌+◌, ◌==◌, Bool, false, if◌then◌else◌, List, [], ◌∷◌, ◌++◌, Option, None, Some}
use Rattle.std.specs.List.{list_any}
use Rattle.rsim_base.specs.declared.memory.Line.{Line}
use Rattle.rsim_base.specs.declared.memory.Node.{Node}
use Rattle.memory_contracts.specs.Store.{StoreView, Wish}

-- the whole state of such a store
pub record FlatView : Type 0 where
  -- memory: the byte at each address, and which addresses have one
  pub bytes : ℕ → ℕ
  pub mapped : ℕ → Bool
  -- the node that has each line, if one has it
  pub owner : ℕ → Option Node
  -- by node, the oldest first
  pub wishes : ℕ → List Wish
  pub nodes : ℕ
  pub line_bytes : ℕ
  pub ticks : ℕ

-- node p has what has this owner
abbrev pub is_at : Option Node → ℕ → Bool
is_at None p = false
is_at (Some q) p = q.0 == p

-- A node that has a line may read it and write it.
abbrev pub store_of : FlatView → StoreView
store_of v = record {
  bytes = v.bytes;
  mapped = v.mapped;
  held = λ p l. is_at (v.owner l) p;
  near = λ p l. is_at (v.owner l) p;
  owned = λ p l. is_at (v.owner l) p;
  wishes = v.wishes;
  nodes = v.nodes;
  line_bytes = v.line_bytes;
  ticks = v.ticks;
}

-- ---- a tick

-- who has each line, and the wishes of each node, in a tick in which these lines have moved already
pub record Moves : Type 0 where
  pub owner : ℕ → Option Node
  pub wishes : ℕ → List Wish
  pub moved : List Line
  -- the lines that left a node, and the node
  pub lost : List (Node × Line)

abbrev pub line_named : ℕ → Line
line_named line = record { 0 = line }

-- what a line that moves leaves
abbrev pub left_by : Option Node → ℕ → List (Node × Line)
left_by None line = []
left_by (Some q) line = (q, line_named line) ∷ []

-- the line moves to node p
abbrev pub given : ℕ → ℕ → Moves → Moves
given p line m = record {
  owner = λ l. if l == line then Some (record { 0 = p }) else m.owner l;
  wishes = m.wishes;
  moved = m.moved ++ line_named line ∷ [];
  lost = m.lost ++ left_by (m.owner line) line;
}

-- node p has these wishes left
abbrev pub with_left : ℕ → List Wish → Moves → Moves
with_left p ws m = record m { wishes = λ q. if q == p then ws else m.wishes q }

-- the line has moved in this tick
abbrev pub has_moved : ℕ → Moves → Bool
has_moved line m = list_any (λ l. l.0 == line) m.moved

-- In its turn a node gets the line that its oldest wish asks for, and the wish is taken off. A line moves once in a tick:
-- a wish for one that has moved waits. To give a line to the node that has it is no move.
abbrev pub turn_with : ℕ → List Wish → Moves → Moves
turn_with p [] m = m
turn_with p (w ∷ ws) m =
    if has_moved w.line m then m
    else if is_at (m.owner w.line) p then with_left p ws m
    else given p w.line (with_left p ws m)

abbrev pub turn : ℕ → Moves → Moves
turn p m = turn_with p (m.wishes p) m

-- the turns of the nodes below n, in rising order
abbrev pub turns : ℕ → Moves → Moves
turns zero m = m
turns (suc n) m = turn n (turns n m)

-- before the first turn
abbrev pub first_moves : (ℕ → Option Node) → (ℕ → List Wish) → Moves
first_moves owner wishes = record { owner = owner; wishes = wishes; moved = []; lost = [] }

-- the moves of one tick
abbrev pub exchanged : FlatView → Moves
exchanged v = turns v.nodes (first_moves v.owner v.wishes)

-- the store after it
abbrev pub ticked : FlatView → FlatView
ticked v = record v { owner = (exchanged v).owner; wishes = (exchanged v).wishes; ticks = v.ticks + 1 }
