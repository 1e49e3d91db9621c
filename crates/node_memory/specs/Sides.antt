-- A node as the protocol sees it: by line what it has and whether it waits, and what it has to send.
use Rattle.std.specs.Prelude.{◌≡◌, ℕ, ◌%◌, ◌==◌, Bool, true, false, List, [], ◌∷◌, ◌++◌, map}
use Rattle.std.specs.List.{Contains}
use Rattle.memory_contracts.specs.Protocol.Lines.{Copy}
use Rattle.memory_contracts.specs.Protocol.Messages.{Message, get}
use Rattle.memory_contracts.specs.Protocol.NodeTable.{NodeStep, evicted, is_held, may_start, node_takes, put_back}
use Rattle.memory_contracts.specs.Letters.{Letter, Mail}
use Rattle.memory_contracts.specs.Store.{Wish}
use Rattle.memory_contracts.specs.Updates.{with_at}
use Rattle.node_memory.specs.Nodes.{NodeView, awaits, copy_of}

pub record Side : Type 0 where
  pub nodes : ℕ
  pub copies : ℕ → Copy
  pub registers : ℕ → Bool
  pub outbox : List Mail

abbrev pub side_of : NodeView → Side
side_of v = record { nodes = v.nodes; copies = copy_of v; registers = awaits v; outbox = v.outbox }

-- with these messages to the home of the line
abbrev pub sends : ℕ → List Message → Side → Side
sends line messages s = record s { outbox = s.outbox ++ map (λ m. record { line = line; to = line % s.nodes; message = m }) messages }

-- ---- a message: the row of the protocol's table for its line, and no other line changes

abbrev pub takes_step : ℕ → NodeStep → Side → Side
takes_step line step s =
    sends line step.sent (record s { copies = with_at s.copies line step.copy; registers = with_at s.registers line step.register })

abbrev pub takes_message : Letter → Side → Side
takes_message m s = takes_step m.line (node_takes m.message (s.copies m.line) (s.registers m.line)) s

-- ---- a wish

abbrev pub evicts_line : ℕ → Side → Side
evicts_line line s = sends line (put_back (s.copies line)) (record s { copies = with_at s.copies line (evicted (s.copies line)) })

abbrev pub asks_for : ℕ → Bool → Side → Side
asks_for line own s = sends line (get own ∷ []) (record s { registers = with_at s.registers line true })

-- the wish may start: the copy allows it, and the line is not awaited
pub record MayStart (w : Wish) (s : Side) : Type 0 where
  pub copy : may_start w.own (s.copies w.line) ≡ true
  pub register : s.registers w.line ≡ false

-- another line may leave: it is held, and not awaited
pub record MayLeave (line victim : ℕ) (s : Side) : Type 0 where
  pub other : (victim == line) ≡ false
  pub held : is_held (s.copies victim) ≡ true
  pub register : s.registers victim ≡ false

-- what a node that has these wishes may do as it begins its part of a tick, and which lines leave it
pub data Begins (wishes : List Wish) (old new : Side) : List ℕ → Type 0 where
  -- nothing that the protocol sees
  stays : new ≡ old → Begins wishes old new []
  -- a wish starts, and no line leaves
  starts : (w : Wish) → Contains wishes w → MayStart w old → new ≡ asks_for w.line w.own old → Begins wishes old new []
  -- a wish starts, and a line leaves for it
  evicts : (w : Wish) (victim : ℕ) → Contains wishes w → MayStart w old → MayLeave w.line victim old → new ≡ asks_for w.line w.own (evicts_line victim old) → Begins wishes old new (victim ∷ [])
