-- The state of one line of memory: what its home has noted, what each node has, and what is under way between them.
use Rattle.std.specs.Prelude.{ℕ, zero, suc, Bool, false, ◌&&◌, ◌||◌, not, ◌==◌, if◌then◌else◌, List, [], ◌∷◌, Option}
use Rattle.memory_contracts.specs.Protocol.Messages.{Message, GetS, GetM, Put, PutAck}

-- ---- the home

pub data Phase : Type 0 where
  -- no request is served
  Idle : Phase
  -- the line is to be owned by the first: these have still to say that they gave up their copies
  Collecting : ℕ → (ℕ → Bool) → Phase
  -- the line is called back from the first for the second, who asks to own it where true
  Recalling : ℕ → ℕ → Bool → Phase
  -- the line is on its way to a node
  Granting : ℕ → Phase

-- what the home of a line has noted of it
pub record HomeRecord : Type 0 where
  pub phase : Phase
  pub owner : Option ℕ
  pub sharers : ℕ → Bool
  pub memory : List ℕ

-- ---- the nodes

-- what a node has of the line, with its bytes
pub data Copy : Type 0 where
  Absent : Copy
  Shared : List ℕ → Copy
  Owned : List ℕ → Copy
  -- put back, and the home has not yet answered; with its bytes, or without as they have been recalled
  Evicting : List ℕ → Copy
  Emptied : Copy

-- a node, and what it has asked of the home: requests count while they are under way and while they wait at the home
pub record Stance : Type 0 where
  pub copy : Copy
  -- whether the node waits for the line
  pub register : Bool
  pub asked : List Message
  -- the answers to its giving back that are under way to it
  pub acks : ℕ

abbrev pub stance : Copy → Bool → List Message → ℕ → Stance
stance copy register asked acks = record { copy = copy; register = register; asked = asked; acks = acks }

-- a node with all that is under way between it and the home
pub record Cell : Type 0 where
  pub stance : Stance
  pub words : List Message

abbrev pub cell : Stance → List Message → Cell
cell s words = record { stance = s; words = words }

pub record LineState : Type 0 where
  pub home : HomeRecord
  pub at : ℕ → Cell

-- ---- messages under way

-- one message more between the home and this node
abbrev pub mailed : Message → Cell → Cell
mailed GetS c = cell (record c.stance { asked = GetS ∷ c.stance.asked }) c.words
mailed GetM c = cell (record c.stance { asked = GetM ∷ c.stance.asked }) c.words
mailed (Put bytes) c = cell (record c.stance { asked = Put bytes ∷ c.stance.asked }) c.words
mailed PutAck c = cell (record c.stance { acks = suc c.stance.acks }) c.words
mailed m c = cell c.stance (m ∷ c.words)

abbrev pub all_mailed : List Message → Cell → Cell
all_mailed [] c = c
all_mailed (m ∷ ms) c = mailed m (all_mailed ms c)

-- the line with one message more, between the home and node x
abbrev pub with_mail : ℕ → Message → LineState → LineState
with_mail x m l = record { home = l.home; at = λ y. if x == y then mailed m (l.at y) else l.at y }

-- the line with another cell at node x
abbrev pub with_cell : ℕ → Cell → LineState → LineState
with_cell x c l = record { home = l.home; at = λ y. if x == y then c else l.at y }

-- the line where node x stands otherwise
abbrev pub with_stance : ℕ → Stance → LineState → LineState
with_stance x s l = with_cell x (cell s (l.at x).words) l

-- ---- sets of nodes

abbrev pub nobody : ℕ → Bool
nobody y = false

-- with x
abbrev pub joined : ℕ → (ℕ → Bool) → ℕ → Bool
joined x set y = (x == y) || set y

-- without x
abbrev pub besides : ℕ → (ℕ → Bool) → ℕ → Bool
besides x set y = not (x == y) && set y

-- whether one of the n nodes is in the set
abbrev pub is_some_node : ℕ → (ℕ → Bool) → Bool
is_some_node zero set = false
is_some_node (suc n) set = set n || is_some_node n set
