-- What may happen to a line of memory: one step at a time, in any order.
use Rattle.std.specs.Prelude.{◌≡◌, ℕ, ◌<◌, Bool, true, false, List, [], ◌∷◌, None}
use Rattle.machine_config.specs.declared.config.Protocol.{Protocol}
use Rattle.memory_contracts.specs.Protocol.Messages.{Message, GetS, GetM, Put, Inv, Recall, Grant, PutAck, InvAck, RecallAck, Done}
use Rattle.memory_contracts.specs.Protocol.Lines.{Idle, Absent, Owned, stance, cell, LineState, nobody, with_mail, with_cell, with_stance}
use Rattle.memory_contracts.specs.Protocol.HomeTable.{after_home}
use Rattle.memory_contracts.specs.Protocol.NodeTable.{after_message, after_start, after_eviction, after_write, may_start, is_held}

-- a line, and the bytes that are its content
pub record Moment : Type 0 where
  pub content : List ℕ
  pub line : LineState

-- each event with the node that it is about
pub data Event : Type 0 where
  -- the home takes a message of the node: from among those under way, or a request of it that has waited
  HomeTakes : ℕ → Message → Event
  -- the node takes a message of the home
  NodeTakes : ℕ → Message → Event
  -- the node starts a wish, to own the line where true
  Starts : ℕ → Bool → Event
  -- the node evicts its copy
  Evicts : ℕ → Event
  Reads : ℕ → Event
  -- the node changes bytes of the line
  Writes : ℕ → (List ℕ → List ℕ) → Event

-- whether the message is from a node to the home
abbrev pub is_to_home : Message → Bool
is_to_home GetS = true
is_to_home GetM = true
is_to_home (Put bytes) = true
is_to_home InvAck = true
is_to_home (RecallAck kept bytes) = true
is_to_home Done = true
is_to_home m = false

abbrev pub is_to_node : Message → Bool
is_to_node Inv = true
is_to_node (Recall own) = true
is_to_node (Grant own bytes) = true
is_to_node PutAck = true
is_to_node m = false

-- the line changes, and its content stays
abbrev pub becomes : LineState → Moment → Moment
becomes l before = record { content = before.content; line = l }

-- the event leads from the first moment to the second, among n nodes; rest is the line without the message that is taken
abbrev pub Leads : Protocol → ℕ → Event → Moment → Moment → Type 0
Leads protocol n (HomeTakes x m) u v =
    (rest : LineState) × (x < n) × (is_to_home m ≡ true) × (u.line ≡ with_mail x m rest) × (v ≡ becomes (after_home protocol n x m rest) u)
Leads protocol n (NodeTakes x m) u v =
    (rest : LineState) × (x < n) × (is_to_node m ≡ true) × (u.line ≡ with_mail x m rest) × (v ≡ becomes (with_cell x (after_message m (rest.at x)) rest) u)
Leads protocol n (Starts x own) u v =
    (x < n)
    × (may_start own (u.line.at x).stance.copy ≡ true)
    × ((u.line.at x).stance.register ≡ false)
    × (v ≡ becomes (with_stance x (after_start own (u.line.at x).stance) u.line) u)
Leads protocol n (Evicts x) u v = (x < n) × (v ≡ becomes (with_stance x (after_eviction (u.line.at x).stance) u.line) u)
Leads protocol n (Reads x) u v = (x < n) × (is_held (u.line.at x).stance.copy ≡ true) × (v ≡ u)
Leads protocol n (Writes x change) u v =
    (x < n)
    × (bytes : List ℕ)
    × ((u.line.at x).stance.copy ≡ Owned bytes)
    × (v ≡ record { content = change u.content; line = with_stance x (after_write (change bytes) (u.line.at x).stance) u.line })

-- these events lead from the first moment to the second
abbrev pub LeadTo : Protocol → ℕ → List Event → Moment → Moment → Type 0
LeadTo protocol n [] u v = v ≡ u
LeadTo protocol n (e ∷ es) u v = (w : Moment) × Leads protocol n e u w × LeadTo protocol n es w v

-- nobody has the line or has asked for it, and its bytes are in memory
abbrev pub start : List ℕ → LineState
start bytes = record {
  home = record { phase = Idle; owner = None; sharers = nobody; memory = bytes };
  at = λ x. cell (stance Absent false [] 0) [];
}

-- ---- the content alone

abbrev pub content_after : Event → List ℕ → List ℕ
content_after (Writes x change) g = change g
content_after e g = g

abbrev pub content_after_all : List Event → List ℕ → List ℕ
content_after_all [] g = g
content_after_all (e ∷ es) g = content_after_all es (content_after e g)
