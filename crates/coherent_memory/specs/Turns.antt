-- A tick: each node has its turn, one after the other, and then the carrier ticks.
use Rattle.std.specs.Prelude.{◌≡◌, ℕ, zero, suc, Bool, true, false, ◌&&◌, List, [], ◌++◌, drop, slice_get, option_map, Option, None, Some}
use Rattle.std.specs.List.{remove}
use Rattle.rsim_base.specs.declared.memory.Line.{Line}
use Rattle.rsim_base.specs.declared.memory.Node.{Node}
use Rattle.memory_contracts.specs.Carrier.{CarrierTicks, CarrierView, Flight, after_send, class_of, is_full, next_for}
use Rattle.memory_contracts.specs.Protocol.Events.{is_to_home}
use Rattle.memory_contracts.specs.Letters.{Mail, kind_of, letter_of, message_of, said}
use Rattle.memory_contracts.specs.Updates.{with_at}
use Rattle.memory_contracts.specs.declared.message.Message.{Message}
use Rattle.directory.specs.Homes.{HomeView, Serves, first_outgoing, has_room, home_after, mail_of}
use Rattle.node_memory.specs.Nodes as node
use Rattle.node_memory.specs.Nodes.{NodeView, left_from, without_first_mail}
use Rattle.node_memory.specs.Rows.{after_message, lost_at}
use Rattle.node_memory.specs.Starting.{begins}
use Rattle.coherent_memory.specs.Systems.{System}

abbrev pub with_home : ℕ → HomeView → System → System
with_home p home s = record s { homes = with_at s.homes p home }

abbrev pub with_node : ℕ → NodeView → System → System
with_node p v s = record s { nodes = with_at s.nodes p v }

abbrev pub with_carrier : CarrierView → System → System
with_carrier carrier s = record s { carrier = carrier }

-- ---- node p begins: lines come near, and the first wish starts if it may

abbrev pub begun : ℕ → ℕ → System → System
begun p now s = with_node p (begins now (s.nodes p)).after s

abbrev pub lost_at_begin : ℕ → ℕ → System → List (Node × Line)
lost_at_begin p now s = left_from (s.nodes p).at (begins now (s.nodes p)).lost

-- ---- one message is taken

-- as often as the line is idle and a request waits for it, the first is served
pub data ServesAll (line now : ℕ) : HomeView → HomeView → Type 0 where
  none : {v w : HomeView} → Serves line now v w false → ServesAll line now v w
  more : {u v w : HomeView} → Serves line now u v true → ServesAll line now v w → ServesAll line now u w

-- the home of node p takes the message, and then serves what waits for its line
abbrev pub HomeTakes : ℕ → ℕ → Message → System → System → Type 0
HomeTakes p now m s t =
    (home : HomeView) × ServesAll m.line.0 now (home_after (letter_of m) now (s.homes p)) home × (t ≡ with_home p home s)

abbrev pub node_takes : ℕ → Message → System → System
node_takes p m s = with_node p (after_message (letter_of m) (s.nodes p)) s

-- the message of this place was taken off
abbrev pub without_flight : ℕ → System → System
without_flight i s = with_carrier (record (s.carrier) { flights = remove s.carrier.flights i }) s

-- the home and the node both have room
abbrev pub rooms : ℕ → System → Bool
rooms p s = has_room (s.homes p) && node.has_room (s.nodes p)

pub data Receives (p now : ℕ) (s t : System) : List (Node × Line) → Type 0 where
  full : rooms p s ≡ false → t ≡ s → Receives p now s t []
  nothing : rooms p s ≡ true → next_for p s.carrier.flights ≡ None → t ≡ s → Receives p now s t []
  by_home : (i : ℕ) (f : Flight) → rooms p s ≡ true → next_for p s.carrier.flights ≡ Some i → slice_get s.carrier.flights i ≡ Some f → f.to ≡ p → is_to_home (said f.message) ≡ true → HomeTakes p now f.message (without_flight i s) t → Receives p now s t []
  by_node : (i : ℕ) (f : Flight) → rooms p s ≡ true → next_for p s.carrier.flights ≡ Some i → slice_get s.carrier.flights i ≡ Some f → f.to ≡ p → is_to_home (said f.message) ≡ false → t ≡ node_takes p f.message (without_flight i s) → Receives p now s t (left_from (s.nodes p).at (lost_at (letter_of f.message) (s.nodes p)))

-- ---- what is to be sent

-- the carrier has no room for what node p says
abbrev pub is_refused : ℕ → Mail → System → Bool
is_refused p mail s = is_full s.carrier p (class_of (kind_of mail.message))

abbrev pub posted : ℕ → Mail → System → System
posted p mail s = with_carrier (after_send s.carrier p mail.to (message_of p mail)) s

abbrev pub without_post : ℕ → System → System
without_post p s = with_home p (record (s.homes p) { outgoing = drop 1 (s.homes p).outgoing }) s

abbrev pub without_mail : ℕ → System → System
without_mail p s = with_node p (without_first_mail (s.nodes p)) s

-- the oldest message of the home that may go
abbrev pub next_post : ℕ → ℕ → System → Option Mail
next_post p now s = option_map mail_of (first_outgoing (s.homes p).latency now (s.homes p).outgoing)

abbrev pub next_mail : ℕ → System → Option Mail
next_mail p s = slice_get (s.nodes p).outbox 0

-- the messages go, the oldest first, up to one that the carrier refuses, or that may not go yet
pub data HomeSends (p now : ℕ) : System → System → Type 0 where
  ends : (s : System) → next_post p now s ≡ None → HomeSends p now s s
  refused : (s : System) (mail : Mail) → next_post p now s ≡ Some mail → is_refused p mail s ≡ true → HomeSends p now s s
  sends : (s t : System) (mail : Mail) → next_post p now s ≡ Some mail → is_refused p mail s ≡ false → HomeSends p now (without_post p (posted p mail s)) t → HomeSends p now s t

pub data NodeSends (p : ℕ) : System → System → Type 0 where
  ends : (s : System) → next_mail p s ≡ None → NodeSends p s s
  refused : (s : System) (mail : Mail) → next_mail p s ≡ Some mail → is_refused p mail s ≡ true → NodeSends p s s
  sends : (s t : System) (mail : Mail) → next_mail p s ≡ Some mail → is_refused p mail s ≡ false → NodeSends p (without_mail p (posted p mail s)) t → NodeSends p s t

-- ---- the turn of a node, and all turns

pub record Turn (p now : ℕ) (s t : System) (gone : List (Node × Line)) : Type 0 where
  -- after it has taken a message, and after its home has sent
  pub taken : System
  pub sent : System
  pub told : List (Node × Line)
  pub receives : Receives p now (begun p now s) taken told
  pub home : HomeSends p now taken sent
  pub node : NodeSends p sent t
  pub lost : gone ≡ lost_at_begin p now s ++ told

-- those of the first nodes, one after the other
pub data Turns (now : ℕ) (s : System) : ℕ → System → List (Node × Line) → Type 0 where
  before : Turns now s zero s []
  next : (p : ℕ) (t u : System) (lost more : List (Node × Line)) → Turns now s p t lost → Turn p now t u more → Turns now s (suc p) u (lost ++ more)

-- All nodes have had their turns, and the carrier has ticked; Moves says what that makes of what is under way.
pub record HasTicked (Moves : CarrierView → CarrierView → Type 0) (n now : ℕ) (s t : System) (gone : List (Node × Line)) : Type 0 where
  pub turned : System
  pub turns : Turns now s n turned gone
  pub carrier : CarrierTicks turned.carrier t.carrier
  pub moves : Moves turned.carrier t.carrier
  pub rest : t ≡ with_carrier t.carrier turned
