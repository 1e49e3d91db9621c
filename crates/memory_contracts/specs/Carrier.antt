-- What a carrier of messages means: the messages that are under way between nodes of a mesh, in the order of their sending.
use Rattle.std.specs.Prelude.{◌≡◌, ℕ, ◌+◌, ◌/◌, ◌%◌, ◌<◌, ◌≤◌, ◌==◌, nat_le, Bool, true, false, ◌&&◌, if◌then◌else◌, List, [], ◌∷◌, ◌++◌, length, map, slice_get, Option, None, Some, is_some}
use Rattle.std.specs.Int.{abs_diff, div_ceil}
use Rattle.std.specs.Option.{option_or}
use Rattle.std.specs.List.{filter, position, remove}
use Rattle.memory_contracts.specs.declared.message.Class.{Class}
use Rattle.memory_contracts.specs.declared.message.Class.TheVariants.{Ask, Order, Give, Reply}
use Rattle.memory_contracts.specs.declared.message.Message.{Message}
use Rattle.memory_contracts.specs.declared.message.MsgKind.{MsgKind}
use Rattle.memory_contracts.specs.declared.message.MsgKind.TheVariants.{GetS, GetM, Put, Inv, Recall, Grant, PutAck, InvAck, RecallAck, Done}

-- ---- what a net of routers tells of itself

-- the ports of a router: one to its own node, four to its neighbours
pub data Port : Type 0 where
  Here : Port
  North : Port
  South : Port
  East : Port
  West : Port

-- the name of a message under way: the tick in which it was sent, and its place among those that were
pub record Name : Type 0 where
  pub start : ℕ
  pub place : ℕ

pub record NetView : Type 0 where
  -- how many flits of a class stand at a port
  pub depth : ℕ
  -- the messages whose flits stand at a port of a router, by class: a name for each flit, the first first
  pub queue : ℕ → Port → Class → List Name
  -- the port that an output of a router served last
  pub turn : ℕ → Port → Port

-- ---- messages under way

-- a message under way
pub record Flight : Type 0 where
  pub source : ℕ
  pub to : ℕ
  -- in flits
  pub length : ℕ
  -- the tick in which it was sent
  pub start : ℕ
  pub message : Message
  -- whether the whole of it has arrived
  pub arrived : Bool
  -- its place among those that were sent in its tick, where the carrier tells of its net
  pub place : ℕ
  -- of its flits, how many have left the room of its node, and how many have arrived
  pub left : ℕ
  pub came : ℕ

pub record CarrierView : Type 0 where
  -- in the order of their sending
  pub flights : List Flight
  pub ticks : ℕ
  pub nodes : ℕ
  -- how many nodes stand in a row of the mesh
  pub width : ℕ
  pub flit_bytes : ℕ
  pub line_bytes : ℕ
  -- the routers, where the carrier tells of them
  pub net : Option NetView

-- ---- messages

abbrev pub class_of : MsgKind → Class
class_of GetS = Ask
class_of GetM = Ask
class_of Put = Ask
class_of Inv = Order
class_of Recall = Order
class_of Grant = Give
class_of PutAck = Give
class_of InvAck = Reply
class_of RecallAck = Reply
class_of Done = Reply

-- from the lowest to the highest
abbrev pub rank : Class → ℕ
rank Ask = 0
rank Order = 1
rank Give = 2
rank Reply = 3

abbrev pub same_class : Class → Class → Bool
same_class c d = rank c == rank d

abbrev pub carries_bytes : MsgKind → Bool
carries_bytes Put = true
carries_bytes Grant = true
carries_bytes RecallAck = true
carries_bytes _ = false

-- the flits of a message that carries so many bytes: eight bytes before them say what it is about, and the last flit may be
-- filled in part
abbrev pub packet_flits : ℕ → ℕ → ℕ
packet_flits flit_bytes bytes = div_ceil (8 + bytes) flit_bytes

abbrev pub flits_of : ℕ → ℕ → MsgKind → ℕ
flits_of flit_bytes line_bytes kind = packet_flits flit_bytes (if carries_bytes kind then line_bytes else 0)

-- ---- the mesh

-- how many links lie between two nodes: columns and rows
abbrev pub distance : ℕ → ℕ → ℕ → ℕ
distance width p q = abs_diff (p % width) (q % width) + abs_diff (p / width) (q / width)

-- A flit crosses a link in a tick, and the flits of a message go one behind the other: so it has not arrived before this.
abbrev pub earliest : ℕ → Flight → ℕ
earliest width f = f.start + distance width f.source f.to + f.length

-- ---- sending

-- a node has room for so many messages of each class
abbrev pub room : ℕ
room = 8

abbrev pub has_class : Class → Flight → Bool
has_class c f = same_class (class_of f.message.kind) c

-- the messages of a class that node p has sent
abbrev pub sent_by : ℕ → Class → List Flight → List Flight
sent_by p c flights = filter (λ f. (f.source == p) && has_class c f) flights

abbrev pub is_full : CarrierView → ℕ → Class → Bool
is_full v p c = nat_le room (length (sent_by p c v.flights))

-- the place of a message that is sent now
abbrev pub place_now : CarrierView → ℕ
place_now v = if is_some v.net then length (filter (λ f. f.start == v.ticks) v.flights) else 0

abbrev pub sends : CarrierView → ℕ → ℕ → Message → Flight
sends v p to m = record {
  source = p;
  to = to;
  length = flits_of v.flit_bytes v.line_bytes m.kind;
  start = v.ticks;
  message = m;
  arrived = false;
  place = place_now v;
  left = 0;
  came = 0;
}

abbrev pub after_send : CarrierView → ℕ → ℕ → Message → CarrierView
after_send v p to m = if is_full v p (class_of m.kind) then v else record v { flights = v.flights ++ sends v p to m ∷ [] }

-- ---- taking

abbrev pub waits_at : ℕ → Class → Flight → Bool
waits_at p c f = f.arrived && (f.to == p) && has_class c f

-- where the next message for node p stands: the first that has arrived there of the highest class that has
abbrev pub next_for : ℕ → List Flight → Option ℕ
next_for p flights =
    option_or (position (waits_at p Reply) flights)
    (option_or (position (waits_at p Give) flights)
    (option_or (position (waits_at p Order) flights) (position (waits_at p Ask) flights)))

-- the message of this place was taken, and all others stay
pub record TakesOne (p : ℕ) (old new : CarrierView) (m : Message) : Type 0 where
  pub place : ℕ
  pub flight : Flight
  pub next : next_for p old.flights ≡ Some place
  pub stands : slice_get old.flights place ≡ Some flight
  pub message : flight.message ≡ m
  pub to : flight.to ≡ p
  pub whole : earliest old.width flight ≤ old.ticks
  pub rest : new ≡ record old { flights = remove old.flights place }

abbrev pub Takes : ℕ → CarrierView → CarrierView → Option Message → Type 0
Takes p old new None = (next_for p old.flights ≡ None) × (new ≡ old)
Takes p old new (Some m) = TakesOne p old new m

-- ---- a tick

-- a message under way, however far it has come
abbrev pub unmarked : Flight → Flight
unmarked f = record f { arrived = false; left = 0; came = 0 }

-- The messages stay in their order; some may have arrived, none too early, and what has arrived stays so.
pub record CarrierTicks (old new : CarrierView) : Type 0 where
  pub same : new ≡ record old { flights = new.flights; net = new.net; ticks = old.ticks + 1 }
  pub stay : map unmarked new.flights ≡ map unmarked old.flights
  pub kept : (i : ℕ) (f g : Flight) → slice_get old.flights i ≡ Some f → slice_get new.flights i ≡ Some g → f.arrived ≡ true → g.arrived ≡ true

-- ---- what each carrier keeps

pub record IsCarrying (v : CarrierView) : Type 0 where
  -- each message goes from a node to a node, and has not arrived too early
  pub sources : (i : ℕ) (f : Flight) → slice_get v.flights i ≡ Some f → f.source < v.nodes
  pub destinations : (i : ℕ) (f : Flight) → slice_get v.flights i ≡ Some f → f.to < v.nodes
  pub timely : (i : ℕ) (f : Flight) → slice_get v.flights i ≡ Some f → f.arrived ≡ true → earliest v.width f ≤ v.ticks
  -- no room has more than it may
  pub rooms : (p : ℕ) (c : Class) → length (sent_by p c v.flights) ≤ room
