-- What a carrier that keeps a list of messages keeps, and what it stands for.
use Rattle.std.specs.Prelude.{◌≡◌, ℕ, ◌*◌, ◌<◌, ◌≤◌, ◌==◌, nat_lt, Bool, true, false, ◌&&◌, if◌then◌else◌, List, map, length, slice_get, Option, None, Some}
use Rattle.std.specs.List.{position}
use Rattle.rsim_base.specs.Limits.{max_processors}
use Rattle.memory_contracts.specs.Bags.{marked}
use Rattle.memory_contracts.specs.Carrier.{CarrierView, Flight, class_of, rank, room, sent_by, waits_at}
use Rattle.memory_contracts.specs.Rooms.{count_in}
use Rattle.memory_contracts.specs.declared.mesh.Mesh.{Mesh}
use Rattle.memory_contracts.specs.declared.message.Class.{Class}
use Rattle.memory_contracts.specs.declared.packet.Arrived.{Arrived}
use Rattle.memory_contracts.specs.declared.packet.Packet.{Packet}
use Rattle.memory_contracts.specs.declared.rooms.Rooms.{Rooms}

-- a packet under way, without its mark
abbrev pub flight_of : Packet → Flight
flight_of s = record { source = s.source.0; to = s.to.0; length = s.length; start = s.start; message = s.message; arrived = false; place = 0; left = 0; came = 0 }

-- all packets at the tick now, in a mesh of this width
abbrev pub flights_of : ℕ → ℕ → List Packet → List Flight
flights_of width now packets = map (λ s. marked width now (flight_of s)) packets

abbrev pub carrier_of : Mesh → ℕ → List Packet → CarrierView
carrier_of mesh now packets = record {
  flights = flights_of mesh.width now packets;
  ticks = now;
  nodes = mesh.nodes;
  width = mesh.width;
  flit_bytes = mesh.flit_bytes;
  line_bytes = mesh.line_bytes;
  net = None;
}

-- The packets go between the nodes, their rooms are counted, and there is memory for all that the rooms allow.
pub record AreInRooms (flights : List Flight) (nodes : ℕ) (taken : Rooms) (capacity : ℕ) : Type 0 where
  pub few : nodes ≤ max_processors
  pub memory : nodes * 32 ≤ capacity
  pub sources : (i : ℕ) (f : Flight) → slice_get flights i ≡ Some f → f.source < nodes
  pub destinations : (i : ℕ) (f : Flight) → slice_get flights i ≡ Some f → f.to < nodes
  pub counts : (p : ℕ) (c : Class) → count_in taken p c ≡ length (sent_by p c flights)
  pub rooms : (p : ℕ) (c : Class) → length (sent_by p c flights) ≤ room

-- ---- which message a node takes next: the first of the highest class, in one pass through the list

-- whether the first class is the higher one
abbrev pub outranks : Class → Class → Bool
outranks c d = nat_lt (rank d) (rank c)

-- a message that has arrived at node p, and its place in the list
abbrev pub arrived_at : ℕ → ℕ → Flight → Option Arrived
arrived_at p place f = if f.arrived && (f.to == p) then Some (record { place = place; class = class_of f.message.kind }) else None

-- of the one so far and the next, the one to take
abbrev pub better : Option Arrived → Option Arrived → Option Arrived
better best None = best
better None (Some next) = Some next
better (Some best) (Some next) = if outranks next.class best.class then Some next else Some best

-- it is the first of the highest class that waits for node p
abbrev pub IsNext : ℕ → List Flight → Option Arrived → Type 0
IsNext p flights None = (c : Class) → position (waits_at p c) flights ≡ None
IsNext p flights (Some best) =
    (position (waits_at p best.class) flights ≡ Some best.place)
    × ((c : Class) → outranks c best.class ≡ true → position (waits_at p c) flights ≡ None)
