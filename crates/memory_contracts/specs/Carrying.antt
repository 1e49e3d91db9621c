-- A list of messages that is kept within the rooms is what a carrier may mean.
use Rattle.std.proofs.Common.{◌≡◌, ℕ, zero, suc, ◌≤◌, true, List, [], ◌∷◌, map, slice_get, Some, refl, subst}
use Rattle.std.proofs.lemmas.Bool.{leb-true}
use Rattle.memory_contracts.specs.Bags.{marked}
use Rattle.memory_contracts.specs.Carrier.{Flight, IsCarrying, earliest}
use Rattle.memory_contracts.specs.Packets.{AreInRooms, carrier_of, flight_of, flights_of}
use Rattle.memory_contracts.specs.declared.mesh.Mesh.{Mesh}
use Rattle.memory_contracts.specs.declared.packet.Packet.{Packet}
use Rattle.memory_contracts.specs.declared.rooms.Rooms.{Rooms}

pub slice_get-map : {A B : Type 0} (g : A → B) (xs : List A) (i : ℕ) (y : B) → slice_get (map g xs) i ≡ Some y → (x : A) × (slice_get xs i ≡ Some x) × (g x ≡ y)
slice_get-map g [] i y e = absurd cc
slice_get-map g (x ∷ xs) zero y e = (x, refl, cc)
slice_get-map g (x ∷ xs) (suc i) y e = slice_get-map g xs i y e

-- what is marked at a tick has arrived by then
pub marked-timely : (width now : ℕ) (packets : List Packet) (i : ℕ) (f : Flight) → slice_get (flights_of width now packets) i ≡ Some f → f.arrived ≡ true → earliest width f ≤ now
marked-timely width now packets i f e arrived =
    let (s, _, same) = slice_get-map (λ s. marked width now (flight_of s)) packets i f e in
    let P : Flight → Type 0 = λ f. f.arrived ≡ true → earliest width f ≤ now in
    subst P same (leb-true (earliest width (flight_of s)) now) arrived

pub IsCarrying-kept : (mesh : Mesh) (now : ℕ) (packets : List Packet) (rooms : Rooms) (capacity : ℕ) → AreInRooms (flights_of mesh.width now packets) mesh.nodes rooms capacity → IsCarrying (carrier_of mesh now packets)
IsCarrying-kept mesh now packets rooms capacity kept = record {
  sources = kept.sources;
  destinations = kept.destinations;
  timely = marked-timely mesh.width now packets;
  rooms = kept.rooms;
}
