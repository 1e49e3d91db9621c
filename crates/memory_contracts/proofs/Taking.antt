-- A message that is taken leaves the list.
use Rattle.std.proofs.Common.{◌≡◌, ℕ, ◌<◌, List, length, slice_get, get_or, Some, refl, sym, ap, ◌∙◌}
use Rattle.std.specs.List.{remove}
use Rattle.std.proofs.lemmas.Bool.{leb-true}
use Rattle.memory_contracts.specs.Bags.{marked}
use Rattle.memory_contracts.specs.Carrier.{TakesOne, earliest, next_for}
use Rattle.memory_contracts.specs.Packets.{carrier_of, flight_of, flights_of}
use Rattle.memory_contracts.specs.declared.mesh.Mesh.{Mesh}
use Rattle.memory_contracts.specs.declared.packet.Packet.{Packet}
use Rattle.std.proofs.lemmas.Option.{slice_get-get_or}
use Rattle.list_facts.specs.Places.{map-remove, slice_get_mapped}
use Rattle.memory_contracts.proofs.Choices.{next_for-is}

-- a packet of the list stands among the flights
pub stands : (width now : ℕ) (packets : List Packet) (i : ℕ) (s : Packet) → i < length packets → s ≡ get_or packets i s → slice_get (flights_of width now packets) i ≡ Some (marked width now (flight_of s))
stands width now packets i s below read =
    slice_get_mapped (λ s. marked width now (flight_of s)) packets i s (slice_get-get_or packets i s below ∙ ap (λ s. Some s) (sym read))

pub takes-one : (mesh : Mesh) (now : ℕ) (p i : ℕ) (old new : List Packet) (s : Packet) → next_for p (flights_of mesh.width now old) ≡ Some i → i < length old → s ≡ get_or old i s → new ≡ remove old i →
    TakesOne p (carrier_of mesh now old) (carrier_of mesh now new) s.message
takes-one mesh now p i old new s next below read rest =
    let at = stands mesh.width now old i s below read in
    let f = marked mesh.width now (flight_of s) in
    let (arrived, to) = next_for-is p (flights_of mesh.width now old) i f next at in
    record {
      place = i;
      flight = f;
      next = next;
      stands = at;
      message = refl;
      to = to;
      whole = leb-true (earliest mesh.width (flight_of s)) now arrived;
      rest = ap (carrier_of mesh now) rest ∙ ap (λ fs. record (carrier_of mesh now old) { flights = fs }) (map-remove (λ s. marked mesh.width now (flight_of s)) old i);
    }
