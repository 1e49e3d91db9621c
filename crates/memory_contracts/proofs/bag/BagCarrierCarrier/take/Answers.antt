use Rattle.std.proofs.Common.{◌≡◌, ◌<◌, List, Some, length, sym, ap, subst, ◌∙◌, arith}
use Rattle.std.specs.Vec.{vec_capacity}
use Rattle.memory_contracts.specs.Bags.{marked}
use Rattle.memory_contracts.specs.BagCarriers.{bag_of}
use Rattle.memory_contracts.specs.Carrier.{Flight, next_for}
use Rattle.memory_contracts.specs.Packets.{AreInRooms, flight_of, flights_of}
use Rattle.memory_contracts.specs.declared.packet.Packet.{Packet}
use Rattle.list_facts.specs.Places.{map-remove}
use Rattle.memory_contracts.proofs.InRooms.{counted-there, in_rooms-taken, source-there}
use Rattle.memory_contracts.proofs.Taking.{stands, takes-one}
use Rattle.memory_contracts.proofs.bag.BagCarrierCarrier.take.Goals as goal

pub leave-requires-clause-node : goal.leave-requires-clause-node
leave-requires-clause-node c =
    let s = c.args.self.now in
    let taken = c.remove-packet.result in
    let below : c.in_ok-place.place < length s.packets.items = omega (arith, c.in_ok-place.ensures.within, c.as_slice.ensures.len) in
    let at = stands s.mesh.width s.ticks s.packets.items c.in_ok-place.place taken below c.remove-packet.ensures.value in
    source-there (bag_of s).flights s.mesh.nodes s.rooms (vec_capacity s.packets) c.in_ok-place.place (marked s.mesh.width s.ticks (flight_of taken)) s.kept at

pub leave-requires-clause-some : goal.leave-requires-clause-some
leave-requires-clause-some c =
    let s = c.args.self.now in
    let taken = c.remove-packet.result in
    let below : c.in_ok-place.place < length s.packets.items = omega (arith, c.in_ok-place.ensures.within, c.as_slice.ensures.len) in
    let at = stands s.mesh.width s.ticks s.packets.items c.in_ok-place.place taken below c.remove-packet.ensures.value in
    counted-there (bag_of s).flights s.mesh.nodes s.rooms (vec_capacity s.packets) c.in_ok-place.place (marked s.mesh.width s.ticks (flight_of taken)) c.class.result s.kept at c.class.ensures

pub invariant_of-self-2 : goal.invariant_of-self-2
invariant_of-self-2 c =
    let s = c.args.self.now in
    let taken = c.remove-packet.result in
    let mark : Packet → Flight = λ s'. marked s.mesh.width s.ticks (flight_of s') in
    let capacity = vec_capacity c.remove-packet.new.self in
    let below : c.in_ok-place.place < length s.packets.items = omega (arith, c.in_ok-place.ensures.within, c.as_slice.ensures.len) in
    let at = stands s.mesh.width s.ticks s.packets.items c.in_ok-place.place taken below c.remove-packet.ensures.value in
    let less = in_rooms-taken (bag_of s).flights s.mesh.nodes s.rooms c.leave.new.self (vec_capacity s.packets) capacity c.in_ok-place.place (mark taken) c.class.result s.kept at c.class.ensures c.leave.ensures c.remove-packet.ensures.capacity in
    let flights = ap (flights_of s.mesh.width s.ticks) c.remove-packet.ensures.items ∙ map-remove mark s.packets.items c.in_ok-place.place in
    let P : List Flight → Type 0 = λ flights. AreInRooms flights s.mesh.nodes c.leave.new.self capacity in
    record { kept = subst P (sym flights) less }

pub returns : goal.returns
returns c =
    let s = c.args.self.now in
    let below : c.in_ok-place.place < length s.packets.items = omega (arith, c.in_ok-place.ensures.within, c.as_slice.ensures.len) in
    let next : next_for c.args.p.0 (bag_of s).flights ≡ Some c.in_ok-place.place =
    sym (c.in_ok-place.ensures.next ∙ ap (λ packets. next_for c.args.p.0 (flights_of s.mesh.width s.ticks packets)) c.as_slice.ensures.value) in
    record {
      taken = takes-one s.mesh s.ticks c.args.p.0 c.in_ok-place.place s.packets.items c.remove-packet.new.self.items c.remove-packet.result next below c.remove-packet.ensures.value c.remove-packet.ensures.items;
    }
