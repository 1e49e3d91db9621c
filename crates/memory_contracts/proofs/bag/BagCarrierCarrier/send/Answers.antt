use Rattle.std.proofs.Common.{◌≡◌, ◌<◌, nat_le, false, List, length, refl, sym, ap, subst, ◌∙◌, arith}
use Rattle.std.proofs.lemmas.Bool.Decides.{nat_tests}
use Rattle.std.proofs.lemmas.List.{length-map, map_push}
use Rattle.std.specs.Vec.{vec_capacity}
use Rattle.memory_contracts.specs.Bags.{marked}
use Rattle.memory_contracts.specs.BagCarriers.{bag_of}
use Rattle.memory_contracts.specs.Carrier.{Flight, class_of, is_full, sent_by}
use Rattle.memory_contracts.specs.Packets.{AreInRooms, flight_of, flights_of}
use Rattle.memory_contracts.specs.Rooms.{count_in}
use Rattle.memory_contracts.specs.declared.packet.Packet.{Packet}
use Rattle.memory_contracts.proofs.InRooms.{in_rooms-sent, place-sent}
use Rattle.memory_contracts.proofs.Sending.{marked-sent, sent-after}
use Rattle.memory_contracts.proofs.bag.BagCarrierCarrier.send.Goals as goal

pub push_reserved-requires : goal.push_reserved-requires
push_reserved-requires c =
    let s = c.args.self.now in
    let mark : Packet → Flight = λ s'. marked s.mesh.width s.ticks (flight_of s') in
    let sent : Packet = record { source = c.args.p; to = c.args.to; length = c.flits.result; start = s.ticks; message = c.args.m } in
    let room : count_in s.rooms c.args.p.0 c.class-class.result < 8 = grind (arith, nat_tests, c.is_full.ensures, c.if-is_full.false) in
    let more = in_rooms-sent (bag_of s).flights s.mesh.nodes s.rooms c.enter.new.self (vec_capacity s.packets) (vec_capacity s.packets) (mark sent) c.class-class.result s.kept c.requires.source c.requires.destination c.class-class.ensures room c.enter.ensures refl in
    let place = place-sent (bag_of s).flights s.mesh.nodes c.enter.new.self (vec_capacity s.packets) (mark sent) more in
    let same = length-map s.packets.items mark in
    grind (arith, place, same)

pub invariant_of-self-2 : goal.invariant_of-self-2
invariant_of-self-2 c =
    let s = c.args.self.now in
    let mark : Packet → Flight = λ s'. marked s.mesh.width s.ticks (flight_of s') in
    let sent : Packet = record { source = c.args.p; to = c.args.to; length = c.flits.result; start = s.ticks; message = c.args.m } in
    let room : count_in s.rooms c.args.p.0 c.class-class.result < 8 = grind (arith, nat_tests, c.is_full.ensures, c.if-is_full.false) in
    let capacity = vec_capacity c.push_reserved.new.self in
    let more = in_rooms-sent (bag_of s).flights s.mesh.nodes s.rooms c.enter.new.self (vec_capacity s.packets) capacity (mark sent) c.class-class.result s.kept c.requires.source c.requires.destination c.class-class.ensures room c.enter.ensures c.push_reserved.ensures.capacity in
    let flights = ap (flights_of s.mesh.width s.ticks) c.push_reserved.ensures.items ∙ map_push mark s.packets.items sent in
    let P : List Flight → Type 0 = λ flights. AreInRooms flights s.mesh.nodes c.enter.new.self capacity in
    record { kept = subst P (sym flights) more }

pub returns-clause-after : goal.returns-clause-after
returns-clause-after c =
    let s = c.args.self.now in
    let sent : Packet = record { source = c.args.p; to = c.args.to; length = c.flits.result; start = s.ticks; message = c.args.m } in
    let count : count_in s.rooms c.args.p.0 c.class-class.result ≡ length (sent_by c.args.p.0 (class_of c.args.m.kind) (bag_of s).flights) =
    ap (count_in s.rooms c.args.p.0) c.class-class.ensures ∙ s.kept.counts c.args.p.0 (class_of c.args.m.kind) in
    let room : is_full (bag_of s) c.args.p.0 (class_of c.args.m.kind) ≡ false = ap (nat_le 8) (sym count) ∙ sym c.is_full.ensures ∙ c.if-is_full.false in
    sent-after s.mesh s.ticks s.packets.items c.push_reserved.new.self.items sent room c.push_reserved.ensures.items (marked-sent s.mesh s.ticks s.packets.items sent s.mesh.flits c.flits.ensures refl)
