use Rattle.std.proofs.Common.{◌+◌, List, sym, subst}
use Rattle.memory_contracts.specs.Carrier.{CarrierTicks, CarrierView, Flight}
use Rattle.memory_contracts.specs.BagCarriers.{bag_of}
use Rattle.memory_contracts.specs.Packets.{AreInRooms}
use Rattle.memory_contracts.proofs.Carriers.{marked-marked, ticked-is, ticks-ticked}
use Rattle.memory_contracts.proofs.InRooms.{in_rooms-ticked}
use Rattle.std.specs.Vec.{vec_capacity}
use Rattle.memory_contracts.proofs.bag.BagCarrierCarrier.tick.Goals as goal

pub invariant_of-self : goal.invariant_of-self
invariant_of-self c =
    let s = c.args.self.now in
    let P : List Flight → Type 0 = λ flights. AreInRooms flights s.mesh.nodes s.rooms (vec_capacity s.packets) in
    record {
      kept = subst P (sym (marked-marked s.mesh.width s.ticks (s.ticks + 1) s.packets.items)) (in_rooms-ticked (bag_of s).flights s.mesh.nodes s.rooms (vec_capacity s.packets) s.mesh.width (s.ticks + 1) s.kept);
    }

pub returns-clause-ticks : goal.returns-clause-ticks
returns-clause-ticks c =
    let s = c.args.self.now in
    let P : CarrierView → Type 0 = λ v. CarrierTicks (bag_of s) v in
    subst P (sym (ticked-is s.mesh s.ticks s.packets.items)) (ticks-ticked s.mesh s.ticks s.packets.items)

pub returns-clause-moves : goal.returns-clause-moves
returns-clause-moves c = let s = c.args.self.now in ticked-is s.mesh s.ticks s.packets.items
