use Rattle.std.proofs.Common.{List, subst, arith}
use Rattle.std.proofs.lemmas.Grind.{common_steps}
use Rattle.std.proofs.lemmas.List.{take_all}
use Rattle.memory_contracts.specs.Packets.{IsNext, flights_of}
use Rattle.memory_contracts.specs.declared.packet.Packet.{Packet}
use Rattle.memory_contracts.proofs.Choices.{IsNext-more, next_for-IsNext}
use Rattle.memory_contracts.proofs.packet.next_for.Goals as goal

pub loop-place-preserved : goal.loop-place-preserved
loop-place-preserved c =
    IsNext-more c.args.mesh.now.width c.args.now c.args.p.0 c.args.packets.now c.loop-place.place _ c.loop-place.best _ _ c.loop-place-test.true c.arrived_at.ensures c.better-best.ensures c.loop-place.invariant

pub returns-clause-next : goal.returns-clause-next
returns-clause-next c =
    let packets = c.args.packets.now in
    let Next : List Packet → Type 0 = λ packets. IsNext c.args.p.0 (flights_of c.args.mesh.now.width c.args.now packets) c.loop-place.best in
    let next = subst Next (take_all c.loop-place.place packets c.loop-place-test.false) c.loop-place.invariant in
    let found = next_for-IsNext c.args.p.0 (flights_of c.args.mesh.now.width c.args.now packets) c.loop-place.best next in
    grind (arith, common_steps, found)
