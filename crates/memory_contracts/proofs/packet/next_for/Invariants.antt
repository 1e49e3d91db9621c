use Rattle.std.proofs.Common.{take}
use Rattle.memory_contracts.specs.Packets.{IsNext, flights_of}
use Rattle.memory_contracts.proofs.packet.next_for.Given as goal

abbrev pub invariant-loop-place : goal.invariant-loop-place
invariant-loop-place l = IsNext l.p.0 (flights_of l.mesh.width l.now (take l.place l.packets)) l.best
