use Rattle.std.proofs.Common.{◌≡◌, ◌+◌, ◌≤◌, ◌++◌, length}
use Rattle.memory_contracts.specs.Protocol.HomeTable.{to_each}
use Rattle.memory_contracts.specs.Protocol.Messages.{Inv}
use Rattle.directory.specs.Homes.{posts}
use Rattle.directory.specs.HomeParts.{posts_in}
use Rattle.directory.specs.NodeSets.{set_of}
use Rattle.directory.proofs.outgoing.Outgoing.send_invs.Given as goal

abbrev pub invariant-loop-x : goal.invariant-loop-x
invariant-loop-x l = record {
  sent : posts_in l.self ≡ posts_in l.fn.self ++ posts l.x l.line.0 l.now (to_each (set_of l.to) Inv);
  few : length (posts_in l.self) ≤ length (posts_in l.fn.self) + l.x;
}
