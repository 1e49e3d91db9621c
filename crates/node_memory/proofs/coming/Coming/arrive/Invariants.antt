use Rattle.std.proofs.Common.{◌≡◌, length}
use Rattle.cache_levels.specs.Sound.{AreSound}
use Rattle.node_memory.specs.NodeParts.{coming_in}
use Rattle.node_memory.specs.Starting.{arrive}
use Rattle.node_memory.proofs.coming.Coming.arrive.Given as goal

abbrev pub invariant-loop-self : goal.invariant-loop-self
invariant-loop-self l = record {
  arrival : arrive l.latency l.now (coming_in l.self) l.levels ≡ arrive l.latency l.now (coming_in l.fn.self) l.fn.levels;
  sound : AreSound l.levels;
}

abbrev pub decreases-loop-self : goal.decreases-loop-self
decreases-loop-self l = length (coming_in l.self)
