use Rattle.std.proofs.Common.{◌≡◌, length}
use Rattle.coherent_memory.specs.FabricViews.{system_of}
use Rattle.coherent_memory.specs.Systems.{System}
use Rattle.coherent_memory.specs.Turns.{HomeSends}
use Rattle.coherent_memory.proofs.fabric.Fabric.send_posts.Given as goal

abbrev pub invariant-loop-p : goal.invariant-loop-p
invariant-loop-p g l = record {
  count : l.self.count ≡ l.fn.self.count;
  sends : (w : System) → HomeSends l.p.0 l.now (system_of g.C.Carrier.meaning l.self) w → HomeSends l.p.0 l.now (system_of g.C.Carrier.meaning l.fn.self) w;
}

abbrev pub decreases-loop-p : goal.decreases-loop-p
decreases-loop-p g l = length ((system_of g.C.Carrier.meaning l.self).homes l.p.0).outgoing
