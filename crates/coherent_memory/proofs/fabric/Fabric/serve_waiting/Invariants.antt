use Rattle.std.proofs.Common.{◌≡◌, ◌≤◌, ◌+◌, ◌*◌, true, length}
use Rattle.directory.specs.Homes.{HomeView}
use Rattle.coherent_memory.specs.FabricViews.{system_of}
use Rattle.coherent_memory.specs.Rooms.{Grows}
use Rattle.coherent_memory.proofs.Serving.{IsServing}
use Rattle.coherent_memory.proofs.fabric.Fabric.serve_waiting.Given as goal

abbrev pub invariant-loop-p : goal.invariant-loop-p
invariant-loop-p g l = record {
  count : l.self.count ≡ l.fn.self.count;
  line : ((system_of g.C.Carrier.meaning l.self).homes l.p.0).lines l.line.0 ≡ true;
  room : (u : HomeView) × (length u.outgoing + 2 * l.fn.self.count ≤ 2048) × Grows l.line.0 u ((system_of g.C.Carrier.meaning l.self).homes l.p.0);
  serving : IsServing l.p.0 l.line.0 l.now (system_of g.C.Carrier.meaning l.fn.self) (system_of g.C.Carrier.meaning l.self);
}

abbrev pub decreases-loop-p : goal.decreases-loop-p
decreases-loop-p g l = length ((system_of g.C.Carrier.meaning l.self).homes l.p.0).waiting
