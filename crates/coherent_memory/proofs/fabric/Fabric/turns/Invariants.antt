use Rattle.std.proofs.Common.{◌≡◌, ◌*◌, ◌≤◌, length}
use Rattle.coherent_memory.specs.FabricViews.{system_of}
use Rattle.coherent_memory.specs.SystemInvariants.{HasKept}
use Rattle.coherent_memory.specs.Lost.{AreGoneBelow}
use Rattle.coherent_memory.specs.Turns.{Turns}
use Rattle.coherent_memory.proofs.fabric.Fabric.turns.Given as goal

abbrev pub invariant-loop-p : goal.invariant-loop-p
invariant-loop-p g l = record {
  count : l.self.count ≡ l.fn.self.count;
  turns : Turns l.now (system_of g.C.Carrier.meaning l.fn.self) l.p (system_of g.C.Carrier.meaning l.self) l.lost.items;
  gone : ∥ AreGoneBelow l.p (system_of g.C.Carrier.meaning l.fn.self) (system_of g.C.Carrier.meaning l.self) l.lost.items ∥₁;
  kept : ∥ HasKept l.fn.self.count (system_of g.C.Carrier.meaning l.fn.self) (system_of g.C.Carrier.meaning l.self) ∥₁;
  few : length l.lost.items ≤ 2 * l.p;
}
