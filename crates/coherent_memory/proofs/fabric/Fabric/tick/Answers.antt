use Rattle.std.proofs.Common.{◌<◌, ℕ, sym, ap, subst, ◌∙◌}
use Rattle.std.proofs.Math.Logic.{∥∥₁_map, ∥∥₁_map₂}
use Rattle.memory_contracts.specs.Carrier.{CarrierView}
use Rattle.coherent_memory.specs.FabricViews.{system_of}
use Rattle.coherent_memory.specs.SystemInvariants.{HasKept, IsFine}
use Rattle.coherent_memory.specs.Lost.{AreGoneBelow}
use Rattle.coherent_memory.specs.Systems.{System}
use Rattle.coherent_memory.specs.Turns.{with_carrier}
use Rattle.coherent_memory.proofs.Kept.{kept-trans}
use Rattle.coherent_memory.proofs.Ticking.{turns-ticks}
use Rattle.coherent_memory.proofs.fabric.Fabric.tick.Goals as goal

pub tick-requires : goal.tick-requires
tick-requires g c =
    let s : System = system_of g.C.Carrier.meaning c.args.self.now in
    let t : System = system_of g.C.Carrier.meaning c.turns.new.self in
    let same = turns-ticks c.args.now s c.args.self.now.count t c.turns.new.lost.items c.turns.ensures.turns in
    record { few = subst (λ (k : ℕ). k < 4294967295) (sym same) c.requires.few }

pub invariant_of-self : goal.invariant_of-self
invariant_of-self g c =
    let f = c.turns.new.self in
    let t : System = system_of g.C.Carrier.meaning f in
    let carrier = g.C.Carrier.meaning c.tick.new.self in
    record {
      home_count = f.home_count;
      node_count = f.node_count;
      carried = ap (λ (v : CarrierView). v.nodes) c.tick.ensures.ticks.same ∙ f.carried;
      few = f.few;
      fine = ∥∥₁_map f.fine (λ (fine : IsFine f.count t). (c.steps_keep_lines.ensures.carrying f.count carrier t fine c.tick.ensures.ticks).fine);
    }

pub returns-clause-gone : goal.returns-clause-gone
returns-clause-gone g c =
    let s : System = system_of g.C.Carrier.meaning c.args.self.now in
    let t : System = system_of g.C.Carrier.meaning c.turns.new.self in
    ∥∥₁_map c.turns.ensures.gone (λ (below : AreGoneBelow c.args.self.now.count s t c.turns.new.lost.items). record { exactly = below.told.exactly; once = below.told.once })

pub returns-clause-kept : goal.returns-clause-kept
returns-clause-kept g c =
    let f = c.turns.new.self in
    let n = c.args.self.now.count in
    let s : System = system_of g.C.Carrier.meaning c.args.self.now in
    let t : System = system_of g.C.Carrier.meaning f in
    let carrier = g.C.Carrier.meaning c.tick.new.self in
    let last : ∥ HasKept f.count t (with_carrier carrier t) ∥₁ = ∥∥₁_map f.fine (λ (fine : IsFine f.count t). c.steps_keep_lines.ensures.carrying f.count carrier t fine c.tick.ensures.ticks) in
    ∥∥₁_map₂ c.turns.ensures.kept (subst (λ (k : ℕ). ∥ HasKept k t (with_carrier carrier t) ∥₁) c.turns.ensures.count last)
    (λ (first : HasKept n s t) (then : HasKept n t (with_carrier carrier t)). kept-trans n s t (with_carrier carrier t) first then)
