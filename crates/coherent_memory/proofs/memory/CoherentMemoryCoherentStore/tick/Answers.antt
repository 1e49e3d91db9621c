use Rattle.std.proofs.Common.{◌+◌, ℕ, refl, sym, ap, subst}
use Rattle.memory_contracts.specs.Store.{StoreView, Ticks}
use Rattle.coherent_memory.specs.FabricViews.{system_of}
use Rattle.coherent_memory.specs.Stores.{Shape, store_of}
use Rattle.coherent_memory.specs.Systems.{System}
use Rattle.coherent_memory.specs.Turns.{HasTicked}
use Rattle.coherent_memory.specs.MemoryInvariants.{IsWhole, shape_of}
use Rattle.coherent_memory.proofs.Memories.{fabric-sound, whole-tick}
use Rattle.coherent_memory.proofs.Ticking.{tick-store}
use Rattle.coherent_memory.proofs.memory.CoherentMemoryCoherentStore.tick.Goals as goal
use Rattle.coherent_memory.proofs.Smallness.{small-tick}

pub invariant_of-self : goal.invariant_of-self
invariant_of-self g c =
    let m = c.args.self.now in
    let meaning = g.C.Carrier.meaning in
    let s : System = system_of meaning m.fabric in
    let f = c.tick.new.self in
    let t : System = system_of meaning f in
    let old = shape_of m.fabric.count m.spans.items m.line_bytes in
    let shape = ap (λ (n : ℕ). shape_of n m.spans.items m.line_bytes) (sym c.tick.ensures.count) in
    let ticked = subst (λ (k : ℕ). HasTicked g.C.Carrier.Moves m.fabric.count k s t c.tick.new.lost.items) c.from.ensures c.tick.ensures.ticked in
    let ticks = subst (λ (w : StoreView). Ticks (store_of old m.ticks s) w c.tick.new.lost.items) (ap (λ (n : ℕ). store_of (shape_of n m.spans.items m.line_bytes) (m.ticks + 1) t) (sym c.tick.ensures.count))
    (tick-store c.tables_follow.ensures.wishes old m.ticks c.from.result s t c.tick.new.lost.items c.tick.ensures.ticked c.tick.ensures.kept c.tick.ensures.gone) in
    record {
      whole = subst (λ (h : Shape). IsWhole h (m.ticks + 1) t) shape (whole-tick old m.ticks s t c.tick.new.lost.items ticked c.tick.ensures.kept m.whole);
      sound = fabric-sound c.tables_follow.ensures.held c.lines_stay_coherent.ensures.alone meaning f (shape_of f.count m.spans.items m.line_bytes) (m.ticks + 1) refl f.node_count f.fine
          (small-tick (store_of old m.ticks s) (store_of (shape_of f.count m.spans.items m.line_bytes) (m.ticks + 1) t) c.tick.new.lost.items ticks m.sound.small);
    }

pub returns-clause-ticks : goal.returns-clause-ticks
returns-clause-ticks g c =
    let m = c.args.self.now in
    let meaning = g.C.Carrier.meaning in
    let s : System = system_of meaning m.fabric in
    let t : System = system_of meaning c.tick.new.self in
    let old = shape_of m.fabric.count m.spans.items m.line_bytes in
    let v : StoreView = store_of old m.ticks s in
    subst (λ (w : StoreView). Ticks v w c.tick.new.lost.items) (ap (λ (n : ℕ). store_of (shape_of n m.spans.items m.line_bytes) (m.ticks + 1) t) (sym c.tick.ensures.count))
    (tick-store c.tables_follow.ensures.wishes old m.ticks c.from.result s t c.tick.new.lost.items c.tick.ensures.ticked c.tick.ensures.kept c.tick.ensures.gone)

pub returns-clause-told : goal.returns-clause-told
returns-clause-told g c =
    let m = c.args.self.now in
    let s : System = system_of g.C.Carrier.meaning m.fabric in
    let t : System = system_of g.C.Carrier.meaning c.tick.new.self in
    record {
      shape = ap (λ (n : ℕ). shape_of n m.spans.items m.line_bytes) c.tick.ensures.count;
      ticks = refl;
      system = subst (λ (k : ℕ). HasTicked g.C.Carrier.Moves m.fabric.count k s t c.tick.new.lost.items) c.from.ensures c.tick.ensures.ticked;
    }
