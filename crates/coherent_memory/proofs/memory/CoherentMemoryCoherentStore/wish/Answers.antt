use Rattle.std.proofs.Common.{ℕ, refl, sym, ap, subst, ◌∙◌}
use Rattle.memory_contracts.specs.Store.{after_wish}
use Rattle.node_memory.specs.Nodes as node
use Rattle.coherent_memory.specs.FabricViews.{system_of}
use Rattle.coherent_memory.specs.Stores.{Shape, store_of}
use Rattle.coherent_memory.specs.Systems.{System}
use Rattle.coherent_memory.specs.MemoryInvariants.{IsWhole, shape_of}
use Rattle.coherent_memory.proofs.Memories.{fabric-sound, whole-node}
use Rattle.coherent_memory.proofs.Wishing.{wish-same, wish-store}
use Rattle.coherent_memory.proofs.memory.CoherentMemoryCoherentStore.wish.Goals as goal
use Rattle.coherent_memory.proofs.Smallness.{small-along, small-wish}

pub invariant_of-self : goal.invariant_of-self
invariant_of-self g c =
    let m = c.args.self.now in
    let meaning = g.C.Carrier.meaning in
    let p = c.args.p.0 in
    let s : System = system_of meaning m.fabric in
    let f = c.wish.new.self in
    let t : System = system_of meaning f in
    let old = shape_of m.fabric.count m.spans.items m.line_bytes in
    let shape = ap (λ (n : ℕ). shape_of n m.spans.items m.line_bytes) (sym c.wish.ensures.count) in
    let same = wish-same c.args.line.0 c.args.own (s.nodes p) in
    let after = ap (λ (n : ℕ). store_of (shape_of n m.spans.items m.line_bytes) m.ticks t) c.wish.ensures.count
    ∙ wish-store old m.ticks s t p c.args.line.0 c.args.own c.wish.ensures.after c.wish.ensures.kept in
    record {
      whole = subst (λ (h : Shape). IsWhole h m.ticks t) shape (whole-node old m.ticks s t p (node.after_wish c.args.line.0 c.args.own (s.nodes p)) c.wish.ensures.after same.bytes same.coming m.whole);
      sound = fabric-sound c.tables_follow.ensures.held c.lines_stay_coherent.ensures.alone meaning f (shape_of f.count m.spans.items m.line_bytes) m.ticks refl f.node_count f.fine
          (small-along (after_wish (store_of old m.ticks s) p c.args.line.0 c.args.own) (store_of (shape_of f.count m.spans.items m.line_bytes) m.ticks t) after (small-wish (store_of old m.ticks s) p c.args.line.0 c.args.own m.sound.small));
    }

pub returns-clause-after : goal.returns-clause-after
returns-clause-after g c =
    let m = c.args.self.now in
    let meaning = g.C.Carrier.meaning in
    ap (λ (n : ℕ). store_of (shape_of n m.spans.items m.line_bytes) m.ticks (system_of meaning c.wish.new.self)) c.wish.ensures.count
    ∙ wish-store (shape_of m.fabric.count m.spans.items m.line_bytes) m.ticks (system_of meaning m.fabric) (system_of meaning c.wish.new.self) c.args.p.0 c.args.line.0 c.args.own c.wish.ensures.after c.wish.ensures.kept

pub returns-clause-told : goal.returns-clause-told
returns-clause-told g c =
    let m = c.args.self.now in
    λ i. record { shape = shape_of (c.wish.ensures.count i) m.spans.items m.line_bytes; ticks = m.ticks; system = c.wish.ensures.after i }
