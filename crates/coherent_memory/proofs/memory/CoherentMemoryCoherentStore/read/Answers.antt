use Rattle.std.proofs.Common.{◌<◌, ℕ, refl, sym, ap, subst, ◌∙◌}
use Rattle.node_memory.specs.Nodes.{after_read}
use Rattle.coherent_memory.specs.FabricViews.{system_of}
use Rattle.coherent_memory.specs.Stores.{Shape, store_of}
use Rattle.coherent_memory.specs.Systems.{System}
use Rattle.coherent_memory.specs.MemoryInvariants.{IsWhole, shape_of}
use Rattle.coherent_memory.proofs.Fabrics.{nodes-sound}
use Rattle.coherent_memory.proofs.Memories.{fabric-sound, whole-node}
use Rattle.coherent_memory.proofs.ReadStore.{read-recency, read-store, read-value}
use Rattle.coherent_memory.proofs.memory.CoherentMemoryCoherentStore.read.Goals as goal
use Rattle.coherent_memory.proofs.Smallness.{small-along}

pub invariant_of-self : goal.invariant_of-self
invariant_of-self g c =
    let m = c.args.self.now in
    let meaning = g.C.Carrier.meaning in
    let p = c.args.p.0 in
    let s : System = system_of meaning m.fabric in
    let f = c.read.new.self in
    let t : System = system_of meaning f in
    let old = shape_of m.fabric.count m.spans.items m.line_bytes in
    let shape = ap (λ (n : ℕ). shape_of n m.spans.items m.line_bytes) (sym c.read.ensures.count) in
    let same = read-recency c.args.a.0 (s.nodes p) in
    let sound = nodes-sound m.fabric.nodes p (subst (λ n. p < n) (sym m.fabric.node_count) c.requires.node) in
    let stays = ap (λ (n : ℕ). store_of (shape_of n m.spans.items m.line_bytes) m.ticks t) c.read.ensures.count
    ∙ read-store c.tables_follow.ensures.read c.nearness_stays.ensures.read old m.ticks s t p c.args.a.0 sound c.read.ensures.after c.read.ensures.kept in
    record {
      whole = subst (λ (h : Shape). IsWhole h m.ticks t) shape (whole-node old m.ticks s t p (after_read c.args.a.0 (s.nodes p)) c.read.ensures.after same.bytes same.coming m.whole);
      sound = fabric-sound c.tables_follow.ensures.held c.lines_stay_coherent.ensures.alone meaning f (shape_of f.count m.spans.items m.line_bytes) m.ticks refl f.node_count f.fine (small-along (store_of old m.ticks s) (store_of (shape_of f.count m.spans.items m.line_bytes) m.ticks t) stays m.sound.small);
    }

pub returns-clause-value : goal.returns-clause-value
returns-clause-value g c =
    let m = c.args.self.now in
    let p = c.args.p.0 in
    let s : System = system_of g.C.Carrier.meaning m.fabric in
    let laws = c.lines_stay_coherent.ensures in
    let sound = nodes-sound m.fabric.nodes p (subst (λ n. p < n) (sym m.fabric.node_count) c.requires.node) in
    c.read.ensures.value
    ∙ read-value laws.shared laws.owned c.tables_follow.ensures.held (shape_of m.fabric.count m.spans.items m.line_bytes) m.ticks s p c.args.a.0 c.args.n m.fabric.fine c.requires.node m.whole.size (m.whole.bytes p c.requires.node) c.requires.aligned sound

pub returns-clause-stays : goal.returns-clause-stays
returns-clause-stays g c =
    let m = c.args.self.now in
    let meaning = g.C.Carrier.meaning in
    let p = c.args.p.0 in
    let s : System = system_of meaning m.fabric in
    let t : System = system_of meaning c.read.new.self in
    let sound = nodes-sound m.fabric.nodes p (subst (λ n. p < n) (sym m.fabric.node_count) c.requires.node) in
    ap (λ (n : ℕ). store_of (shape_of n m.spans.items m.line_bytes) m.ticks t) c.read.ensures.count
    ∙ read-store c.tables_follow.ensures.read c.nearness_stays.ensures.read (shape_of m.fabric.count m.spans.items m.line_bytes) m.ticks s t p c.args.a.0 sound c.read.ensures.after c.read.ensures.kept

pub returns-clause-told : goal.returns-clause-told
returns-clause-told g c =
    let m = c.args.self.now in
    λ i. record { shape = shape_of (c.read.ensures.count i) m.spans.items m.line_bytes; ticks = m.ticks; system = c.read.ensures.after i }
