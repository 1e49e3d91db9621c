use Rattle.std.proofs.Common.{◌/◌, ◌<◌, ℕ, refl, sym, ap, subst, ◌∙◌}
use Rattle.cache_levels.specs.Levels.{owned}
use Rattle.rsim_base.specs.Bytes.{count_of}
use Rattle.memory_contracts.specs.Store.{after_write}
use Rattle.node_memory.specs.Nodes as node
use Rattle.coherent_memory.specs.FabricViews.{system_of}
use Rattle.coherent_memory.specs.Stores.{Shape, store_of}
use Rattle.coherent_memory.specs.Systems.{System}
use Rattle.coherent_memory.specs.MemoryInvariants.{IsWhole, shape_of}
use Rattle.coherent_memory.proofs.Fabrics.{nodes-sound}
use Rattle.coherent_memory.proofs.Memories.{fabric-sound, whole-node}
use Rattle.coherent_memory.proofs.WriteStore.{WriteLaws, write-bytes, write-store}
use Rattle.coherent_memory.proofs.memory.CoherentMemoryCoherentStore.write.Goals as goal
use Rattle.coherent_memory.proofs.Smallness.{small-along, small-write}

pub invariant_of-self : goal.invariant_of-self
invariant_of-self g c =
    let m = c.args.self.now in
    let meaning = g.C.Carrier.meaning in
    let p = c.args.p.0 in
    let s : System = system_of meaning m.fabric in
    let f = c.write.new.self in
    let t : System = system_of meaning f in
    let old = shape_of m.fabric.count m.spans.items m.line_bytes in
    let shape = ap (λ (n : ℕ). shape_of n m.spans.items m.line_bytes) (sym c.write.ensures.count) in
    let same = write-bytes c.args.a.0 c.args.n c.args.v (s.nodes p) in
    let laws : WriteLaws = record {
      shared = c.lines_stay_coherent.ensures.shared;
      owned = c.lines_stay_coherent.ensures.owned;
      reads = c.written_bytes_read_back.ensures;
      follows = c.tables_follow.ensures.write;
      nears = c.nearness_stays.ensures.write;
      keeps = c.nodes_keep_lines.ensures.write;
    } in
    let sound = nodes-sound m.fabric.nodes p (subst (λ n. p < n) (sym m.fabric.node_count) c.requires.node) in
    let after = ap (λ (n : ℕ). store_of (shape_of n m.spans.items m.line_bytes) m.ticks t) c.write.ensures.count
    ∙ write-store laws old m.ticks s t p c.args.a.0 c.args.n c.args.v m.fabric.fine c.requires.node m.whole.size (m.whole.bytes p c.requires.node) c.requires.aligned sound c.write.ensures.after in
    record {
      whole = subst (λ (h : Shape). IsWhole h m.ticks t) shape (whole-node old m.ticks s t p (node.after_write c.args.a.0 c.args.n c.args.v (s.nodes p)) c.write.ensures.after same.bytes same.coming m.whole);
      sound = fabric-sound c.tables_follow.ensures.held c.lines_stay_coherent.ensures.alone meaning f (shape_of f.count m.spans.items m.line_bytes) m.ticks refl f.node_count f.fine
          (small-along (after_write (store_of old m.ticks s) p c.args.a.0 (count_of c.args.n) c.args.v) (store_of (shape_of f.count m.spans.items m.line_bytes) m.ticks t) after (small-write (store_of old m.ticks s) p c.args.a.0 (count_of c.args.n) c.args.v m.sound.small));
    }

pub returns-clause-value : goal.returns-clause-value
returns-clause-value g c =
    let m = c.args.self.now in
    let p = c.args.p.0 in
    let s : System = system_of g.C.Carrier.meaning m.fabric in
    c.write.ensures.value ∙ ap (λ (bytes : ℕ). owned (c.args.a.0 / bytes) (s.nodes p).levels) (m.whole.bytes p c.requires.node)

pub returns-clause-after : goal.returns-clause-after
returns-clause-after g c =
    let m = c.args.self.now in
    let meaning = g.C.Carrier.meaning in
    let p = c.args.p.0 in
    let s : System = system_of meaning m.fabric in
    let t : System = system_of meaning c.write.new.self in
    let laws : WriteLaws = record {
      shared = c.lines_stay_coherent.ensures.shared;
      owned = c.lines_stay_coherent.ensures.owned;
      reads = c.written_bytes_read_back.ensures;
      follows = c.tables_follow.ensures.write;
      nears = c.nearness_stays.ensures.write;
      keeps = c.nodes_keep_lines.ensures.write;
    } in
    let sound = nodes-sound m.fabric.nodes p (subst (λ n. p < n) (sym m.fabric.node_count) c.requires.node) in
    ap (λ (n : ℕ). store_of (shape_of n m.spans.items m.line_bytes) m.ticks t) c.write.ensures.count
    ∙ write-store laws (shape_of m.fabric.count m.spans.items m.line_bytes) m.ticks s t p c.args.a.0 c.args.n c.args.v m.fabric.fine c.requires.node m.whole.size (m.whole.bytes p c.requires.node) c.requires.aligned sound c.write.ensures.after

pub returns-clause-told : goal.returns-clause-told
returns-clause-told g c =
    let m = c.args.self.now in
    λ i. record { shape = shape_of (c.write.ensures.count i) m.spans.items m.line_bytes; ticks = m.ticks; system = c.write.ensures.after i }
