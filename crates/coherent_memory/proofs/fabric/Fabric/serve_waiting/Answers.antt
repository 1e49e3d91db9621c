use Rattle.std.proofs.Common.{◌<◌, ℕ, Bool, length, refl, sym, ap, subst, ◌∙◌, arith}
use Rattle.directory.specs.Homes.{HomeView, Serves}
use Rattle.coherent_memory.specs.FabricViews.{system_of}
use Rattle.coherent_memory.specs.Rooms.{Grows}
use Rattle.coherent_memory.specs.Systems.{System}
use Rattle.coherent_memory.proofs.Serving.{lines-served, now-home, room-stays, serving-end, serving-more, serving-start}
use Rattle.coherent_memory.proofs.fabric.Fabric.serve_waiting.Goals as goal

pub loop-p-init : goal.loop-p-init
loop-p-init g c = record {
  count = refl;
  line = c.requires.line;
  room = c.requires.room;
  serving = serving-start c.args.p.0 c.args.line.0 c.args.now (system_of g.C.Carrier.meaning c.args.self.now);
}

pub serve_one-requires-clause-node : goal.serve_one-requires-clause-node
serve_one-requires-clause-node g c = subst (λ (n : ℕ). c.args.p.0 < n) (sym c.loop-p.invariant.count) c.requires.node

pub serve_one-requires-clause-line : goal.serve_one-requires-clause-line
serve_one-requires-clause-line g c = c.loop-p.invariant.line

pub serve_one-requires-clause-room : goal.serve_one-requires-clause-room
serve_one-requires-clause-room g c =
    let s : System = system_of g.C.Carrier.meaning c.loop-p.self in
    let n = c.loop-p.self.count in
    let count = c.loop-p.invariant.count in
    let (u, room, grows) = c.loop-p.invariant.room in
    let below = subst (λ (k : ℕ). c.args.p.0 < k) (sym count) c.requires.node in
    room-stays c.rooms_suffice.ensures.room n c.args.p.0 c.args.line.0 u s c.loop-p.self.fine below (omega (arith, room, count)) grows

pub loop-p-smaller : goal.loop-p-smaller
loop-p-smaller g c =
    let s : System = system_of g.C.Carrier.meaning c.loop-p.self in
    let t : System = system_of g.C.Carrier.meaning c.serve_one.new.self in
    let p = c.args.p.0 in
    let line = c.args.line.0 in
    let (home, serves, is) = c.serve_one.ensures.served in
    let yes = subst (λ (b : Bool). Serves line c.args.now (s.homes p) home b) c.loop-p-test.true serves in
    let new = now-home p line c.args.now (system_of g.C.Carrier.meaning c.args.self.now) s t home c.loop-p.invariant.serving is in
    let less = c.rooms_suffice.ensures.shorter line c.args.now (s.homes p) home yes in
    subst (λ (h : HomeView). length h.waiting < length (s.homes p).waiting) (sym new) (omega (arith, less))

pub loop-p-preserved : goal.loop-p-preserved
loop-p-preserved g c =
    let first : System = system_of g.C.Carrier.meaning c.args.self.now in
    let s : System = system_of g.C.Carrier.meaning c.loop-p.self in
    let t : System = system_of g.C.Carrier.meaning c.serve_one.new.self in
    let p = c.args.p.0 in
    let line = c.args.line.0 in
    let (home, serves, is) = c.serve_one.ensures.served in
    let yes = subst (λ (b : Bool). Serves line c.args.now (s.homes p) home b) c.loop-p-test.true serves in
    let new = now-home p line c.args.now first s t home c.loop-p.invariant.serving is in
    let (u, room, grows) = c.loop-p.invariant.room in
    record {
      count = c.serve_one.ensures.count ∙ c.loop-p.invariant.count;
      line = ap (λ (h : HomeView). h.lines line) new ∙ (lines-served line c.args.now line (s.homes p) home yes ∙ c.loop-p.invariant.line);
      room = (u, room, subst (λ (h : HomeView). Grows line u h) (sym new) (c.rooms_suffice.ensures.serving line c.args.now u (s.homes p) home grows yes));
      serving = serving-more p line c.args.now first s t home c.loop-p.invariant.serving is yes;
    }

pub returns-clause-served : goal.returns-clause-served
returns-clause-served g c =
    let first : System = system_of g.C.Carrier.meaning c.args.self.now in
    let s : System = system_of g.C.Carrier.meaning c.loop-p.self in
    let t : System = system_of g.C.Carrier.meaning c.serve_one.new.self in
    let p = c.args.p.0 in
    let line = c.args.line.0 in
    let (home, serves, is) = c.serve_one.ensures.served in
    serving-end p line c.args.now first s t home c.loop-p.invariant.serving is (subst (λ (b : Bool). Serves line c.args.now (s.homes p) home b) c.loop-p-test.false serves)

pub returns-clause-count : goal.returns-clause-count
returns-clause-count g c = c.serve_one.ensures.count ∙ c.loop-p.invariant.count
