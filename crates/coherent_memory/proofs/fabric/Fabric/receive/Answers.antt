use Rattle.std.proofs.Common.{◌≡◌, ◌<◌, ℕ, true, false, [], ◌++◌, append-nil, refl, sym, ap, subst, ◌∙◌}
use Rattle.std.proofs.Math.Logic.{∥∥₁_map}
use Rattle.memory_contracts.specs.Carrier.{CarrierView}
use Rattle.memory_contracts.specs.Protocol.Events.{is_to_home}
use Rattle.memory_contracts.specs.Letters.{letter_of, said}
use Rattle.memory_contracts.specs.Updates.{with_at}
use Rattle.memory_contracts.specs.declared.message.Message.{Message}
use Rattle.directory.specs.Homes.{HomeView, home_after}
use Rattle.node_memory.specs.Nodes.{awaits, left_from}
use Rattle.node_memory.specs.Rows.{after_message, is_grant, lost_at}
use Rattle.coherent_memory.specs.FabricViews.{system_of}
use Rattle.coherent_memory.specs.Fabrics.{system_with}
use Rattle.coherent_memory.specs.SystemInvariants.{IsFine}
use Rattle.coherent_memory.specs.HomeRows.{homes_in}
use Rattle.coherent_memory.specs.NodeRows.{nodes_in}
use Rattle.coherent_memory.specs.Rooms.{Grows}
use Rattle.coherent_memory.specs.Systems.{System}
use Rattle.coherent_memory.specs.Turns.{ServesAll, by_home, by_node, full, node_takes, nothing, with_home, without_flight}
use Rattle.coherent_memory.proofs.Fabrics.{nodes-sound, with-carried}
use Rattle.coherent_memory.proofs.Messages.{from-below, grant-awaited, line-kept, room-of}
use Rattle.coherent_memory.proofs.Places.{with_at-same}
use Rattle.coherent_memory.proofs.Serving.{home_at-same, twice-home}
use Rattle.coherent_memory.proofs.fabric.Fabric.receive.Goals as goal

pub returns-then-not-has_room-clause-received : goal.returns-then-not-has_room-clause-received
returns-then-not-has_room-clause-received g c = ([], full (sym c.has_room.ensures ∙ c.if-not-has_room.true) refl, sym (append-nil c.args.lost.now.items))

pub returns-in_default-clause-received : goal.returns-in_default-clause-received
returns-in_default-clause-received g c =
    let s = c.args.self.now in
    let taken = c.in_default.ensures.taken in (
      [],
      nothing (sym c.has_room.ensures ∙ c.if-not-has_room.false) taken.0 (with-carried s.homes s.nodes (g.C.Carrier.meaning s.carrier) (g.C.Carrier.meaning c.take.new.self) taken.1),
      sym (append-nil c.args.lost.now.items),
    )

pub take-requires-then-goes_to_home-clause-line : goal.take-requires-then-goes_to_home-clause-line
take-requires-then-goes_to_home-clause-line g c =
    let s = c.args.self.now in
    let system : System = system_of g.C.Carrier.meaning s in
    let taken = c.in-Some.ensures.taken in
    let kind : is_to_home (said taken.flight.message) ≡ true = ap (λ (m : Message). is_to_home (said m)) taken.message ∙ (sym c.goes_to_home.ensures ∙ c.if-goes_to_home.true) in
    subst (λ (m : Message). (system.homes c.args.p.0).lines m.line.0 ≡ true) taken.message (line-kept s.count c.args.p.0 system s.fine c.requires.node taken.place taken.flight taken.stands taken.to kind)

pub take-requires-then-goes_to_home-clause-from : goal.take-requires-then-goes_to_home-clause-from
take-requires-then-goes_to_home-clause-from g c =
    let s = c.args.self.now in
    let system : System = system_of g.C.Carrier.meaning s in
    let taken = c.in-Some.ensures.taken in
    let kind : is_to_home (said taken.flight.message) ≡ true = ap (λ (m : Message). is_to_home (said m)) taken.message ∙ (sym c.goes_to_home.ensures ∙ c.if-goes_to_home.true) in
    subst (λ (m : Message). m.from.0 < (system.homes c.args.p.0).nodes) taken.message (from-below s.count c.args.p.0 system s.fine c.requires.node taken.place taken.flight taken.stands taken.to kind)

pub invariant_of-self-then-goes_to_home : goal.invariant_of-self-then-goes_to_home
invariant_of-self-then-goes_to_home g c =
    let s = c.args.self.now in
    let p = c.args.p.0 in
    let carrier = g.C.Carrier.meaning s.carrier in
    let system : System = system_of g.C.Carrier.meaning s in
    let taken = c.in-Some.ensures.taken in
    let f = taken.flight in
    let kind : is_to_home (said f.message) ≡ true = ap (λ (m : Message). is_to_home (said m)) taken.message ∙ (sym c.goes_to_home.ensures ∙ c.if-goes_to_home.true) in
    let same : system_with c.take-then-goes_to_home.new.self s.nodes (g.C.Carrier.meaning c.take.new.self) ≡ with_home p (home_after (letter_of f.message) c.args.now (system.homes p)) (without_flight taken.place system) =
    λ i. record {
      homes = (c.take-then-goes_to_home.ensures.after ∙ ap (λ (m : Message). with_at (homes_in s.homes) p (home_after (letter_of m) c.args.now (homes_in s.homes p))) (sym taken.message)) i;
      nodes = nodes_in s.nodes;
      carrier = taken.rest i;
    } in
    record {
      home_count = c.take-then-goes_to_home.ensures.count ∙ s.home_count;
      node_count = s.node_count;
      carried = ap (λ (v : CarrierView). v.nodes) taken.rest ∙ s.carried;
      few = s.few;
      fine = ∥∥₁_map s.fine (λ (fine : IsFine s.count system). subst (IsFine s.count) (sym same) (c.steps_keep_lines.ensures.home s.count p c.args.now taken.place f system fine c.requires.node taken.stands taken.to kind).fine);
    }

pub serve_waiting-requires-clause-line : goal.serve_waiting-requires-clause-line
serve_waiting-requires-clause-line g c =
    let s = c.args.self.now in
    let system : System = system_of g.C.Carrier.meaning s in
    let taken = c.in-Some.ensures.taken in
    let p = c.args.p.0 in
    let kind : is_to_home (said taken.flight.message) ≡ true = ap (λ (m : Message). is_to_home (said m)) taken.message ∙ (sym c.goes_to_home.ensures ∙ c.if-goes_to_home.true) in
    let was = subst (λ (m : Message). (system.homes p).lines m.line.0 ≡ true) taken.message (line-kept s.count p system s.fine c.requires.node taken.place taken.flight taken.stands taken.to kind) in
    let new = ap (λ (f : ℕ → HomeView). f p) c.take-then-goes_to_home.ensures.after ∙ with_at-same (homes_in s.homes) p (home_after (letter_of c.in-Some.m) c.args.now (homes_in s.homes p)) in
    ap (λ (h : HomeView). h.lines c.in-Some.m.line.0) new ∙ was

pub serve_waiting-requires-clause-room : goal.serve_waiting-requires-clause-room
serve_waiting-requires-clause-room g c =
    let s = c.args.self.now in
    let p = c.args.p.0 in
    let system : System = system_of g.C.Carrier.meaning s in
    let u = system.homes p in
    let m = c.in-Some.m in
    let room = room-of s.count p system s.fine c.requires.node (sym c.has_room.ensures ∙ c.if-not-has_room.false) in
    let new = ap (λ (f : ℕ → HomeView). f p) c.take-then-goes_to_home.ensures.after ∙ with_at-same (homes_in s.homes) p (home_after (letter_of m) c.args.now u) in
    (u, room, subst (λ (h : HomeView). Grows m.line.0 u h) (sym new) (c.rooms_suffice.ensures.taking c.args.now (letter_of m) u u (c.rooms_suffice.ensures.start m.line.0 u)))

pub take-requires-else-goes_to_home-clause-awaited : goal.take-requires-else-goes_to_home-clause-awaited
take-requires-else-goes_to_home-clause-awaited g c =
    let s = c.args.self.now in
    let system : System = system_of g.C.Carrier.meaning s in
    let taken = c.in-Some.ensures.taken in
    subst (λ (m : Message). is_grant (said m) ≡ true → awaits (system.nodes c.args.p.0) m.line.0 ≡ true) taken.message
    (grant-awaited s.count c.args.p.0 system s.fine c.requires.node taken.place taken.flight taken.stands taken.to c.steps_keep_lines.ensures.awaited)

pub invariant_of-self-else-goes_to_home : goal.invariant_of-self-else-goes_to_home
invariant_of-self-else-goes_to_home g c =
    let s = c.args.self.now in
    let p = c.args.p.0 in
    let system : System = system_of g.C.Carrier.meaning s in
    let taken = c.in-Some.ensures.taken in
    let f = taken.flight in
    let kind : is_to_home (said f.message) ≡ false = ap (λ (m : Message). is_to_home (said m)) taken.message ∙ (sym c.goes_to_home.ensures ∙ c.if-goes_to_home.false) in
    let sound = nodes-sound s.nodes p (subst (λ n. p < n) (sym s.node_count) c.requires.node) in
    let same : system_with s.homes c.take-else-goes_to_home.new.self (g.C.Carrier.meaning c.take.new.self) ≡ node_takes p f.message (without_flight taken.place system) =
    λ i. record {
      homes = homes_in s.homes;
      nodes = (c.take-else-goes_to_home.ensures.after ∙ ap (λ (m : Message). with_at (nodes_in s.nodes) p (after_message (letter_of m) (nodes_in s.nodes p))) (sym taken.message)) i;
      carrier = taken.rest i;
    } in
    record {
      home_count = s.home_count;
      node_count = c.take-else-goes_to_home.ensures.count ∙ s.node_count;
      carried = ap (λ (v : CarrierView). v.nodes) taken.rest ∙ s.carried;
      few = s.few;
      fine = ∥∥₁_map s.fine (λ (fine : IsFine s.count system). subst (IsFine s.count) (sym same) (c.nodes_keep_lines.ensures.node s.count p taken.place f system fine c.requires.node sound taken.stands taken.to kind).fine);
    }

pub returns-then-goes_to_home-clause-received : goal.returns-then-goes_to_home-clause-received
returns-then-goes_to_home-clause-received g c =
    let s = c.args.self.now in
    let p = c.args.p.0 in
    let system : System = system_of g.C.Carrier.meaning s in
    let taken = c.in-Some.ensures.taken in
    let f = taken.flight in
    let kind : is_to_home (said f.message) ≡ true = ap (λ (m : Message). is_to_home (said m)) taken.message ∙ (sym c.goes_to_home.ensures ∙ c.if-goes_to_home.true) in
    let after = home_after (letter_of f.message) c.args.now (system.homes p) in
    let rest : System = without_flight taken.place system in
    let same : system_with c.take-then-goes_to_home.new.self s.nodes (g.C.Carrier.meaning c.take.new.self) ≡ with_home p after rest =
    λ i. record {
      homes = (c.take-then-goes_to_home.ensures.after ∙ ap (λ (m : Message). with_at (homes_in s.homes) p (home_after (letter_of m) c.args.now (homes_in s.homes p))) (sym taken.message)) i;
      nodes = nodes_in s.nodes;
      carrier = taken.rest i;
    } in
    let (home, serves, is) = c.serve_waiting.ensures.served in
    let start = ap (λ (u : System). u.homes p) same ∙ home_at-same p after rest in (
      [],
      by_home taken.place f (sym c.has_room.ensures ∙ c.if-not-has_room.false) taken.next taken.stands taken.to kind (
        home,
        subst (λ (m : Message). ServesAll m.line.0 c.args.now after home) (sym taken.message) (subst (λ (h : HomeView). ServesAll c.in-Some.m.line.0 c.args.now h home) start serves),
        is ∙ (ap (λ (u : System). with_home p home u) same ∙ twice-home p home after rest),
      ),
      sym (append-nil c.args.lost.now.items),
    )

pub returns-else-goes_to_home-clause-received : goal.returns-else-goes_to_home-clause-received
returns-else-goes_to_home-clause-received g c =
    let s = c.args.self.now in
    let p = c.args.p.0 in
    let system : System = system_of g.C.Carrier.meaning s in
    let taken = c.in-Some.ensures.taken in
    let f = taken.flight in
    let kind : is_to_home (said f.message) ≡ false = ap (λ (m : Message). is_to_home (said m)) taken.message ∙ (sym c.goes_to_home.ensures ∙ c.if-goes_to_home.false) in (
      left_from (system.nodes p).at (lost_at (letter_of f.message) (system.nodes p)),
      by_node taken.place f (sym c.has_room.ensures ∙ c.if-not-has_room.false) taken.next taken.stands taken.to kind
          (λ i. record {
            homes = homes_in s.homes;
            nodes = (c.take-else-goes_to_home.ensures.after ∙ ap (λ (m : Message). with_at (nodes_in s.nodes) p (after_message (letter_of m) (nodes_in s.nodes p))) (sym taken.message)) i;
            carrier = taken.rest i;
          }),
      c.take-else-goes_to_home.ensures.lost ∙ ap (λ (m : Message). c.args.lost.now.items ++ left_from (system.nodes p).at (lost_at (letter_of m) (system.nodes p))) (sym taken.message),
    )
