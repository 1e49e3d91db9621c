use Rattle.std.proofs.Common.{◌++◌, ◌<◌, append_assoc, refl, sym, ap, subst, ◌∙◌}
use Rattle.std.proofs.Math.Logic.{∥∥₁_map}
use Rattle.node_memory.specs.Sound.{IsSound}
use Rattle.coherent_memory.specs.FabricViews.{system_of}
use Rattle.coherent_memory.specs.SystemInvariants.{IsFine}
use Rattle.coherent_memory.specs.Systems.{System}
use Rattle.coherent_memory.specs.Turns.{Receives, Turn, begun, lost_at_begin}
use Rattle.coherent_memory.proofs.Fabrics.{nodes-sound}
use Rattle.coherent_memory.proofs.fabric.Fabric.turn.Goals as goal

pub returns-clause-turn : goal.returns-clause-turn
returns-clause-turn g c =
    let meaning = g.C.Carrier.meaning in
    let old = c.args.self.now in
    let s : System = system_of meaning old in
    let t : System = system_of meaning c.send_mails.new.self in
    let p = c.args.p.0 in
    let now = c.args.now in
    let first = lost_at_begin p now s in
    let (told, receives, lost) = c.receive.ensures.received in
    let turn : Turn p now s t (first ++ told) = record {
      taken = system_of meaning c.receive.new.self;
      sent = system_of meaning c.send_posts.new.self;
      told = told;
      receives = subst (λ (u : System). Receives p now u (system_of meaning c.receive.new.self) told) c.begin.ensures.after receives;
      home = c.send_posts.ensures.sent;
      node = c.send_mails.ensures.sent;
      lost = refl;
    } in
    let n = old.count in
    let sound = nodes-sound old.nodes p (subst (λ k. p < k) (sym old.node_count) c.requires.node) in
    let begun_self = c.begin.new.self in
    let below = subst (λ k. p < k) (sym (begun_self.node_count ∙ c.begin.ensures.count)) c.requires.node in
    let later : IsSound ((begun p now s).nodes p) = subst (λ (u : System). IsSound (u.nodes p)) c.begin.ensures.after (nodes-sound begun_self.nodes p below) in (
      first ++ told,
      turn,
      ∥∥₁_map old.fine (λ (fine : IsFine n s). c.turns_tell.ensures.turn n p now s t (first ++ told) fine sound later c.requires.node turn),
      lost ∙ (ap (λ xs. xs ++ told) c.begin.ensures.lost ∙ append_assoc c.args.lost.now.items first told),
    )

pub returns-clause-kept : goal.returns-clause-kept
returns-clause-kept g c =
    let meaning = g.C.Carrier.meaning in
    let old = c.args.self.now in
    let s : System = system_of meaning old in
    let t : System = system_of meaning c.send_mails.new.self in
    let p = c.args.p.0 in
    let now = c.args.now in
    let first = lost_at_begin p now s in
    let (told, receives, lost) = c.receive.ensures.received in
    let turn : Turn p now s t (first ++ told) = record {
      taken = system_of meaning c.receive.new.self;
      sent = system_of meaning c.send_posts.new.self;
      told = told;
      receives = subst (λ (u : System). Receives p now u (system_of meaning c.receive.new.self) told) c.begin.ensures.after receives;
      home = c.send_posts.ensures.sent;
      node = c.send_mails.ensures.sent;
      lost = refl;
    } in
    let n = old.count in
    let sound = nodes-sound old.nodes p (subst (λ k. p < k) (sym old.node_count) c.requires.node) in
    let begun_self = c.begin.new.self in
    let below = subst (λ k. p < k) (sym (begun_self.node_count ∙ c.begin.ensures.count)) c.requires.node in
    let later : IsSound ((begun p now s).nodes p) = subst (λ (u : System). IsSound (u.nodes p)) c.begin.ensures.after (nodes-sound begun_self.nodes p below) in
    ∥∥₁_map old.fine (λ (fine : IsFine n s). c.turns_tell.ensures.keeps n p now s t (first ++ told) fine sound later c.requires.node turn)
