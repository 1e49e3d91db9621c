use Rattle.std.proofs.Common.{length, sym, ap, ◌∙◌, arith, length-append}
use Rattle.std.proofs.lemmas.List.{length-map}
use Rattle.memory_contracts.specs.Parts.{wish_of}
use Rattle.node_memory.specs.NodeViews.{node_of}
use Rattle.node_memory.specs.NodeParts.{mail_of, mails_in}
use Rattle.node_memory.proofs.Beginning.{MayBegin, begin-shared, places-for, sound-shared}
use Rattle.node_memory.proofs.Below.{CacheLaws}
use Rattle.node_memory.proofs.Held.{copies_of, held-copy}
use Rattle.node_memory.proofs.node.NodeMemory.start_shared.Goals as goal

pub invariant_of-self : goal.invariant_of-self
invariant_of-self c =
    let laws : CacheLaws = assumption in
    let s = c.args.self.now in
    let v = node_of s in
    let w = wish_of c.args.wish in
    let may : MayBegin w v = record { unmet = c.requires.unmet; ready = c.requires.ready } in
    let shared = begin-shared w v may (sym (held-copy w.line v.levels (copies_of laws v.levels s.sound.levels)) ∙ c.requires.held) in
    let places = places-for w v c.requires.ready in
    let count = length-map s.outbox.posts.items (mail_of s.nodes) in
    let count' = length-map c.ask.new.outbox.posts.items (mail_of s.nodes) in
    let more = simp length-append at (ap length c.ask.ensures.posts) in
    record {
      sound = sound-shared laws w v c.hold_way.new.self c.ask.new.misses (mails_in s.nodes c.ask.new.outbox) s.sound shared c.hold_way.ensures.held c.ask.ensures.misses c.hold_way.ensures.sound (omega (arith, places, count, count', more));
      bytes = ap (λ l. l.line_bytes) c.hold_way.ensures.held ∙ s.bytes;
    }
