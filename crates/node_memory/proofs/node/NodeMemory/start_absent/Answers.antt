use Rattle.std.proofs.Common.{◌≡◌, ◌++◌, ◌∷◌, [], List, length, Option, Some, map, refl, sym, ap, ◌∙◌, arith, length-append}
use Rattle.std.proofs.lemmas.List.{length-map}
use Rattle.cache_levels.specs.declared.levels.Evicted.{Evicted}
use Rattle.memory_contracts.specs.Parts.{wish_of}
use Rattle.miss_registers.specs.Misses.{with_register}
use Rattle.node_memory.specs.NodeViews.{node_of}
use Rattle.node_memory.specs.NodeParts.{mail_of, mails_in}
use Rattle.node_memory.specs.Starting.{Begun, slots_with, starts_absent}
use Rattle.node_memory.specs.declared.outbox.Post.{Post}
use Rattle.node_memory.specs.declared.word.Word.TheVariants.{Get}
use Rattle.node_memory.proofs.Beginning.{MayBegin, begin-absent, evicted-absent, evicted-slotless, line_bytes-room, places-for, sound-absent, starts-absent}
use Rattle.node_memory.proofs.Below.{CacheLaws}
use Rattle.node_memory.proofs.Fits.{fit-sound}
use Rattle.node_memory.proofs.Held.{copies_of}
use Rattle.node_memory.proofs.Mails.{asks-is, mails-absent}
use Rattle.node_memory.proofs.Starting.{told_of}
use Rattle.node_memory.proofs.node.NodeMemory.start_absent.Goals as goal

pub make_room-requires-clause-slotless : goal.make_room-requires-clause-slotless
make_room-requires-clause-slotless c =
    let laws : CacheLaws = assumption in
    let s = c.args.self.now in
    let v = node_of s in
    let w = wish_of c.args.wish in
    let may : MayBegin w v = record { unmet = c.requires.unmet; ready = c.requires.ready } in
    let copies = copies_of laws v.levels s.sound.levels in
    evicted-slotless w v copies (fit-sound laws v s.sound) (begin-absent w v copies may c.requires.absent)

pub put_back-requires-clause-room : goal.put_back-requires-clause-room
put_back-requires-clause-room c =
    let s = c.args.self.now in
    let places = places-for (wish_of c.args.wish) (node_of s) c.requires.ready in
    let count = length-map s.outbox.posts.items (mail_of s.nodes) in
    omega (arith, places, count)

pub ask-requires-clause-room : goal.ask-requires-clause-room
ask-requires-clause-room c =
    let s = c.args.self.now in
    let places = places-for (wish_of c.args.wish) (node_of s) c.requires.ready in
    let count = length-map s.outbox.posts.items (mail_of s.nodes) in
    omega (arith, places, count, c.put_back.ensures.few)

pub invariant_of-self-2 : goal.invariant_of-self-2
invariant_of-self-2 c =
    let laws : CacheLaws = assumption in
    let s = c.args.self.now in
    let v = node_of s in
    let w = wish_of c.args.wish in
    let may : MayBegin w v = record { unmet = c.requires.unmet; ready = c.requires.ready } in
    let absent = begin-absent w v (copies_of laws v.levels s.sound.levels) may c.requires.absent in
    let told = told_of v.levels.copies absent.way.slot absent.way.line in
    let some : Some c.in-Some.evicted ≡ Some told = sym c.in-Some.is ∙ (c.make_room.ensures.evicted ∙ evicted-absent w v absent) in
    let same : c.in-Some.evicted ≡ told = cc in
    let misses = c.ask.ensures.misses ∙ ap (with_register w.line w.own) (c.in-Some.ensures.misses ∙ ap (λ (e : Evicted). slots_with e v.misses) same) in
    let places = places-for w v c.requires.ready in
    let count = length-map s.outbox.posts.items (mail_of s.nodes) in
    let count' = length-map c.ask.new.outbox.posts.items (mail_of s.nodes) in
    let more = simp length-append at (ap length c.ask.ensures.posts) in
    record {
      sound = sound-absent laws w v c.make_room.new.self.levels c.ask.new.misses (mails_in s.nodes c.ask.new.outbox) s.sound absent c.make_room.ensures.levels misses c.make_room.ensures.sound (omega (arith, places, count, count', more, c.put_back.ensures.few));
      bytes = ap (λ l. l.line_bytes) c.make_room.ensures.levels ∙ (line_bytes-room w v absent ∙ s.bytes);
    }

pub returns-clause-after : goal.returns-clause-after
returns-clause-after c =
    let laws : CacheLaws = assumption in
    let s = c.args.self.now in
    let v = node_of s in
    let w = wish_of c.args.wish in
    let may : MayBegin w v = record { unmet = c.requires.unmet; ready = c.requires.ready } in
    let absent = begin-absent w v (copies_of laws v.levels s.sound.levels) may c.requires.absent in
    let told = told_of v.levels.copies absent.way.slot absent.way.line in
    let some : Some c.in-Some.evicted ≡ Some told = sym c.in-Some.is ∙ (c.make_room.ensures.evicted ∙ evicted-absent w v absent) in
    let misses = c.ask.ensures.misses ∙ ap (with_register w.line w.own) c.in-Some.ensures.misses in
    let posts = c.ask.ensures.posts ∙ ap (λ (posts : List Post). posts ++ record { line = c.args.wish.line; word = Get c.args.wish.own } ∷ []) c.put_back.ensures.posts in
    let mails = ap (map (mail_of s.nodes)) posts ∙ mails-absent c.args.wish.line c.args.wish.own v s.outbox.posts.items c.in-Some.evicted refl in
    asks-is w.line w.own c.in-Some.evicted v c.make_room.new.self.levels c.ask.new.misses (mails_in s.nodes c.ask.new.outbox) c.make_room.ensures.levels misses mails
    ∙ sym (ap (λ (b : Begun). b.after) (starts-absent w v absent) ∙ ap (λ (e : Option Evicted). (starts_absent w e v).after) (sym some))
