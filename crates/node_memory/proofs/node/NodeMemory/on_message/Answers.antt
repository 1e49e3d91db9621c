use Rattle.std.proofs.Common.{length, ap, ◌∙◌, arith, length-append}
use Rattle.std.proofs.lemmas.Bool.{ltb-true}
use Rattle.std.proofs.lemmas.List.{length-map}
use Rattle.memory_contracts.specs.Letters.{letter_of}
use Rattle.node_memory.specs.Nodes.{most_mails}
use Rattle.node_memory.specs.NodeViews.{node_of}
use Rattle.node_memory.specs.NodeParts.{mail_of, mails_in}
use Rattle.node_memory.specs.Rows.{change_by, levels_after, misses_after}
use Rattle.node_memory.specs.declared.table.Change.{Change}
use Rattle.node_memory.proofs.Below.{CacheLaws}
use Rattle.node_memory.proofs.Fits.{line_bytes-after, sound-message}
use Rattle.node_memory.proofs.node.NodeMemory.on_message.Goals as goal

pub invariant_of-self : goal.invariant_of-self
invariant_of-self c =
    let laws : CacheLaws = assumption in
    let s = c.args.self.now in
    let v = node_of s in
    let m = letter_of c.args.m.now in
    let change = c.at-row.ensures.change ∙ ap (change_by m.message) c.copy-copy.ensures in
    let levels = c.change.ensures.levels ∙ ap (λ (change : Change). levels_after change m.line v.levels) change in
    let misses = c.change.ensures.misses ∙ ap (λ (change : Change). misses_after change m.line v.misses) change in
    let few = ltb-true (length v.outbox) most_mails c.requires.room in
    let count = length-map s.outbox.posts.items (mail_of s.nodes) in
    let more = simp length-append at (ap length c.push.ensures) in
    let count' = length-map c.push.new.self.posts.items (mail_of s.nodes) in
    record {
      sound = sound-message laws m v c.change.new.self.levels c.change.new.self.misses (mails_in s.nodes c.push.new.self) s.sound c.requires.awaited levels misses c.change.ensures.sound (omega (arith, few, count, count', more));
      bytes = ap (λ l. l.line_bytes) c.change.ensures.levels ∙ (line_bytes-after c.at-row.result.change m.line v.levels ∙ s.bytes);
    }

pub invariant_of-self-in_default : goal.invariant_of-self-in_default
invariant_of-self-in_default c =
    let laws : CacheLaws = assumption in
    let s = c.args.self.now in
    let v = node_of s in
    let m = letter_of c.args.m.now in
    let change = c.at-row.ensures.change ∙ ap (change_by m.message) c.copy-copy.ensures in
    let levels = c.change.ensures.levels ∙ ap (λ (change : Change). levels_after change m.line v.levels) change in
    let misses = c.change.ensures.misses ∙ ap (λ (change : Change). misses_after change m.line v.misses) change in
    record {
      sound = sound-message laws m v c.change.new.self.levels c.change.new.self.misses v.outbox s.sound c.requires.awaited levels misses c.change.ensures.sound s.sound.outbox;
      bytes = ap (λ l. l.line_bytes) c.change.ensures.levels ∙ (line_bytes-after c.at-row.result.change m.line v.levels ∙ s.bytes);
    }
