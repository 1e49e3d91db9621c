use Rattle.std.proofs.Common.{◌≡◌, ◌+◌, ◌≤◌, ◌||◌, false, length, arith, not, sym, ap, ◌∙◌}
use Rattle.std.proofs.lemmas.Bool.{leb-true, not-false}
use Rattle.std.proofs.lemmas.List.{length-map}
use Rattle.memory_contracts.specs.Parts.{wish_of}
use Rattle.memory_contracts.specs.Protocol.Awaited.{is_leaving}
use Rattle.miss_registers.specs.Misses.{registers_full}
use Rattle.node_memory.specs.Nodes.{awaits, copy_of}
use Rattle.node_memory.specs.NodeViews.{node_of}
use Rattle.node_memory.specs.NodeParts.{mail_of}
use Rattle.node_memory.proofs.Held.{waits-not}
use Rattle.node_memory.proofs.node.NodeMemory.has_to_wait.Goals as goal
use Rattle.node_memory.proofs.node.NodeMemory.has_to_wait.Goals.{then-is_busy, else-is_busy}

pub returns-else-not-hold : goal.returns-else-not-hold
returns-else-not-hold c =
    let s = c.args.self.now in
    let v = node_of s in
    let w = wish_of c.args.wish in
    elim c.if-is_busy.branch [
      | then-is_busy x ↦ absurd cc
      | else-is_busy x ↦
          let free : (is_leaving (copy_of v w.line) || awaits v w.line || registers_full v.misses) ≡ false = sym c.is_busy.ensures ∙ x.if-is_busy.false in
          let room = leb-true (length s.outbox.posts.items + 2) 1024 (sym x.has_places.ensures ∙ not-false x.has_places.result (sym x.value-is ∙ c.if-not-has_places.false)) in
          let count = length-map s.outbox.posts.items (mail_of s.nodes) in
          let places : length v.outbox + 2 ≤ 1024 = omega (arith, room, count) in
          ap not c.if-not-hold.false ∙ sym (waits-not w v (sym c.hold.ensures.copy ∙ c.if-not-hold.false) places free)
    ]
