use Rattle.std.proofs.Common.{◌++◌, sym, ap, ◌∙◌, append-nil}
use Rattle.memory_contracts.specs.Parts.{wish_of}
use Rattle.node_memory.specs.Nodes.{left_from}
use Rattle.node_memory.specs.NodeViews.{node_of}
use Rattle.node_memory.specs.Starting.{Begun}
use Rattle.node_memory.proofs.Beginning.{MayBegin, begin-shared, starts-shared}
use Rattle.node_memory.proofs.node.NodeMemory.start.Goals as goal

pub returns-then-hold-clause-after : goal.returns-then-hold-clause-after
returns-then-hold-clause-after c =
    let s = c.args.self.now in
    let v = node_of s in
    let w = wish_of c.args.wish in
    let may : MayBegin w v = record { unmet = c.requires.unmet; ready = c.requires.ready } in
    let shared = begin-shared w v may (sym c.hold.ensures.copy ∙ c.if-hold.true) in
    c.start_shared.ensures ∙ sym (ap (λ (b : Begun). b.after) (starts-shared w v shared))

pub returns-then-hold-clause-lost : goal.returns-then-hold-clause-lost
returns-then-hold-clause-lost c =
    let s = c.args.self.now in
    let v = node_of s in
    let w = wish_of c.args.wish in
    let may : MayBegin w v = record { unmet = c.requires.unmet; ready = c.requires.ready } in
    let shared = begin-shared w v may (sym c.hold.ensures.copy ∙ c.if-hold.true) in
    sym (ap (λ (b : Begun). c.args.lost.now.items ++ left_from v.at b.lost) (starts-shared w v shared) ∙ append-nil c.args.lost.now.items)
