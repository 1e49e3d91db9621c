use Rattle.std.proofs.Common.{List, sym, ap, ◌∙◌, arith}
use Rattle.std.proofs.lemmas.List.{at_drop_all}
use Rattle.order_log.specs.declared.waiting.Entry.{Entry}
use Rattle.order_log.proofs.Marks.{all_marked, all_marked-entries}
use Rattle.order_log.proofs.slots.mark_all.Goals as goal

pub returns-clause-marked : goal.returns-clause-marked
returns-clause-marked c = λ belongs own is.
    let first = c.args.first in
    let p = c.args.node.0 in
    let was = c.args.slots.now in
    let none_left = at_drop_all (λ (es : List Entry). all_marked first p c.args.span c.args.state es c.loop-entry.slots.items) c.args.entries.now c.loop-entry.entry-index c.loop-entry-test.false in
    sym none_left
    ∙ (c.loop-entry.invariant.marked
    ∙ (ap (λ (es : List Entry). all_marked first p c.args.span c.args.state es was.items) is
    ∙ all_marked-entries first p c.args.span c.args.state belongs own (omega arith) was.items (let ok = was.ok.0 in let small = was.small in omega arith)))
