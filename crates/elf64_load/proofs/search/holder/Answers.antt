use Rattle.std.proofs.Common.{get_or, cond, Some, None, sym, ap, ◌∙◌, arith}
use Rattle.std.specs.Option.{option_copied}
use Rattle.elf64_load.specs.declared.segment.Segment.{Segment}
use Rattle.elf64_load.proofs.Orders.{once_in_order, some_in_order}
use Rattle.elf64_load.proofs.Finds.{copied-then_some}
use Rattle.elf64_load.proofs.Holders.{no_segment, find-no_span, find-span, span_is}
use Rattle.elf64_load.proofs.search.holder.Goals as goal

pub span_at-requires-clause-once : goal.span_at-requires-clause-once
span_at-requires-clause-once c = once_in_order _ _ c.requires.apart

pub span_at-requires-clause-some : goal.span_at-requires-clause-some
span_at-requires-clause-some c =
    some_in_order (λ (s : Segment). s.first) (λ (s : Segment). s.len) c.args.segments.now c.args.order.now c.requires.apart.in_order

pub bounds-segments-place : goal.bounds-segments-place
bounds-segments-place c =
    let is = span_is c.args.segments.now c.args.order.now c.requires.apart c.args.addr c.in_ok-place.field-0.now (sym c.in_ok-place.ensures) in
    let high = is.high in
    omega (arith, high)

pub returns-in_err-place : goal.returns-in_err-place
returns-in_err-place c =
    ap option_copied c.from_residual.ensures
    ∙ sym (find-no_span c.args.segments.now c.args.order.now c.requires.apart c.args.addr c.args.count c.requires.some (sym c.in_err-place.ensures))

pub returns : goal.returns
returns c =
    let n = c.args.count in
    let segment : Segment = get_or c.args.segments.now c.in_ok-place.field-0.now.place no_segment in
    ap option_copied c.then_some.ensures
    ∙ copied-then_some c.has.result _
    ∙ ap (λ b. cond b (Some segment) None) c.has.ensures
    ∙ sym (find-span c.args.segments.now c.args.order.now c.requires.apart c.args.addr n c.requires.some c.in_ok-place.field-0.now no_segment (sym c.in_ok-place.ensures))
