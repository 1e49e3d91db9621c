use Rattle.std.proofs.Common.{cond, Some, None, sym, ap, ◌∙◌, arith}
use Rattle.std.specs.Option.{option_copied}
use Rattle.std.proofs.lemmas.Map.Entries.{option_filter}
use Rattle.elf64_load.specs.Layout.{runs}
use Rattle.elf64_load.specs.declared.segment.Segment.{Segment}
use Rattle.elf64_load.proofs.Finds.{copied-then_some}
use Rattle.elf64_load.proofs.Views.{find-held, find-tried}
use Rattle.elf64_load.proofs.regions.text_at.Goals as goal

pub returns : goal.returns
returns c =
    let tried = c.in-Some.ensures.lookup in
    sym (find-tried c.args.segments.now c.args.order.now c.requires c.args.pc 4 runs (omega arith) c.args.likely c.in-Some.segment.now tried.3.0 tried.1 (sym c.if-is_text.ensures) (sym c.if-has.ensures))

pub returns-in_err-segment : goal.returns-in_err-segment
returns-in_err-segment c =
    ap option_copied c.from_residual.ensures
    ∙ sym (find-held c.args.segments.now c.args.order.now c.requires c.args.pc 4 runs (omega arith)
    ∙ ap (option_filter runs) (sym c.in_err-segment.ensures))

pub returns-2 : goal.returns-2
returns-2 c =
    let segment : Segment = c.in_ok-segment.segment.now in
    ap option_copied c.then_some.ensures
    ∙ copied-then_some c.is_text-2.result c.in_ok-segment.segment
    ∙ ap (λ b. cond b (Some segment) None) c.is_text-2.ensures
    ∙ sym (find-held c.args.segments.now c.args.order.now c.requires c.args.pc 4 runs (omega arith)
    ∙ ap (option_filter runs) (sym c.in_ok-segment.ensures))
