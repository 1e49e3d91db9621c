use Rattle.std.proofs.Common.{nat_le, cond, Some, None, sym, ap, ◌∙◌, rules}
use Rattle.std.specs.Option.{option_copied}
use Rattle.std.proofs.lemmas.List.Sorted.{IsPartitionPoint-from_clause, IsPartitionedBy-leb}
use Rattle.std.proofs.lemmas.Map.Entries.{option_filter}
use Rattle.elf64_load.specs.Layout.{spans}
use Rattle.elf64_load.specs.declared.span.Span.{Span}
use Rattle.elf64_load.proofs.Finds.{copied-then_some}
use Rattle.elf64_load.proofs.Orders.{find-searched}
use Rattle.elf64_load.proofs.search.span_at.Goals as goal

pub returns-in_err-span : goal.returns-in_err-span
returns-in_err-span c =
    let point = IsPartitionPoint-from_clause (λ (s : Span). nat_le s.first c.args.addr) c.args.order.now c.partition_point-after.result c.partition_point-after.ensures.partitioned (IsPartitionedBy-leb (λ (s : Span). s.first) c.args.order.now c.args.addr c.requires.rising) (λ a r q k. search rules) in
    let found = find-searched c.args.addr c.args.order.now c.partition_point-after.result c.partition_point-after.ensures.bound point c.requires.rising c.requires.once c.requires.some in
    ap option_copied c.from_residual.ensures
    ∙ sym (found ∙ ap (option_filter (spans c.args.addr)) (sym c.in_err-span.ensures.value))

pub returns : goal.returns
returns c =
    let point = IsPartitionPoint-from_clause (λ (s : Span). nat_le s.first c.args.addr) c.args.order.now c.partition_point-after.result c.partition_point-after.ensures.partitioned (IsPartitionedBy-leb (λ (s : Span). s.first) c.args.order.now c.args.addr c.requires.rising) (λ a r q k. search rules) in
    let found = find-searched c.args.addr c.args.order.now c.partition_point-after.result c.partition_point-after.ensures.bound point c.requires.rising c.requires.once c.requires.some in
    ap option_copied c.then_some.ensures
    ∙ copied-then_some c.has.result c.in_ok-span.span
    ∙ ap (λ b. cond b (Some c.in_ok-span.span.now) None) c.has.ensures
    ∙ sym (found ∙ ap (option_filter (spans c.args.addr)) (sym c.in_ok-span.ensures.value))
