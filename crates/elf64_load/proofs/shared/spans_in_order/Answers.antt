use Rattle.std.proofs.Common.{◌≡◌, List, ◌++◌, subst, sym, ap, ◌∙◌, rules}
use Rattle.std.specs.List.Sorted.{IsPermutation}
use Rattle.std.proofs.lemmas.List.{append-nil, drop_all}
use Rattle.std.proofs.lemmas.List.Sorted.{IsNonDecreasingBy-from_sort_by_key}
use Rattle.elf64_load.specs.Layout.{first_of_header, size_of, spans_from, spans_of_headers}
use Rattle.elf64_load.specs.declared.header.ProgramHeader.{ProgramHeader}
use Rattle.elf64_load.specs.declared.span.Span.{Span}
use Rattle.elf64_load.proofs.shared.spans_in_order.Goals as goal

pub returns : goal.returns
returns c =
    let hs = c.args.headers.now in
    let items : List Span = c.loop-i.order.items in
    let all : items ≡ spans_of_headers hs =
    sym (append-nil items) ∙ ap (λ (l : List ProgramHeader). items ++ spans_from first_of_header size_of c.loop-i.i l) (sym (drop_all c.loop-i.i hs c.loop-i-test.false)) ∙ c.loop-i.invariant in
    let sorted : List Span = c.sort_unstable_by_key.new.self.items in
    record {
      same = subst (λ (l : List Span). IsPermutation l sorted) all c.sort_unstable_by_key.ensures.permutation;
      rising = IsNonDecreasingBy-from_sort_by_key (λ (s : Span). s.first) sorted c.sort_unstable_by_key.ensures.sorted (λ a r q k. search rules);
    }
