use Rattle.std.proofs.Common.{◌≡◌, ℕ, ◌<◌, ◌≤◌, List, [], length, count_by, subst, sym, ap, ◌∙◌}
use Rattle.std.specs.List.{All}
use Rattle.elf64_load.specs.Layout.{AreApart, IsWithin, first_of_header, regions_in, size_of, spans, spans_of_headers, spans_of_segments}
use Rattle.elf64_load.specs.declared.segment.Segment.{Segment}
use Rattle.elf64_load.specs.declared.span.Span.{Span}
use Rattle.elf64_load.proofs.Orders.{once_in_order, some_in_order}
use Rattle.elf64_load.proofs.Pairs.{apart-from_shared}
use Rattle.elf64_load.proofs.Layouts.{spans-same, within-laid, regions-laid}
use Rattle.elf64_load.proofs.regions.Regions.load.Goals as goal

pub span_at-requires-clause-once : goal.span_at-requires-clause-once
span_at-requires-clause-once c =
    let hs = c.args.headers.now in
    let apart = apart-from_shared hs c.args.order.items c.requires.order c.requires.apart in
    let P : List Span → Type 0 = λ order. (a : ℕ) → count_by (spans a) order ≤ 1 in
    subst P (sym c.deref.ensures.value) (once_in_order (spans_of_headers hs) c.args.order.items apart)

pub span_at-requires-clause-some : goal.span_at-requires-clause-some
span_at-requires-clause-some c =
    let hs = c.args.headers.now in
    let P : List Span → Type 0 = λ order. All (λ (s : Span). 0 < s.len) order in
    subst P (sym c.deref.ensures.value) (some_in_order first_of_header size_of hs c.args.order.items c.requires.order)

pub invariant_of-result : goal.invariant_of-result
invariant_of-result c =
    let hs = c.args.headers.now in
    let file : List ℕ = c.args.file.now in
    let order : List Span = c.args.order.items in
    let bytes : List ℕ = c.in_ok-bytes.bytes.items in
    let Q : List Segment → Type 0 = λ ss. All (IsWithin (length bytes)) ss in
    let P : List Span → Type 0 = λ table. AreApart table order in
    let table : spans_of_headers hs ≡ spans_of_segments c.in_ok-bytes.segments.items =
    sym (ap spans_of_segments c.in_ok-bytes.ensures.segments ∙ spans-same 0 0 hs) in
    record {
      within = subst Q (sym c.in_ok-bytes.ensures.segments) (within-laid file bytes [] hs c.requires.bytes c.in_ok-bytes.ensures.bytes);
      apart = subst P table (apart-from_shared hs order c.requires.order c.requires.apart);
    }

pub returns : goal.returns
returns c =
    let hs = c.args.headers.now in
    let bytes : List ℕ = c.in_ok-bytes.bytes.items in
    ap (regions_in bytes) c.in_ok-bytes.ensures.segments
    ∙ regions-laid c.args.file.now bytes [] hs c.requires.bytes c.in_ok-bytes.ensures.bytes
