-- Which segment has an address, by the spans in order.
use Rattle.std.proofs.Common.{◌≡◌, ℕ, ◌+◌, ◌-◌, ◌<◌, ◌≤◌, Bool, true, false, ◌&&◌, cond, nat_lt, nat_le, List, length, get_or, count_by, Some, None, ap, sym, ◌∙◌, arith}
use Rattle.std.specs.List.{find}
use Rattle.std.proofs.lemmas.Bool.{and_parts, and_from, leb-true, lt-ltb}
use Rattle.std.proofs.lemmas.List.Elements.{All-contains}
use Rattle.std.proofs.lemmas.List.Sorted.{Contains-permutation, IsPermutation-sym, sum_by-IsPermutation}
use Rattle.std.proofs.lemmas.Map.Entries.{option_filter}
use Rattle.elf64_load.specs.Layout.{has, spans, spans_of_segments, AreApart}
use Rattle.elf64_load.specs.declared.segment.Segment.{Segment}
use Rattle.elf64_load.specs.declared.span.Span.{Span}
use Rattle.elf64_load.proofs.Finds.{count-none, found-in, find-none-count, find-only, find-under}
use Rattle.elf64_load.proofs.Orders.{IsSpanOf, spans_are, count-spans}

-- what an index past the end reads
abbrev pub no_segment : Segment
no_segment = record { first = 0; start = 0; len = 0; may_read = false; may_write = false; may_run = false }

-- the byte at a is in the segment
abbrev pub at : ℕ → Segment → Bool
at a s = nat_le s.first a && nat_lt a (s.first + s.len)

pub at-has : (a n : ℕ) → 0 < n → (s : Segment) → has a n s ≡ true → at a s ≡ true
at-has a n some s h =
    let parts = and_parts (nat_le s.first a) (nat_le (a + n) (s.first + s.len)) h in
    let end : a + n ≤ s.first + s.len = leb-true _ _ parts.1 in
    and_from (nat_le s.first a) (nat_lt a (s.first + s.len)) parts.0 (lt-ltb a (s.first + s.len) (omega (arith, end)))

pub at-once : (segments : List Segment) (order : List Span) → AreApart (spans_of_segments segments) order → (a : ℕ) → count_by (at a) segments ≤ 1
at-once segments order h a =
    let once = h.once a in
    let same = count-spans (λ (s : Segment). s.first) (λ (s : Segment). s.len) a 0 segments in
    omega (arith, once, same)

pub has-once : (segments : List Segment) (order : List Span) → AreApart (spans_of_segments segments) order → (a n : ℕ) → 0 < n → find (has a n) segments ≡ option_filter (has a n) (find (at a) segments)
has-once segments order h a n some =
    find-under (has a n) (at a) (at-has a n some) segments (at-once segments order h a)

-- where no span has the address, no segment does
pub find-no_span : (segments : List Segment) (order : List Span) → AreApart (spans_of_segments segments) order → (a n : ℕ) → 0 < n → find (spans a) order ≡ None → find (has a n) segments ≡ None
find-no_span segments order h a n some e =
    let none = count-none (spans a) order e in
    let same = sum_by-IsPermutation (λ s. cond (spans a s) 1 0) (spans_of_segments segments) order h.in_order.same in
    let table = count-spans (λ (s : Segment). s.first) (λ (s : Segment). s.len) a 0 segments in
    find-none-count (has a n) (at a) (at-has a n some) segments (omega (arith, none, same, table))

pub span_is : (segments : List Segment) (order : List Span) → AreApart (spans_of_segments segments) order → (a : ℕ) (s : Span) → find (spans a) order ≡ Some s → IsSpanOf (λ (s : Segment). s.first) (λ (s : Segment). s.len) 0 segments s
span_is segments order h a s e =
    let found = found-in (spans a) order s e in
    let there = Contains-permutation order (spans_of_segments segments) s (IsPermutation-sym (spans_of_segments segments) order h.in_order.same) found.0 in
    All-contains (IsSpanOf (λ (s : Segment). s.first) (λ (s : Segment). s.len) 0 segments) (spans_of_segments segments) s (spans_are (λ (s : Segment). s.first) (λ (s : Segment). s.len) 0 segments) there

-- where a span has it, the segment at its place is the one that can have bytes from there on
pub find-span : (segments : List Segment) (order : List Span) → AreApart (spans_of_segments segments) order → (a n : ℕ) → 0 < n → (s : Span) (d : Segment) → find (spans a) order ≡ Some s → find (has a n) segments ≡ cond (has a n (get_or segments s.place d)) (Some (get_or segments s.place d)) None
find-span segments order h a n some s d e =
    let is = span_is segments order h a s e in
    let place : s.place - 0 ≡ s.place = omega arith in
    let segment : Segment = get_or segments s.place d in
    let first : s.first ≡ segment.first = is.first d ∙ ap (λ k. (get_or segments k d).first) place in
    let len : s.len ≡ segment.len = is.len d ∙ ap (λ k. (get_or segments k d).len) place in
    let passes : spans a s ≡ true = (found-in (spans a) order s e).1 in
    let here : at a segment ≡ true = ap (λ f. nat_le f a && nat_lt a (f + segment.len)) (sym first) ∙ ap (λ l. nat_le s.first a && nat_lt a (s.first + l)) (sym len) ∙ passes in
    let below : s.place < length segments = let high = is.high in omega (arith, high) in
    has-once segments order h a n some
    ∙ ap (option_filter (has a n)) (find-only (at a) segments s.place d below here (at-once segments order h a))
