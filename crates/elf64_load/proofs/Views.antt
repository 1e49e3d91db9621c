-- Regions as callers see them, and the segments that they are kept as.
use Rattle.std.proofs.Common.{◌≡◌, ℕ, ◌+◌, ◌-◌, ◌<◌, ◌≤◌, Bool, true, false, ◌&&◌, cond, nat_lt, nat_le, List, length, get_or, take, drop, Option, Some, None, is_some, option_map, refl, ap, sym, ◌∙◌, inl, inr, arith}
use denote.Ref.{Bor}
use Rattle.std.specs.Option.{option_copied, MatchOption}
use Rattle.std.specs.List.{All, find, list_any}
use Rattle.std.proofs.lemmas.Bool.{cases_Bool, and_parts, and_from, and_right, leb-true, ltb-true, le-leb, lt-ltb}
use Rattle.std.proofs.lemmas.List.{length-take-le, length-drop}
use Rattle.std.proofs.lemmas.List.Elements.{All-contains}
use Rattle.std.proofs.lemmas.Map.Entries.{option_filter}
use Rattle.elf64_load.specs.Image.{RegionView, holds}
use Rattle.elf64_load.specs.Layout.{has, spans, region_in, regions_in, spans_of_segments, IsWithin, AreApart}
use Rattle.elf64_load.specs.declared.segment.Segment.{Segment}
use Rattle.elf64_load.specs.declared.span.Span.{Span}
use Rattle.elf64_load.proofs.Finds.{any-find, find-kept, find-under, find-only, found-in}
use Rattle.elf64_load.proofs.Layouts.{has-bounds}
use Rattle.elf64_load.proofs.Holders.{at, at-has, at-once, has-once, no_segment, find-no_span, find-span, span_is}

length-region : (bytes : List ℕ) (s : Segment) → IsWithin (length bytes) s → length (take s.len (drop s.start bytes)) ≡ s.len
length-region bytes s h =
    let rest = length-drop s.start bytes in
    length-take-le s.len (drop s.start bytes) (omega (arith, rest, h))

-- a region has the addresses of its segment, and one that has any has bytes
holds-has : (bytes : List ℕ) (a n : ℕ) → 0 < n → (s : Segment) → IsWithin (length bytes) s → has a n s ≡ (nat_lt 0 s.len && holds a n (region_in bytes s))
holds-has bytes a n some s h =
    let same : holds a n (region_in bytes s) ≡ has a n s = ap (λ l. nat_le s.first a && nat_le (a + n) (s.first + l)) (length-region bytes s h) in
    elim (cases_Bool (has a n s)) [
      | inl pass ↦ let bounds = has-bounds a n s pass in
          let bytes_there : nat_lt 0 s.len ≡ true = lt-ltb 0 s.len (omega (arith, some, bounds.0, bounds.1)) in
          pass ∙ sym (rw (bytes_there, same) pass)
      | inr fail ↦ fail ∙ sym (and_right (nat_lt 0 s.len) (holds a n (region_in bytes s)) (same ∙ fail))
    ]

-- a test beside it
and_both : (t k h p : Bool) → p ≡ (k && h) → (t && p) ≡ (k && (t && h))
and_both true k h p e = e
and_both false true h p e = refl
and_both false false h p e = refl

-- the first region with an address that passes a test is that of the first such segment
pub find-regions : (bytes : List ℕ) (segments : List Segment) (a n : ℕ) (t : Segment → Bool) (u : RegionView → Bool) → ((s : Segment) → u (region_in bytes s) ≡ t s) → 0 < n → All (IsWithin (length bytes)) segments → find (λ r. u r && holds a n r) (regions_in bytes segments) ≡ option_map (region_in bytes) (find (λ s. t s && has a n s) segments)
find-regions bytes segments a n t u same some within =
    find-kept (λ r. u r && holds a n r) (region_in bytes) (λ (s : Segment). nat_lt 0 s.len) (λ s. t s && has a n s) segments (λ k d below.
    let s : Segment = get_or segments k d in
    and_both (t s) (nat_lt 0 s.len) (holds a n (region_in bytes s)) (has a n s) (holds-has bytes a n some s (within k d below))
    ∙ ap (λ b. nat_lt 0 s.len && (b && holds a n (region_in bytes s))) (sym (same s)))

is_some-map : {X Y : Type 0} (f : X → Y) (o : Option X) → is_some (option_map f o) ≡ is_some o
is_some-map f None = refl
is_some-map f (Some x) = refl

pub any-regions : (bytes : List ℕ) (segments : List Segment) (a n : ℕ) (t : Segment → Bool) (u : RegionView → Bool) → ((s : Segment) → u (region_in bytes s) ≡ t s) → 0 < n → All (IsWithin (length bytes)) segments → list_any (λ r. u r && holds a n r) (regions_in bytes segments) ≡ is_some (find (λ s. t s && has a n s) segments)
any-regions bytes segments a n t u same some within =
    any-find (λ r. u r && holds a n r) (regions_in bytes segments)
    ∙ ap is_some (find-regions bytes segments a n t u same some within)
    ∙ is_some-map (region_in bytes) (find (λ s. t s && has a n s) segments)

both_tests : {X : Type 0} (b c : Bool) (x : X) (t : X → Bool) → t x ≡ b → cond (b && c) (Some x) None ≡ option_filter t (cond c (Some x) None)
both_tests true true x t e = sym (rw e refl)
both_tests false true x t e = sym (rw e refl)
both_tests true false x t e = refl
both_tests false false x t e = refl

option_filter-both : {X : Type 0} (t p : X → Bool) (o : Option X) → option_filter (λ x. t x && p x) o ≡ option_filter t (option_filter p o)
option_filter-both t p None = refl
option_filter-both t p (Some x) = both_tests (t x) (p x) x t refl

-- of the segments with an address, the first that passes a test is the only one, if it passes
pub find-held : (segments : List Segment) (order : List Span) → AreApart (spans_of_segments segments) order → (a n : ℕ) (t : Segment → Bool) → 0 < n → find (λ s. t s && has a n s) segments ≡ option_filter t (find (has a n) segments)
find-held segments order h a n t some =
    find-under (λ s. t s && has a n s) (at a) (λ s both. at-has a n some s (and_parts (t s) (has a n s) both).1) segments (at-once segments order h a)
    ∙ option_filter-both t (has a n) (find (at a) segments)
    ∙ ap (option_filter t) (sym (has-once segments order h a n some))

-- one that passes and has the address is the first
pub find-tried : (segments : List Segment) (order : List Span) → AreApart (spans_of_segments segments) order → (a n : ℕ) (t : Segment → Bool) → 0 < n → (k : ℕ) (s : Segment) → k < length segments → s ≡ get_or segments k s → t s ≡ true → has a n s ≡ true → find (λ s. t s && has a n s) segments ≡ Some s
find-tried segments order h a n t some k s below is pass there =
    find-under (λ s. t s && has a n s) (at a) (λ s both. at-has a n some s (and_parts (t s) (has a n s) both).1) segments (at-once segments order h a)
    ∙ ap (option_filter (λ s. t s && has a n s)) (find-only (at a) segments k s below (sym (ap (at a) is) ∙ at-has a n some s there) (at-once segments order h a) ∙ ap Some (sym is))
    ∙ rw (pass, there) refl

-- what is found has the address, and its bytes are there
pub found-segment : (bytes : List ℕ) (segments : List Segment) (a n : ℕ) (t : Segment → Bool) (s : Segment) → All (IsWithin (length bytes)) segments → find (λ s. t s && has a n s) segments ≡ Some s → (has a n s ≡ true) × IsWithin (length bytes) s
found-segment bytes segments a n t s within e =
    let found = found-in (λ s. t s && has a n s) segments s e in
    ((and_parts (t s) (has a n s) found.1).1, All-contains (IsWithin (length bytes)) segments s within found.0)

some-tested : {X : Type 0} (b : Bool) (x : X) → b ≡ is_some (cond b (Some x) None)
some-tested true x = refl
some-tested false x = refl

-- a test of what may be there
pub some-passes : {X : Type 0} (t : X → Bool) (o : Option (Bor X)) (b : Bool) → MatchOption o (b ≡ false) (λ r. b ≡ t r.now) → b ≡ is_some (option_filter t (option_copied o))
some-passes t None b e = e
some-passes t (Some r) b e = e ∙ some-tested (t r.now) r.now

-- what is in a span is in a segment
pub spans-has : (segments : List Segment) (order : List Span) → AreApart (spans_of_segments segments) order → (a : ℕ) → is_some (find (spans a) order) ≡ is_some (find (has a 1) segments)
spans-has segments order h a = by_span (find (spans a) order) refl
  where
    by_span : (o : Option Span) → find (spans a) order ≡ o → is_some o ≡ is_some (find (has a 1) segments)
    by_span None e = ap is_some (sym (find-no_span segments order h a 1 (omega arith) e))
    by_span (Some s) e =
        let is = span_is segments order h a s e in
        let d = no_segment in
        let segment : Segment = get_or segments s.place d in
        let place : s.place - 0 ≡ s.place = omega arith in
        let first : s.first ≡ segment.first = is.first d ∙ ap (λ k. (get_or segments k d).first) place in
        let len : s.len ≡ segment.len = is.len d ∙ ap (λ k. (get_or segments k d).len) place in
        let parts = and_parts (nat_le s.first a) (nat_lt a (s.first + s.len)) (found-in (spans a) order s e).1 in
        let low : s.first ≤ a = leb-true _ _ parts.0 in
        let high : a < s.first + s.len = ltb-true _ _ parts.1 in
        let there : has a 1 segment ≡ true = and_from (nat_le segment.first a) (nat_le (a + 1) (segment.first + segment.len)) (le-leb _ _ (omega (arith, low, first))) (le-leb _ _ (omega (arith, high, first, len))) in
        ap is_some (sym (find-span segments order h a 1 (omega arith) s d e ∙ ap (λ b. cond b (Some segment) None) there))
