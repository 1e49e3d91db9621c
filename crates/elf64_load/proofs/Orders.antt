-- Spans in the order of their addresses, and the elements of the table that they stand for.
use Rattle.std.proofs.Common.{◌≡◌, ◌≢◌, ℕ, zero, suc, ◌+◌, ◌-◌, ◌<◌, ◌≤◌, Bool, true, false, ◌&&◌, cond, nat_lt, nat_le, List, [], ◌∷◌, length, get_or, take, count_by, Some, None, refl, ap, sym, ◌∙◌, inl, inr, add-zero, arith}
use Rattle.std.specs.List.{All, Contains, find, slice_get}
use Rattle.std.specs.List.Sorted.{IsNonDecreasingBy, IsPartitionPoint}
use Rattle.std.proofs.lemmas.Bool.{cases_Bool, cases_lt, cases_order, and_cases, and_parts, or_cases, or_parts, leb-false, ltb-false, and_from, and_left, and_right, leb-true, ltb-true, le-leb, lt-ltb, lt-leb, cond-true, cond-false}
use Rattle.std.proofs.lemmas.Bool.Decides.{nat_tests}
use Rattle.std.proofs.lemmas.List.Elements.{All-cons, All-nil, All-weaker}
use Rattle.std.proofs.lemmas.List.{get_or_default, get_or-take, length-take-le}
use Rattle.std.proofs.lemmas.Option.{slice_get-get_or}
use Rattle.std.proofs.lemmas.List.Sorted.{All-permutation, sum_by-IsPermutation}
use Rattle.std.proofs.lemmas.Map.Entries.{option_filter}
use Rattle.elf64_load.specs.Layout.{spans_from, spans, first_block, last_block, meet, touches, AreInOrder, AreApart, MeetsAnother}
use Rattle.elf64_load.specs.declared.span.Span.{Span}
use Rattle.elf64_load.proofs.Finds.{count-yes, count-no, count-two, find-none, find-only}

-- a span of an element of a list whose places begin at i
pub record IsSpanOf {X : Type 0} (first_of len_of : X → ℕ) (i : ℕ) (xs : List X) (s : Span) : Type 0 where
  pub low : i ≤ s.place
  pub high : s.place < i + length xs
  pub first : (d : X) → s.first ≡ first_of (get_or xs (s.place - i) d)
  pub len : (d : X) → s.len ≡ len_of (get_or xs (s.place - i) d)
  pub some : 0 < s.len

later_place : {X : Type 0} (x : X) (xs : List X) (p i : ℕ) (d : X) → i + 1 ≤ p → get_or (x ∷ xs) (p - i) d ≡ get_or xs (p - (i + 1)) d
later_place x xs p i d le =
    let next : p - i ≡ suc (p - (i + 1)) = omega arith in ap (λ n. get_or (x ∷ xs) n d) next

later_span : {X : Type 0} (f n : X → ℕ) (i : ℕ) (x : X) (xs : List X) (s : Span) → IsSpanOf f n (i + 1) xs s → IsSpanOf f n i (x ∷ xs) s
later_span f n i x xs s h = record {
  low = let l = h.low in omega (arith, l);
  high = let l = h.high in omega (arith, l);
  first = λ d. h.first d ∙ ap f (sym (later_place x xs s.place i d h.low));
  len = λ d. h.len d ∙ ap n (sym (later_place x xs s.place i d h.low));
  some = h.some;
}

here_span : {X : Type 0} (f n : X → ℕ) (i : ℕ) (x : X) (xs : List X) → 0 < n x → IsSpanOf f n i (x ∷ xs) (record { first = f x; len = n x; place = i })
here_span f n i x xs some =
    let none : i - i ≡ 0 = omega arith in record {
      low = omega arith;
      high = omega arith;
      first = λ d. ap (λ m. f (get_or (x ∷ xs) m d)) (sym none);
      len = λ d. ap (λ m. n (get_or (x ∷ xs) m d)) (sym none);
      some = some;
    }

-- each span of a table is that of one of its elements
pub spans_are : {X : Type 0} (first len : X → ℕ) (i : ℕ) (xs : List X) → All (IsSpanOf first len i xs) (spans_from first len i xs)
spans_are first len i [] = All-nil (IsSpanOf first len i [])
spans_are first len i (x ∷ xs) =
    let rest = All-weaker (IsSpanOf first len (i + 1) xs) (IsSpanOf first len i (x ∷ xs)) (later_span first len i x xs) (spans_from first len (i + 1) xs) (spans_are first len (i + 1) xs) in
    elim (cases_Bool (nat_lt 0 (len x))) [
      | inl pass ↦ rw pass (All-cons (IsSpanOf first len i (x ∷ xs)) (record { first = first x; len = len x; place = i }) (spans_from first len (i + 1) xs) (here_span first len i x xs (ltb-true _ _ pass)) rest)
      | inr fail ↦ rw fail rest
    ]

-- each element that has bytes has its span there
pub spans_of_each : {X : Type 0} (first len : X → ℕ) (i : ℕ) (xs : List X) (k : ℕ) (d : X) → k < length xs → 0 < len (get_or xs k d) → Contains (spans_from first len i xs) (record { first = first (get_or xs k d); len = len (get_or xs k d); place = i + k })
spans_of_each first len i [] k d h some = absurd (omega arith)
spans_of_each first len i (x ∷ xs) zero d h some =
    let pass : nat_lt 0 (len x) ≡ true = lt-ltb 0 (len x) some in
    rw (pass, add-zero i) (zero, omega arith, refl)
spans_of_each first len i (x ∷ xs) (suc k) d h some =
    let step : i + suc k ≡ (i + 1) + k = omega arith in
    let found = spans_of_each first len (i + 1) xs k d (omega arith) some in
    rw step (elim (cases_Bool (nat_lt 0 (len x))) [
      | inl pass ↦ rw pass (suc found.0, omega (arith, found.1), found.2)
      | inr fail ↦ rw fail found
    ])

-- an address is in as many spans as elements
pub count-spans : {X : Type 0} (first len : X → ℕ) (a i : ℕ) (xs : List X) → count_by (spans a) (spans_from first len i xs) ≡ count_by (λ x. nat_le (first x) a && nat_lt a (first x + len x)) xs
count-spans first len a i [] = refl
count-spans {X} first len a i (x ∷ xs) =
    let p : X → Bool = λ y. nat_le (first y) a && nat_lt a (first y + len y) in
    let s : Span = record { first = first x; len = len x; place = i } in
    let rest = spans_from first len (i + 1) xs in
    let later : count_by (spans a) rest ≡ count_by p xs = count-spans first len a (i + 1) xs in
    elim (cases_Bool (nat_lt 0 (len x))) [
      | inl some ↦ elim (cases_Bool (p x)) [
        | inl pass ↦ let left : count_by (spans a) (s ∷ rest) ≡ 1 + count_by (spans a) rest = count-yes (spans a) s rest pass in
            rw some (left ∙ ap (λ n. 1 + n) later ∙ sym (count-yes p x xs pass))
        | inr fail ↦ let left : count_by (spans a) (s ∷ rest) ≡ count_by (spans a) rest = count-no (spans a) s rest fail in
            rw some (left ∙ later ∙ sym (count-no p x xs fail))
      ]
      | inr none ↦ let fail : p x ≡ false = grind (arith, nat_tests) in rw none (later ∙ sym (count-no p x xs fail))
    ]

-- ---- the order

pub some_in_order : {X : Type 0} (first len : X → ℕ) (xs : List X) (order : List Span) → AreInOrder (spans_from first len 0 xs) order → All (λ (s : Span). 0 < s.len) order
some_in_order first len xs order h =
    All-permutation (λ (s : Span). 0 < s.len) (spans_from first len 0 xs) order h.same (All-weaker (IsSpanOf first len 0 xs) (λ (s : Span). 0 < s.len) (λ s is. is.some) (spans_from first len 0 xs) (spans_are first len 0 xs))

pub once_in_order : (table order : List Span) → AreApart table order → (a : ℕ) → count_by (spans a) order ≤ 1
once_in_order table order h a =
    let once = h.once a in
    let same = sum_by-IsPermutation (λ s. cond (spans a s) 1 0) table order h.in_order.same in
    omega (arith, once, same)

-- a span that starts at or below an address and does not have it, while a later one starts no higher, ends before that
not_before : (a : ℕ) (order : List Span) (j k : ℕ) (d : Span) → j < k → k < length order → IsNonDecreasingBy (λ (s : Span). s.first) order → ((b : ℕ) → count_by (spans b) order ≤ 1) → All (λ (s : Span). 0 < s.len) order → (get_or order k d).first ≤ a → spans a (get_or order j d) ≡ false
not_before a order j k d l h rising once some low =
    elim (cases_Bool (spans a (get_or order j d))) [
      | inr fail ↦ fail
      | inl pass ↦ let parts = and_parts (nat_le (get_or order j d).first a) (nat_lt a ((get_or order j d).first + (get_or order j d).len)) pass in
          let end : a < (get_or order j d).first + (get_or order j d).len = ltb-true _ _ parts.1 in
          let up = rising j k d (omega arith) h in
          let has = some k d h in
          let b : ℕ = (get_or order k d).first in
          let both : spans b (get_or order j d) ≡ true = and_from _ _ (le-leb (get_or order j d).first b up) (lt-ltb b ((get_or order j d).first + (get_or order j d).len) (omega (arith, end, low))) in
          let itself : spans b (get_or order k d) ≡ true = and_from _ _ (le-leb b b (omega arith)) (lt-ltb b (b + (get_or order k d).len) (omega (arith, has))) in
          let two = count-two (spans b) order j k d l h both itself in
          let one = once b in
          absurd (omega (arith, two, one))
    ]

-- the last span that starts at or below an address is the one that has it, if one does
pub find-last : (a : ℕ) (order : List Span) (p : ℕ) (d : Span) → p ≤ length order → IsPartitionPoint (λ (s : Span). nat_le s.first a ≡ true) (λ (s : Span). nat_le s.first a ≡ false) order p → IsNonDecreasingBy (λ (s : Span). s.first) order → ((b : ℕ) → count_by (spans b) order ≤ 1) → All (λ (s : Span). 0 < s.len) order → 0 < p → find (spans a) order ≡ cond (spans a (get_or order (p - 1) d)) (Some (get_or order (p - 1) d)) None
find-last a order p d within (below, above) rising once some pos =
    let k : ℕ = p - 1 in
    let h : k < length order = omega arith in
    let low : (get_or order k d).first ≤ a = leb-true _ _ (below k d (omega arith) (omega arith)) in
    elim (cases_Bool (spans a (get_or order k d))) [
      | inl pass ↦ find-only (spans a) order k d h pass (once a) ∙ sym (cond-true (spans a (get_or order k d)) (Some (get_or order k d)) None pass)
      | inr fail ↦ find-none (spans a) order (λ j e j_in. elim (cases_order j k) [
        | inl same ↦ rw same (rw (get_or_default order k e d h) fail)
        | inr other ↦ elim other [
          | inl before ↦ not_before a order j k e before h rising once some (rw (get_or_default order k e d h) low)
          | inr after ↦ and_left _ _ (above j e (omega arith) j_in)
        ]
      ]) ∙ sym (cond-false (spans a (get_or order k d)) (Some (get_or order k d)) None fail)
    ]

-- where none starts at or below it, none has it
pub find-before : (a : ℕ) (order : List Span) → IsPartitionPoint (λ (s : Span). nat_le s.first a ≡ true) (λ (s : Span). nat_le s.first a ≡ false) order 0 → find (spans a) order ≡ None
find-before a order (below, above) = find-none (spans a) order (λ j e j_in. and_left _ _ (above j e (omega arith) j_in))

abbrev pub no_span : Span
no_span = record { first = 0; len = 0; place = 0 }

-- the last of those that start at or below an address, if it has it, is the one that has it
pub find-searched : (a : ℕ) (order : List Span) (p : ℕ) → p ≤ length order → IsPartitionPoint (λ (s : Span). nat_le s.first a ≡ true) (λ (s : Span). nat_le s.first a ≡ false) order p → IsNonDecreasingBy (λ (s : Span). s.first) order → ((b : ℕ) → count_by (spans b) order ≤ 1) → All (λ (s : Span). 0 < s.len) order → find (spans a) order ≡ option_filter (spans a) (slice_get (take p order) (length (take p order) - 1))
find-searched a order zero within point rising once some = find-before a order point
find-searched a order (suc q) within point rising once some =
    let n : length (take (suc q) order) ≡ suc q = length-take-le (suc q) order within in
    let k : ℕ = suc q - 1 in
    let h : k < length (take (suc q) order) = omega (arith, n) in
    let last : slice_get (take (suc q) order) k ≡ Some (get_or order k no_span) =
    slice_get-get_or (take (suc q) order) k no_span h ∙ ap Some (get_or-take (suc q) order k no_span (omega arith)) in
    find-last a order (suc q) no_span within point rising once some (omega arith)
    ∙ ap (option_filter (spans a)) (sym last)
    ∙ ap (λ m. option_filter (spans a) (slice_get (take (suc q) order) (m - 1))) (sym n)

-- ---- blocks

-- a span that begins where those before it do not reach, and ends before the next one, meets none
pub meets_none : (order : List Span) (k j : ℕ) (d : Span) (reach : ℕ) → IsNonDecreasingBy (λ (s : Span). s.first) order → k < length order → j < length order → j ≢ k → ((j : ℕ) (d : Span) → j < k → last_block (get_or order j d) < reach) → (reach ≤ first_block (get_or order k d)) × (k + 1 < length order → last_block (get_or order k d) < first_block (get_or order (k + 1) d)) → meet (get_or order k d) (get_or order j d) ≡ false
meets_none order k j d reach rising k_in j_in differ reached met =
    elim (cases_lt j k) [
      | inl before ↦ let low = reached j d before in
          let high = met.0 in
          and_left (nat_le (first_block (get_or order k d)) (last_block (get_or order j d))) (nat_le (first_block (get_or order j d)) (last_block (get_or order k d))) (lt-leb (first_block (get_or order k d)) (last_block (get_or order j d)) (omega (arith, low, high)))
      | inr after ↦ let next = met.1 (omega arith) in
          let up = rising (k + 1) j d (omega arith) j_in in
          and_right (nat_le (first_block (get_or order k d)) (last_block (get_or order j d))) (nat_le (first_block (get_or order j d)) (last_block (get_or order k d))) (lt-leb (first_block (get_or order j d)) (last_block (get_or order k d)) (omega (arith, next, up)))
    ]

-- which span reaches up to a block, of those before place k
pub record ReachedBy (order : List Span) (k reach : ℕ) : Type 0 where
  pub at : ℕ
  pub before : at < k
  pub is : (d : Span) → last_block (get_or order at d) + 1 ≡ reach

-- what it means that a span touches no other
pub untouched : (order : List Span) (k reach : ℕ) (d : Span) → touches order k reach d ≡ false → (reach ≤ first_block (get_or order k d)) × (k + 1 < length order → last_block (get_or order k d) < first_block (get_or order (k + 1) d))
untouched order k reach d e =
    let parts = or_parts _ _ e in (
      ltb-false (first_block (get_or order k d)) reach parts.0,
      λ within. elim (and_cases (nat_lt (k + 1) (length order)) (nat_le (first_block (get_or order (k + 1) d)) (last_block (get_or order k d))) parts.1) [
        | inl past ↦ let le = ltb-false (k + 1) (length order) past in absurd (omega (arith, le, within))
        | inr above ↦ leb-false (first_block (get_or order (k + 1) d)) (last_block (get_or order k d)) above
      ],
    )

-- where one starts no higher than another, their blocks meet if the other starts no higher than its last block
meet_both : (s t : Span) → 0 < t.len → s.first ≤ t.first → first_block t ≤ last_block s → meet t s ≡ true
meet_both s t some up reach =
    and_from (nat_le (first_block t) (last_block s)) (nat_le (first_block s) (last_block t)) (le-leb (first_block t) (last_block s) reach) (le-leb (first_block s) (last_block t) (omega arith))

meet_comm : (s t : Span) → meet s t ≡ true → meet t s ≡ true
meet_comm s t e =
    let parts = and_parts (nat_le (first_block s) (last_block t)) (nat_le (first_block t) (last_block s)) e in
    and_from (nat_le (first_block t) (last_block s)) (nat_le (first_block s) (last_block t)) parts.1 parts.0

-- a span that touches another meets one
pub touched : (order : List Span) (k reach : ℕ) (d : Span) → IsNonDecreasingBy (λ (s : Span). s.first) order → All (λ (s : Span). 0 < s.len) order → k < length order → (0 < reach → ReachedBy order k reach) → touches order k reach d ≡ true → MeetsAnother order (get_or order k d).place
touched order k reach d rising some within by e =
    elim (or_cases _ _ e) [
      | inl low ↦ let below : first_block (get_or order k d) < reach = ltb-true (first_block (get_or order k d)) reach low in
          let r = by (omega (arith, below)) in
          let before = r.before in
          record {
            at = k;
            other = r.at;
            at_in = within;
            other_in = omega (arith, before, within);
            differ = λ same. omega (arith, before, same);
            place_is = λ f. ap (λ (s : Span). s.place) (get_or_default order k f d within);
            met = λ f. let same : get_or order k d ≡ get_or order k f = get_or_default order k d f within in
                let first = ap first_block same in
                let last = r.is f in
                meet_both (get_or order r.at f) (get_or order k f) (some k f within) (rising r.at k f (omega (arith, before)) within) (omega (arith, below, first, last));
          }
      | inr next ↦ let parts = and_parts _ _ next in
          let after : k + 1 < length order = ltb-true (k + 1) (length order) parts.0 in
          let reached : first_block (get_or order (k + 1) d) ≤ last_block (get_or order k d) = leb-true (first_block (get_or order (k + 1) d)) (last_block (get_or order k d)) parts.1 in
          record {
            at = k;
            other = k + 1;
            at_in = within;
            other_in = after;
            differ = λ same. omega (arith, same);
            place_is = λ f. ap (λ (s : Span). s.place) (get_or_default order k f d within);
            met = λ f. let last = ap last_block (get_or_default order k d f within) in
                let first = ap first_block (get_or_default order (k + 1) d f after) in
                meet_comm (get_or order (k + 1) f) (get_or order k f) (meet_both (get_or order k f) (get_or order (k + 1) f) (some (k + 1) f after) (rising k (k + 1) f (omega arith) after) (omega (arith, reached, first, last)));
          }
    ]
