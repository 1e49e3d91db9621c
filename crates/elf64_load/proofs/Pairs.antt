-- Pairs of segments that share a block.
use Rattle.std.proofs.Common.{◌≡◌, ◌≢◌, ℕ, zero, suc, ◌+◌, ◌-◌, ◌/◌, ◌<◌, ◌≤◌, Bool, true, false, ◌&&◌, nat_lt, nat_le, List, [], ◌∷◌, length, get_or, drop, count_by, Option, Some, None, option_map, refl, ap, sym, ◌∙◌, inl, inr, add-one, arith}
use Rattle.std.specs.List.{All, position_from}
use Rattle.std.specs.Option.{option_or}
use Rattle.std.proofs.lemmas.Bool.{cases_Bool, and_parts, and_from, leb-true, ltb-true, le-leb, lt-ltb, false≢true, cond-true, cond-false, false_from_ne_true}
use Rattle.std.proofs.lemmas.List.{at_drop_more, get_or_default, get_or-drop, length-drop}
use Rattle.std.proofs.lemmas.List.Elements.{All-cons, All-nil, All-tail}
use Rattle.std.proofs.lemmas.List.Sorted.{Contains-permutation}
use Rattle.elf64_load.specs.Elf.{is_load, share_block}
use Rattle.elf64_load.specs.Faults.{shared}
use Rattle.elf64_load.specs.Layout.{AreApart, AreInOrder, first_of_header, size_of, spans_of_headers, meet}
use Rattle.elf64_load.specs.declared.header.ProgramHeader.{ProgramHeader}
use Rattle.elf64_load.specs.declared.fault.ElfFault.TheVariants.{SharedBlock}
use Rattle.elf64_load.specs.declared.span.Span.{Span}
use Rattle.elf64_load.proofs.Finds.{count-yes, count-no}
use Rattle.elf64_load.proofs.FirstFaults.{none_of_both}
use Rattle.elf64_load.proofs.Orders.{no_span, spans_of_each, count-spans}

pub position_from-none : {X : Type 0} (t : X → Bool) (k : ℕ) (xs : List X) → All (λ x. t x ≡ false) xs → position_from t k xs ≡ None
position_from-none t k [] all = refl
position_from-none t k (x ∷ xs) all =
    cond-false (t x) (Some k) (position_from t (k + 1) xs) (all 0 x (omega arith))
    ∙ position_from-none t (k + 1) xs (All-tail (λ y. t y ≡ false) x xs all)

none_at-position : {X : Type 0} (t : X → Bool) (k : ℕ) (xs : List X) → position_from t k xs ≡ None → All (λ x. t x ≡ false) xs
none_at-position t k [] e = All-nil (λ x. t x ≡ false)
none_at-position t k (x ∷ xs) e =
    elim (cases_Bool (t x)) [
      | inl pass ↦ let found : Some k ≡ None = sym (cond-true (t x) (Some k) (position_from t (k + 1) xs) pass) ∙ e in cc
      | inr fail ↦ All-cons (λ y. t y ≡ false) x xs fail (none_at-position t (k + 1) xs (sym (cond-false (t x) (Some k) (position_from t (k + 1) xs) fail) ∙ e))
    ]

none_of_map : {X Y : Type 0} (f : X → Y) (o : Option X) → option_map f o ≡ None → o ≡ None
none_of_map f None e = refl
none_of_map f (Some x) e = cc

-- where the first places are of no pair, the first pair is that of the later ones
pub shared-later : (hs : List ProgramHeader) (d : ProgramHeader) (n : ℕ) → n ≤ length hs → ((i : ℕ) → i < n → position_from (share_block (get_or hs i d)) (i + 1) (drop (i + 1) hs) ≡ None) → shared 0 hs ≡ shared n (drop n hs)
shared-later hs d zero within none = refl
shared-later hs d (suc n) within none =
    let row = none n (omega arith) in
    let rest = shared (n + 1) (drop (n + 1) hs) in
    let step : shared n (get_or hs n d ∷ drop (n + 1) hs) ≡ rest =
    ap (λ p. option_or (option_map (SharedBlock n) p) rest) row in
    shared-later hs d n (omega arith) (λ i below. none i (omega arith))
    ∙ at_drop_more (shared n) hs n d (omega arith)
    ∙ step
    ∙ ap (λ m. shared m (drop m hs)) (add-one n)

-- the parts of what it means to share a block
pub record Share (g h : ProgramHeader) : Type 0 where
  pub load_g : is_load g ≡ true
  pub load_h : is_load h ≡ true
  pub some_g : 0 < g.memsz
  pub some_h : 0 < h.memsz
  pub up : nat_le (g.vaddr / 128) ((h.vaddr + h.memsz - 1) / 128) ≡ true
  pub down : nat_le (h.vaddr / 128) ((g.vaddr + g.memsz - 1) / 128) ≡ true

share-parts : (g h : ProgramHeader) → share_block g h ≡ true → Share g h
share-parts g h e =
    let a = and_parts _ _ e in
    let b = and_parts _ _ a.0 in
    let c = and_parts _ _ b.0 in
    let d = and_parts _ _ c.0 in
    let f = and_parts _ _ d.0 in
    record { load_g = f.0; load_h = f.1; some_g = ltb-true _ _ d.1; some_h = ltb-true _ _ c.1; up = b.1; down = a.1 }

share-from : (g h : ProgramHeader) → Share g h → share_block g h ≡ true
share-from g h s = rw (s.load_g, s.load_h, lt-ltb 0 g.memsz s.some_g, lt-ltb 0 h.memsz s.some_h, s.up, s.down) refl

size_of-load : (h : ProgramHeader) → is_load h ≡ true → size_of h ≡ h.memsz
size_of-load h e = cond-true (is_load h) h.memsz 0 e

-- a span that meets no other is that of a segment that shares no block
pub apart_from-others : (hs : List ProgramHeader) (order : List Span) (d : ProgramHeader) (e : Span) → AreInOrder (spans_of_headers hs) order → (least : ℕ) → ((k j : ℕ) (d : Span) → k < length order → j < length order → j ≢ k → (get_or order k d).place < least → meet (get_or order k d) (get_or order j d) ≡ false) → (i j : ℕ) → i < least → i < j → j < length hs → share_block (get_or hs i d) (get_or hs j d) ≡ false
apart_from-others hs order d e sorted least apart i j low above within =
    let g : ProgramHeader = get_or hs i d in
    let h : ProgramHeader = get_or hs j d in
    false_from_ne_true (share_block g h) (λ both.
    let s = share-parts g h both in
    let size_g = size_of-load g s.load_g in
    let size_h = size_of-load h s.load_h in
    let some_g = s.some_g in
    let some_h = s.some_h in
    let span_g : Span = record { first = g.vaddr; len = size_of g; place = 0 + i } in
    let span_h : Span = record { first = h.vaddr; len = size_of h; place = 0 + j } in
    let at_g = Contains-permutation (spans_of_headers hs) order span_g sorted.same (spans_of_each first_of_header size_of 0 hs i d (omega arith) (omega (arith, size_g, some_g))) in
    let at_h = Contains-permutation (spans_of_headers hs) order span_h sorted.same (spans_of_each first_of_header size_of 0 hs j d (omega arith) (omega (arith, size_h, some_h))) in
    let is_g : get_or order at_g.0 e ≡ span_g = get_or_default order at_g.0 e span_g at_g.1 ∙ at_g.2 in
    let is_h : get_or order at_h.0 e ≡ span_h = get_or_default order at_h.0 e span_h at_h.1 ∙ at_h.2 in
    let differ : at_h.0 ≢ at_g.0 =
    λ same. let one : span_h ≡ span_g = sym is_h ∙ ap (λ k. get_or order k e) same ∙ is_g in
    let places : 0 + j ≡ 0 + i = ap (λ (s : Span). s.place) one in
    omega (arith, places) in
    let place : (get_or order at_g.0 e).place < least = let p = ap (λ (s : Span). s.place) is_g in omega (arith, p) in
    let never = apart at_g.0 at_h.0 e at_g.1 at_h.1 differ place in
    let meets : meet span_g span_h ≡ true = rw (size_g, size_h) (and_from _ _ s.up s.down) in
    false≢true (sym never ∙ ap (λ a. meet a (get_or order at_h.0 e)) is_g ∙ ap (meet span_g) is_h ∙ meets))

no_header : ProgramHeader
no_header = record { kind = 0; flags = 0; offset = 0; vaddr = 0; filesz = 0; memsz = 0 }

-- the first pair is that of the places from the least one on whose span meets another
pub shared-from_least : (hs : List ProgramHeader) (order : List Span) → AreInOrder (spans_of_headers hs) order → (least : ℕ) → least ≤ length hs → ((k j : ℕ) (d : Span) → k < length order → j < length order → j ≢ k → (get_or order k d).place < least → meet (get_or order k d) (get_or order j d) ≡ false) → shared 0 hs ≡ shared least (drop least hs)
shared-from_least hs order sorted least within apart =
    shared-later hs no_header least within (λ i low. position_from-none (share_block (get_or hs i no_header)) (i + 1) (drop (i + 1) hs) (λ k d below.
    let n = length-drop (i + 1) hs in
    let at : get_or (drop (i + 1) hs) k d ≡ get_or hs (i + 1 + k) no_header =
    get_or-drop (i + 1) hs k d ∙ get_or_default hs (i + 1 + k) d no_header (omega (arith, below, n)) in
    ap (share_block (get_or hs i no_header)) at
    ∙ apart_from-others hs order no_header no_span sorted least apart i (i + 1 + k) low (omega arith) (omega (arith, below, n))))

-- the byte at a is in the segment
abbrev pub covers : ℕ → ProgramHeader → Bool
covers a h = nat_le h.vaddr a && nat_lt a (h.vaddr + size_of h)

-- what covers a byte is a segment
covers-load : (a : ℕ) (h : ProgramHeader) → covers a h ≡ true → is_load h ≡ true
covers-load a h e =
    elim (cases_Bool (is_load h)) [
      | inl load ↦ load
      | inr none ↦ let parts = and_parts (nat_le h.vaddr a) (nat_lt a (h.vaddr + size_of h)) e in
          let low : h.vaddr ≤ a = leb-true _ _ parts.0 in
          let high : a < h.vaddr + size_of h = ltb-true _ _ parts.1 in
          let size : size_of h ≡ 0 = cond-false (is_load h) h.memsz 0 none in
          absurd (omega (arith, low, high, size))
    ]

-- two that cover one byte share a block
share-covers : (a : ℕ) (g h : ProgramHeader) → covers a g ≡ true → covers a h ≡ true → share_block g h ≡ true
share-covers a g h e f =
    let load_g = covers-load a g e in
    let load_h = covers-load a h f in
    let size_g = size_of-load g load_g in
    let size_h = size_of-load h load_h in
    let pg = and_parts (nat_le g.vaddr a) (nat_lt a (g.vaddr + size_of g)) e in
    let ph = and_parts (nat_le h.vaddr a) (nat_lt a (h.vaddr + size_of h)) f in
    let low_g : g.vaddr ≤ a = leb-true _ _ pg.0 in
    let low_h : h.vaddr ≤ a = leb-true _ _ ph.0 in
    let high_g : a < g.vaddr + size_of g = ltb-true _ _ pg.1 in
    let high_h : a < h.vaddr + size_of h = ltb-true _ _ ph.1 in
    share-from g h (record {
      load_g = load_g;
      load_h = load_h;
      some_g = omega arith;
      some_h = omega arith;
      up = le-leb (g.vaddr / 128) ((h.vaddr + h.memsz - 1) / 128) (omega arith);
      down = le-leb (h.vaddr / 128) ((g.vaddr + g.memsz - 1) / 128) (omega arith);
    })

count-zero : {X : Type 0} (p : X → Bool) (xs : List X) → All (λ x. p x ≡ false) xs → count_by p xs ≡ 0
count-zero p [] all = refl
count-zero p (x ∷ xs) all =
    count-no p x xs (all 0 x (omega arith)) ∙ count-zero p xs (All-tail (λ y. p y ≡ false) x xs all)

-- where no pair shares a block, no byte is in two segments
pub once-from_shared : (i : ℕ) (hs : List ProgramHeader) → shared i hs ≡ None → (a : ℕ) → count_by (covers a) hs ≤ 1
once-from_shared i [] e a = omega arith
once-from_shared i (h ∷ hs) e a =
    let parts = none_of_both (option_map (SharedBlock i) (position_from (share_block h) (i + 1) hs)) (shared (i + 1) hs) e in
    let later = once-from_shared (i + 1) hs parts.1 a in
    let alone = none_at-position (share_block h) (i + 1) hs (none_of_map (SharedBlock i) _ parts.0) in
    elim (cases_Bool (covers a h)) [
      | inl pass ↦ let others : count_by (covers a) hs ≡ 0 =
          count-zero (covers a) hs (λ k d below. false_from_ne_true (covers a (get_or hs k d)) (λ both. false≢true (sym (alone k d below) ∙ share-covers a h (get_or hs k d) pass both))) in
          omega (arith, others, count-yes (covers a) h hs pass)
      | inr fail ↦ omega (arith, later, count-no (covers a) h hs fail)
    ]

pub apart-from_shared : (hs : List ProgramHeader) (order : List Span) → AreInOrder (spans_of_headers hs) order → shared 0 hs ≡ None → AreApart (spans_of_headers hs) order
apart-from_shared hs order sorted none = record {
  in_order = sorted;
  once = λ a. let same = count-spans first_of_header size_of a 0 hs in
      let once = once-from_shared 0 hs none a in
      omega (arith, same, once);
}
