-- The tables of a new cache show an empty cache.
use Rattle.std.proofs.Common.{◌≡◌, ℕ, ◌+◌, ◌*◌, ◌-◌, ◌^◌, ◌<◌, ◌≤◌, ◌==◌, zero, suc, Bool, false, ◌&&◌, nat_le, nat_lt, List, [], ◌∷◌, length, get_or, ext_get_or, replicate, map, take, drop, count_by, Option, None, arith, refl, sym, ap, ◌∙◌, ⊎_elim}
use Rattle.std.specs.List.{range_with_len}
use Rattle.std.proofs.lemmas.Bool.{cases_lt, eq-eqb, ne_eqb, lt-ltb, le-ltb, le-leb, lt-leb, and_left, and_right, and_from}
use Rattle.std.proofs.lemmas.List.{length-map, length-replicate}
use Rattle.std.proofs.lemmas.List.FromFn.{length-range_with_len, length-map-range_with_len, get_or-map-range_with_len}
use Rattle.rsim_base.specs.declared.memory.Line.{Line}
use Rattle.cache_sets.specs.Ways.{Way, has_slot}
use Rattle.cache_sets.specs.Caches.{CacheView, empty_way, empty_cache}
use Rattle.cache_sets.specs.Sound.{IsSound, IsSoundSet, concerns, is_torn}
use Rattle.cache_sets.specs.Layout.{mark_at, way_at, slots_of, sets_by, view_of}
use Rattle.cache_sets.proofs.Counts.{one_if, count_by-cons, count_by_never}
use Rattle.cache_sets.proofs.Keeping.{rows_end, count_by-map, Shows, shows, length-sets_by, set_by}

-- ---- parts of a range

drop-range : (k a n : ℕ) → drop k (range_with_len a n) ≡ range_with_len (a + k) (n - k)
drop-range zero a n = let start : a ≡ a + 0 = omega arith in let size : n ≡ n - 0 = omega arith in cc
drop-range (suc k) a zero = let none : 0 ≡ 0 - suc k = omega arith in ap (range_with_len (a + suc k)) none
drop-range (suc k) a (suc n) =
    let start : a + 1 + k ≡ a + suc k = omega arith in
    let size : n - k ≡ suc n - suc k = omega arith in
    drop-range k (a + 1) n ∙ cc

take-range : (k a n : ℕ) → k ≤ n → take k (range_with_len a n) ≡ range_with_len a k
take-range zero a n h = refl
take-range (suc k) a zero h = absurd (omega arith)
take-range (suc k) a (suc n) h = ap (λ (xs : List ℕ). a ∷ xs) (take-range k (a + 1) n (omega arith))

slots_of-range : (sets ways n : ℕ) → n < sets → slots_of ways (range_with_len 0 (sets * ways)) n ≡ range_with_len (n * ways) ways
slots_of-range sets ways n h =
    let start : 0 + n * ways ≡ n * ways = omega arith in
    let enough : ways ≤ sets * ways - n * ways = omega (arith, rows_end n sets ways h) in
    ap (take ways) (drop-range (n * ways) 0 (sets * ways) ∙ ap (λ (a : ℕ). range_with_len a (sets * ways - n * ways)) start)
    ∙ take-range ways (n * ways) (sets * ways - n * ways) enough

-- a slot stands once in a range that it is in
range_value : (low high k : ℕ) → ((low ≤ k) × (k < high) → one_if (nat_le low k && nat_lt k high) ≡ 1) × (k < low → one_if (nat_le low k && nat_lt k high) ≡ 0) × (high ≤ k → one_if (nat_le low k && nat_lt k high) ≡ 0)
range_value low high k = (
  λ h. ap one_if (and_from (nat_le low k) (nat_lt k high) (le-leb low k h.0) (lt-ltb k high h.1)),
  λ h. ap one_if (and_left (nat_le low k) (nat_lt k high) (lt-leb low k h)),
  λ h. ap one_if (and_right (nat_le low k) (nat_lt k high) (le-ltb k high h)),
)

count_by-range : (k a n : ℕ) → count_by (λ j. j == k) (range_with_len a n) ≡ one_if (nat_le a k && nat_lt k (a + n))
count_by-range k a zero =
    let value = range_value a (a + 0) k in
    ⊎_elim (λ below. sym (value.1 below)) (λ above. sym (value.2 (omega arith))) (cases_lt k a)
count_by-range k a (suc n) =
    let here = count_by-cons (λ j. j == k) a (range_with_len (a + 1) n) in
    let rest = count_by-range k (a + 1) n in
    let old = range_value (a + 1) (a + 1 + n) k in
    let new = range_value a (a + suc n) k in
    ⊎_elim
    (λ below.
    let other : one_if (a == k) ≡ 0 = ap one_if (ne_eqb a k (λ e. omega arith)) in
    omega (arith, here, rest, other, old.1 (omega arith), new.1 below))
    (λ above.
    ⊎_elim
    (λ after.
    let other : one_if (a == k) ≡ 0 = ap one_if (ne_eqb a k (λ e. omega arith)) in
    ⊎_elim
    (λ inside. omega (arith, here, rest, other, old.0 (omega arith, inside), new.0 (above, omega (arith, inside))))
    (λ past. omega (arith, here, rest, other, old.2 past, new.2 (omega (arith, past))))
    (cases_lt k (a + 1 + n)))
    (λ same.
    let it : one_if (a == k) ≡ 1 = ap one_if (eq-eqb a k (omega arith)) in
    omega (arith, here, rest, it, old.1 (omega arith), new.0 (above, omega arith)))
    (cases_lt a k))
    (cases_lt k a)

-- ---- an empty cache

mark_at-none : (n j : ℕ) → mark_at (replicate n None) j ≡ None
mark_at-none zero j = refl
mark_at-none (suc n) zero = refl
mark_at-none (suc n) (suc j) = mark_at-none n j

map_each : (f g : ℕ → Way) (xs : List ℕ) → ((x : ℕ) → f x ≡ g x) → map f xs ≡ map g xs
map_each f g [] h = refl
map_each f g (x ∷ xs) h = cc (h x, map_each f g xs h)

IsSoundSet-empty : (sets ways n : ℕ) → IsSoundSet sets ways n (map empty_way (range_with_len (n * ways) ways))
IsSoundSet-empty sets ways n =
    let slots = range_with_len (n * ways) ways in
    let none = λ (p : Way → Bool) (h : (j : ℕ) → p (empty_way j) ≡ false). count_by-map p empty_way slots ∙ count_by_never (λ j. p (empty_way j)) slots h in
    record {
      count = length-map slots empty_way ∙ length-range_with_len (n * ways) ways;
      slots = λ k. count_by-map (has_slot k) empty_way slots ∙ count_by-range k (n * ways) ways;
      own = λ line. omega (arith, none (concerns line) (λ _. refl));
      whole = none is_torn (λ _. refl);
    }

length-empty_cache : (sets ways : ℕ) → length (empty_cache sets ways).sets ≡ sets
length-empty_cache sets ways = length-map-range_with_len (λ n. map empty_way (range_with_len (n * ways) ways)) 0 sets

empty_set_at : (sets ways n : ℕ) → n < sets → get_or (empty_cache sets ways).sets n [] ≡ map empty_way (range_with_len (n * ways) ways)
empty_set_at sets ways n h = get_or-map-range_with_len (λ k. map empty_way (range_with_len (k * ways) ways)) 0 sets n n [] h (omega arith)

IsSound-empty : (sets ways : ℕ) → 0 < sets → IsSound (empty_cache sets ways)
IsSound-empty sets ways some =
    let same = length-empty_cache sets ways in
    record {
      some = omega (arith, same, some);
      each = λ n within.
          let inside : n < sets = omega (arith, same, within) in
          rw (same, empty_set_at sets ways n inside) (IsSoundSet-empty sets ways n);
    }

view_of-empty : (sets ways : ℕ) → view_of sets ways (replicate (sets * ways) None) (replicate (sets * ways) None) (range_with_len 0 (sets * ways)) ≡ empty_cache sets ways
view_of-empty sets ways =
    let marks : List (Option Line) = replicate (sets * ways) None in
    let recency = range_with_len 0 (sets * ways) in
    let same = length-sets_by (way_at marks marks) sets ways recency in
    ap (λ (s : List (List Way)). let v : CacheView = record { ways = ways; sets = s } in v)
    (ext_get_or [] (sets_by (way_at marks marks) sets ways recency) (empty_cache sets ways).sets (same ∙ sym (length-empty_cache sets ways))
    (λ n below.
    let inside : n < sets = omega (arith, same, below) in
    set_by (way_at marks marks) sets ways n recency inside
    ∙ (map_each (way_at marks marks) empty_way (slots_of ways recency n) (λ j. let none = mark_at-none (sets * ways) j in ap (λ (m : Option ℕ). let w : Way = record { slot = j; line = m; reserved = m } in w) none)
    ∙ (ap (map empty_way) (slots_of-range sets ways n inside) ∙ sym (empty_set_at sets ways n inside)))))

pub Shows-empty : (sets ways : ℕ) (lines reserved : List (Option Line)) (recency : List ℕ) → 0 < sets → sets * ways < 2 ^ 32 →
    lines ≡ replicate (sets * ways) None → reserved ≡ replicate (sets * ways) None → recency ≡ range_with_len 0 (sets * ways) → Shows sets ways lines reserved recency (empty_cache sets ways)
Shows-empty sets ways lines reserved recency some small l r c =
    shows sets ways lines reserved recency (empty_cache sets ways) small
    (ap length l ∙ length-replicate (sets * ways) None) (ap length r ∙ length-replicate (sets * ways) None) (ap length c ∙ length-range_with_len 0 (sets * ways))
    (rw (l, r, c) (view_of-empty sets ways)) (IsSound-empty sets ways some)
