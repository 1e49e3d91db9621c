-- What a write to the tables of a cache does to the cache.
use Rattle.std.proofs.Common.{◌≡◌, ℕ, ◌+◌, ◌-◌, ◌*◌, ◌^◌, ◌<◌, ◌≤◌, ◌==◌, Bool, true, false, not, cond, List, [], ◌∷◌, ◌++◌, length, get_or, set, take, drop, ext_get_or, map, filter, find, count_by, All, Option, Some, None, option_map, arith, refl, sym, ap, ◌∙◌, subst, ⊎_elim, length-append, append_assoc}
use Rattle.std.proofs.Math.Nat.{mul-le-mul_left}
use Rattle.std.proofs.lemmas.Bool.{cases_eq, cases_lt, and_parts, ltb-true, leb-true, eq-eqb, ne_eqb}
use Rattle.std.proofs.lemmas.List.{length-map, length-set, length-take, length-drop, get_or-set_same, get_or-set_other, map-append, map-set, set-set, take_at, drop_at, take-append-le, drop-take, drop-drop, take-take}
use Rattle.std.proofs.lemmas.List.Elements.{All-from_get_or, All-head, All-tail, All-weaker}
use Rattle.std.proofs.lemmas.List.Filters.{length-filter_both}
use Rattle.std.proofs.lemmas.List.FromFn.{length-map-range_with_len, get_or-map-range_with_len}
use Rattle.rsim_base.specs.declared.memory.Line.{Line}
use Rattle.cache_sets.specs.Ways.{Way, has_slot, changed_at, touched_in}
use Rattle.cache_sets.specs.Caches.{CacheView, home_of, set_at, in_set}
use Rattle.cache_sets.specs.Sound.{IsSound, IsSoundSet, is_slot_of}
use Rattle.cache_sets.specs.Layout.{number_of, numbers_of, mark_at, way_at, slots_of, sets_by, slot_first, view_of, IsKept}
use Rattle.cache_sets.proofs.Counts.{one_if, count_by-cons, count_by_at, count_by_found, count_by_both_le}

-- ---- lists

map_agree : {X Y : Type 0} (f g : X → Y) (xs : List X) → All (λ x. f x ≡ g x) xs → map f xs ≡ map g xs
map_agree f g [] h = refl
map_agree f g (x ∷ xs) h = cc (All-head (λ y. f y ≡ g y) x xs h, map_agree f g xs (All-tail (λ y. f y ≡ g y) x xs h))

pub count_by-map : {X Y : Type 0} (p : Y → Bool) (f : X → Y) (xs : List X) → count_by p (map f xs) ≡ count_by (λ x. p (f x)) xs
count_by-map p f [] = refl
count_by-map p f (x ∷ xs) = omega (arith, count_by-cons p (f x) (map f xs), count_by-cons (λ y. p (f y)) x xs, count_by-map p f xs)

-- ---- slots and their ranges

-- the slots of a set end where those of the next begin, and all of them within those of the cache
pub rows_end : (i n w : ℕ) → i < n → i * w + w ≤ n * w
rows_end i n w h = let more : i + 1 ≤ n = omega arith in omega (arith, mul-le-mul_left w more)

pub slot_range : (ways n slot : ℕ) → is_slot_of ways n slot ≡ true → (n * ways ≤ slot) × (slot < n * ways + ways)
slot_range ways n slot e =
    let (low, high) = and_parts _ _ e in
    (leb-true (n * ways) slot low, ltb-true slot (n * ways + ways) high)

-- slots of two sets differ
pub slots_differ : (ways i n j slot : ℕ) → (i ≡ n → ⊥) → is_slot_of ways i j ≡ true → is_slot_of ways n slot ≡ true → (j == slot) ≡ false
slots_differ ways i n j slot ne in_i in_n =
    let (low, high) = slot_range ways i j in_i in
    let (low', high') = slot_range ways n slot in_n in
    ne_eqb j slot (λ e. ⊎_elim
    (λ below. omega (arith, e, high, low', rows_end i n ways below))
    (λ above. let strict : n < i = omega (arith, above, ne) in omega (arith, e, low, high', rows_end n i ways strict))
    (cases_lt i n))

-- a way counts in its set, so its slot is one of the set's
one_if_true : (b : Bool) → 1 ≤ one_if b → b ≡ true
one_if_true true h = refl
one_if_true false h = absurd (omega arith)

pub slot_is_there : {sets ways n : ℕ} {members : List Way} (slot : ℕ) → IsSoundSet sets ways n members → 1 ≤ count_by (has_slot slot) members → is_slot_of ways n slot ≡ true
slot_is_there {sets} {ways} {n} slot sound h = one_if_true (is_slot_of ways n slot) (omega (arith, sound.slots slot, h))

pub found_is_there : {sets ways n : ℕ} {members : List Way} (p : Way → Bool) (slot : ℕ) → IsSoundSet sets ways n members →
    option_map (λ way. way.slot) (find p members) ≡ Some slot → is_slot_of ways n slot ≡ true
found_is_there {members = members} p slot sound is =
    slot_is_there slot sound (omega (arith, count_by_found (λ way. way.slot) p members slot is, count_by_both_le (has_slot slot) p members))

-- ---- the sets of a cache, one by one

pub length-sets_by : (way : ℕ → Way) (sets ways : ℕ) (recency : List ℕ) → length (sets_by way sets ways recency) ≡ sets
length-sets_by way sets ways recency = length-map-range_with_len (λ n. map way (slots_of ways recency n)) 0 sets

pub set_by : (way : ℕ → Way) (sets ways n : ℕ) (recency : List ℕ) → n < sets → get_or (sets_by way sets ways recency) n [] ≡ map way (slots_of ways recency n)
set_by way sets ways n recency h = get_or-map-range_with_len (λ k. map way (slots_of ways recency k)) 0 sets n n [] h (omega arith)

-- where one set is changed and every other is as it was
sets_by_changed : (way way' : ℕ → Way) (sets ways n : ℕ) (recency recency' : List ℕ) (change : List Way → List Way) → n < sets →
    map way' (slots_of ways recency' n) ≡ change (map way (slots_of ways recency n)) →
    ((k : ℕ) → k < sets → (k ≡ n → ⊥) → map way' (slots_of ways recency' k) ≡ map way (slots_of ways recency k)) →
    sets_by way' sets ways recency' ≡ set (sets_by way sets ways recency) n (change (get_or (sets_by way sets ways recency) n []))
sets_by_changed way way' sets ways n recency recency' change h here others =
    let old = sets_by way sets ways recency in
    let new = change (get_or old n []) in
    let same_old : length old ≡ sets = length-sets_by way sets ways recency in
    let same_new : length (sets_by way' sets ways recency') ≡ sets = length-sets_by way' sets ways recency' in
    let within : n < length old = omega (arith, same_old, h) in
    ext_get_or [] (sets_by way' sets ways recency') (set old n new) (same_new ∙ (sym same_old ∙ sym (length-set old n new)))
    (λ k below.
    let inside : k < sets = omega (arith, same_new, below) in
    set_by way' sets ways k recency' inside
    ∙ ⊎_elim
    (λ e. subst (λ (j : ℕ). map way' (slots_of ways recency' j) ≡ get_or (set old n new) j []) (sym e)
    (here ∙ (ap change (sym (set_by way sets ways n recency h)) ∙ sym (get_or-set_same old n new [] within))))
    (λ ne. others k inside ne ∙ (sym (set_by way sets ways k recency inside) ∙ sym (get_or-set_other old n k new [] ne)))
    (cases_eq k n))

-- ---- a way is marked

pub mark_at-set : (marks : List (Option Line)) (slot j : ℕ) (mark : Option Line) → slot < length marks →
    mark_at (set marks slot mark) j ≡ cond (j == slot) (number_of mark) (mark_at marks j)
mark_at-set marks slot j mark h =
    let numbers = numbers_of marks in
    let within : slot < length numbers = omega (arith, length-map marks number_of) in
    let written : numbers_of (set marks slot mark) ≡ set numbers slot (number_of mark) = map-set number_of marks slot mark in
    ap (λ ns. get_or ns j None) written
    ∙ ⊎_elim
    (λ e. subst (λ (k : ℕ). get_or (set numbers slot (number_of mark)) k None ≡ cond (k == slot) (number_of mark) (get_or numbers k None)) (sym e)
    (get_or-set_same numbers slot (number_of mark) None within ∙ ap (λ b. cond b (number_of mark) (get_or numbers slot None)) (sym (eq-eqb slot slot refl))))
    (λ ne. get_or-set_other numbers slot j (number_of mark) None ne ∙ ap (λ b. cond b (number_of mark) (get_or numbers j None)) (sym (ne_eqb j slot ne)))
    (cases_eq j slot)

-- the slots of a set are in its range
pub ranged : (sets ways : ℕ) (lines reserved : List (Option Line)) (recency : List ℕ) (n : ℕ) →
    IsSound (view_of sets ways lines reserved recency) → n < sets → All (λ slot. is_slot_of ways n slot ≡ true) (slots_of ways recency n)
ranged sets ways lines reserved recency n sound h =
    let way = way_at lines reserved in
    let slots = slots_of ways recency n in
    let within : n < length (sets_by way sets ways recency) = omega (arith, length-sets_by way sets ways recency) in
    All-from_get_or (λ slot. is_slot_of ways n slot ≡ true) slots 0
    (λ i below.
    let slot = get_or slots i 0 in
    let here : count_by (has_slot slot) (get_or (sets_by way sets ways recency) n []) ≡ count_by (λ s. s == slot) slots =
    ap (count_by (has_slot slot)) (set_by way sets ways n recency h) ∙ count_by-map (has_slot slot) way slots in
    one_if_true (is_slot_of ways n slot) (omega (arith, count_by_at slots i 0 below, here, (sound.each n within).slots slot)))

map_changed : (way way' : ℕ → Way) (change : Way → Way) (slot : ℕ) (slots : List ℕ) →
    ((j : ℕ) → way' j ≡ cond (has_slot slot (way j)) (change (way j)) (way j)) → map way' slots ≡ changed_at (Some slot) change (map way slots)
map_changed way way' change slot [] h = refl
map_changed way way' change slot (j ∷ js) h = cc (h j, map_changed way way' change slot js h)

-- the way of one slot is changed
pub view_of-marked : (sets ways n slot : ℕ) (lines lines' reserved reserved' : List (Option Line)) (recency : List ℕ) (change : Way → Way) →
    IsSound (view_of sets ways lines reserved recency) → n < sets → is_slot_of ways n slot ≡ true →
    ((j : ℕ) → way_at lines' reserved' j ≡ cond (j == slot) (change (way_at lines reserved j)) (way_at lines reserved j)) →
    view_of sets ways lines' reserved' recency ≡ in_set n (changed_at (Some slot) change) (view_of sets ways lines reserved recency)
view_of-marked sets ways n slot lines lines' reserved reserved' recency change sound h there is =
    let way = way_at lines reserved in
    let way' = way_at lines' reserved' in
    ap (λ (s : List (List Way)). let v : CacheView = record { ways = ways; sets = s } in v)
    (sets_by_changed way way' sets ways n recency recency (changed_at (Some slot) change) h
    (map_changed way way' change slot (slots_of ways recency n) is)
    (λ k inside ne.
    map_agree way' way (slots_of ways recency k)
    (All-weaker (λ j. is_slot_of ways k j ≡ true) (λ j. way' j ≡ way j)
    (λ j in_k. is j ∙ ap (λ b. cond b (change (way j)) (way j)) (slots_differ ways k n j slot ne in_k there))
    (slots_of ways recency k) (ranged sets ways lines reserved recency k sound inside))))

-- ---- a slot is put first

map_filter : (way : ℕ → Way) (slots : List ℕ) (p : ℕ → Bool) (q : Way → Bool) → ((j : ℕ) → q (way j) ≡ p j) → map way (filter p slots) ≡ filter q (map way slots)
map_filter way [] p q h = refl
map_filter way (j ∷ js) p q h =
    map_filter_head (p j) (way j) way (filter p js) j refl ∙ cc (h j, map_filter way js p q h)
  where
    map_filter_head : (b : Bool) (w : Way) (way : ℕ → Way) (kept : List ℕ) (j : ℕ) → way j ≡ w → map way (cond b (j ∷ kept) kept) ≡ cond b (w ∷ map way kept) (map way kept)
    map_filter_head true w way kept j e = ap (λ v. v ∷ map way kept) e
    map_filter_head false w way kept j e = refl

map-slot_first : (lines reserved : List (Option Line)) (slot : ℕ) (slots : List ℕ) →
    map (way_at lines reserved) (slot_first slot slots) ≡ touched_in slot (map (way_at lines reserved) slots)
map-slot_first lines reserved slot slots =
    let way = way_at lines reserved in
    map-append way (filter (λ s. s == slot) slots) (filter (λ s. not (s == slot)) slots)
    ∙ cc (map_filter way slots (λ s. s == slot) (has_slot slot) (λ _. refl), map_filter way slots (λ s. not (s == slot)) (λ w. not (has_slot slot w)) (λ _. refl))

pub length-slots_of : (sets ways n : ℕ) (recency : List ℕ) → length recency ≡ sets * ways → n < sets → length (slots_of ways recency n) ≡ ways
length-slots_of sets ways n recency count h =
    omega (arith, length-take ways (drop (n * ways) recency), length-drop (n * ways) recency, rows_end n sets ways h)

-- the slots of a set are exchanged for as many
abbrev pub put_slots : ℕ → ℕ → List ℕ → List ℕ → List ℕ
put_slots ways n recency slots = take (n * ways) recency ++ (slots ++ drop (n * ways + ways) recency)

-- three parts of a list, by their lengths
take_first : (xs ys zs : List ℕ) (m k : ℕ) → length xs ≡ m → k ≤ m → take k (xs ++ (ys ++ zs)) ≡ take k xs
take_first xs ys zs m k e h = take-append-le k xs (ys ++ zs) (omega arith)

drop_two : (xs ys zs : List ℕ) (m k n : ℕ) → length xs ≡ m → length ys ≡ k → m + k ≤ n → drop n (xs ++ (ys ++ zs)) ≡ drop (n - (m + k)) zs
drop_two xs ys zs m k n e f h =
    let both : length (xs ++ ys) ≡ m + k = length-append xs ys ∙ omega arith in
    let far : n ≡ (m + k) + (n - (m + k)) = omega arith in
    ap (drop n) (sym (append_assoc xs ys zs))
    ∙ (ap (λ d. drop d (xs ++ ys ++ zs)) far
    ∙ (sym (drop-drop (n - (m + k)) (m + k) (xs ++ ys ++ zs)) ∙ ap (drop (n - (m + k))) (drop_at (xs ++ ys) zs (m + k) both)))

slots_of-put_slots : (sets ways n : ℕ) (recency slots : List ℕ) → length recency ≡ sets * ways → length slots ≡ ways → n < sets →
    slots_of ways (put_slots ways n recency slots) n ≡ slots
slots_of-put_slots sets ways n recency slots count size h =
    let front : length (take (n * ways) recency) ≡ n * ways = omega (arith, length-take (n * ways) recency, rows_end n sets ways h) in
    ap (take ways) (drop_at (take (n * ways) recency) (slots ++ drop (n * ways + ways) recency) (n * ways) front) ∙ take_at slots (drop (n * ways + ways) recency) ways size

slots_of_other : (sets ways n k : ℕ) (recency slots : List ℕ) → length recency ≡ sets * ways → length slots ≡ ways → n < sets → (k ≡ n → ⊥) →
    slots_of ways (put_slots ways n recency slots) k ≡ slots_of ways recency k
slots_of_other sets ways n k recency slots count size h ne =
    let front : length (take (n * ways) recency) ≡ n * ways = omega (arith, length-take (n * ways) recency, rows_end n sets ways h) in
    let new = put_slots ways n recency slots in
    ⊎_elim
    (λ below.
    let end : k * ways + ways ≤ n * ways = rows_end k n ways below in
    let taken : take (k * ways + ways) new ≡ take (k * ways + ways) recency =
    take_first (take (n * ways) recency) slots (drop (n * ways + ways) recency) (n * ways) (k * ways + ways) front end ∙ take-take (k * ways + ways) (n * ways) recency end in
    sym (drop-take (k * ways) ways new) ∙ (ap (drop (k * ways)) taken ∙ drop-take (k * ways) ways recency))
    (λ above.
    let strict : n < k = omega (arith, above, ne) in
    let start : n * ways + ways ≤ k * ways = rows_end n k ways strict in
    let gap : (n * ways + ways) + (k * ways - (n * ways + ways)) ≡ k * ways = omega arith in
    ap (take ways)
    (drop_two (take (n * ways) recency) slots (drop (n * ways + ways) recency) (n * ways) ways (k * ways) front size start
    ∙ (drop-drop (k * ways - (n * ways + ways)) (n * ways + ways) recency ∙ ap (λ d. drop d recency) gap)))
    (cases_lt k n)

length-put_slots : (sets ways n : ℕ) (recency slots : List ℕ) → length recency ≡ sets * ways → length slots ≡ ways → n < sets → length (put_slots ways n recency slots) ≡ sets * ways
length-put_slots sets ways n recency slots count size h =
    let front = length-take (n * ways) recency in
    let back = length-drop (n * ways + ways) recency in
    let all = length-append (take (n * ways) recency) (slots ++ drop (n * ways + ways) recency) in
    let rest = length-append slots (drop (n * ways + ways) recency) in
    omega (arith, front, back, all, rest, rows_end n sets ways h)

-- the slot is first in its set
abbrev pub put_first : ℕ → ℕ → ℕ → List ℕ → List ℕ
put_first ways n slot recency = put_slots ways n recency (slot_first slot (slots_of ways recency n))

-- a slot that was put first from where its set begins
pub put_first_from : (ways n slot start : ℕ) (recency new : List ℕ) → start ≡ n * ways →
    new ≡ take start recency ++ (slot_first slot (take ways (drop start recency)) ++ drop (start + ways) recency) → new ≡ put_first ways n slot recency
put_first_from ways n slot start recency new at is =
    is ∙ ap (λ (k : ℕ). take k recency ++ (slot_first slot (take ways (drop k recency)) ++ drop (k + ways) recency)) at

pub length-slot_first : (slot : ℕ) (slots : List ℕ) → length (slot_first slot slots) ≡ length slots
length-slot_first slot slots =
    length-append (filter (λ s. s == slot) slots) (filter (λ s. not (s == slot)) slots) ∙ length-filter_both (λ s. s == slot) (λ s. not (s == slot)) (λ _. refl) slots

pub view_of-put_first : (sets ways n slot : ℕ) (lines reserved : List (Option Line)) (recency : List ℕ) → length recency ≡ sets * ways → n < sets →
    view_of sets ways lines reserved (put_first ways n slot recency) ≡ in_set n (touched_in slot) (view_of sets ways lines reserved recency)
view_of-put_first sets ways n slot lines reserved recency count h =
    let way = way_at lines reserved in
    let slots = slot_first slot (slots_of ways recency n) in
    let size : length slots ≡ ways = length-slot_first slot (slots_of ways recency n) ∙ length-slots_of sets ways n recency count h in
    ap (λ (s : List (List Way)). let v : CacheView = record { ways = ways; sets = s } in v)
    (sets_by_changed way way sets ways n recency (put_first ways n slot recency) (touched_in slot) h
    (ap (map way) (slots_of-put_slots sets ways n recency slots count size h) ∙ map-slot_first lines reserved slot (slots_of ways recency n))
    (λ k inside ne. ap (map way) (slots_of_other sets ways n k recency slots count size h ne)))

pub length-put_first : (sets ways n slot : ℕ) (recency : List ℕ) → length recency ≡ sets * ways → n < sets → length (put_first ways n slot recency) ≡ sets * ways
length-put_first sets ways n slot recency count h =
    length-put_slots sets ways n recency (slot_first slot (slots_of ways recency n)) count
    (length-slot_first slot (slots_of ways recency n) ∙ length-slots_of sets ways n recency count h) h

-- ---- the calls

-- the tables show the cache, and are kept as a cache's are
pub record Shows (sets ways : ℕ) (lines reserved : List (Option Line)) (recency : List ℕ) (cache : CacheView) : Type 0 where
  pub view : view_of sets ways lines reserved recency ≡ cache
  pub kept : IsKept sets ways lines reserved recency

pub shows : (sets ways : ℕ) (lines reserved : List (Option Line)) (recency : List ℕ) (cache : CacheView) → sets * ways < 2 ^ 32 →
    length lines ≡ sets * ways → length reserved ≡ sets * ways → length recency ≡ sets * ways →
    view_of sets ways lines reserved recency ≡ cache → IsSound cache → Shows sets ways lines reserved recency cache
shows sets ways lines reserved recency cache small l r c view sound =
    record { view = view; kept = record { small = small; lines_count = l; reserved_count = r; recency_count = c; sound = subst IsSound (sym view) sound } }

-- two changes of a set, one after the other, and two changes that do the same to it
pub in_set-at : (n : ℕ) (f g : List Way → List Way) (cache : CacheView) → f (set_at n cache) ≡ g (set_at n cache) → in_set n f cache ≡ in_set n g cache
in_set-at n f g cache e = ap (λ (s : List Way). let v : CacheView = record cache { sets = set cache.sets n s } in v) e

pub in_set-in_set : (n : ℕ) (f g : List Way → List Way) (cache : CacheView) → n < length cache.sets → in_set n f (in_set n g cache) ≡ in_set n (λ s. f (g s)) cache
in_set-in_set n f g cache h =
    let made = g (set_at n cache) in
    ap (λ (s : List (List Way)). let v : CacheView = record cache { sets = s } in v)
    (ap (λ (s : List Way). set (set cache.sets n made) n (f s)) (get_or-set_same cache.sets n made [] h) ∙ set-set cache.sets n made (f made))

-- the home of a line is a set, and a way of it stands in the tables
pub home_within : (sets ways line : ℕ) (lines reserved : List (Option Line)) (recency : List ℕ) →
    IsKept sets ways lines reserved recency → home_of line (view_of sets ways lines reserved recency) < sets
home_within sets ways line lines reserved recency kept =
    let same = length-sets_by (way_at lines reserved) sets ways recency in
    let some = kept.sound.some in
    omega (arith, same, some)
