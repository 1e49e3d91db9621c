-- What the tables of a cache tell, and what each call does to them.
use Rattle.std.proofs.Common.{◌≡◌, ℕ, zero, suc, ◌+◌, ◌*◌, ◌/◌, ◌%◌, ◌<◌, ◌≤◌, ◌==◌, Bool, true, false, ◌&&◌, cond, List, [], ◌∷◌, length, get_or, set, All, map, find, reverse, count_by, is_none, Option, Some, None, IfSome, option_map, ◌⊎◌, arith, refl, sym, ap, ◌∙◌, inl, inr, ⊎_elim}
use Rattle.std.specs.Option.{option_or}
use Rattle.std.proofs.Math.Nat.{div-lt_iff_lt-mul}
use mathlib.Core.List.{reverse_aux}
use Rattle.std.proofs.lemmas.List.{length-set, set-get_or, get_or-map}
use Rattle.std.proofs.lemmas.List.Elements.{All-same, All-weaker}
use Rattle.rsim_base.specs.declared.memory.Line.{Line}
use Rattle.cache_sets.specs.declared.sets.Reserved.{Reserved}
use Rattle.cache_sets.specs.Ways.{Way, names, has_slot, holds, is_reserved_for, is_free, is_unreserved, reserved_for, held_for, filled_with, emptied, room_in, changed_at, touched_in, reserve_in, hold_in, drop_in}
use Rattle.cache_sets.specs.Caches.{CacheView, slot_count, home_of, set_at, set_of, slot_of, reserved_slot, room_for, told, in_set, touched, with_reserved, with_held, filled, dropped}
use Rattle.cache_sets.specs.Sound.{is_slot_of}
use Rattle.cache_sets.specs.Layout.{number_of, mark_at, way_at, slots_of, view_of, IsKept}
use Rattle.cache_sets.proofs.Counts.{count_by-cons, count_by_found, count_by_both_le}
use Rattle.cache_sets.specs.Recency.{IsSound-touched}
use Rattle.cache_sets.proofs.Soundness.{IsSound-with_reserved, IsSound-with_held, IsSound-filled, IsSound-dropped, slot_once}
use Rattle.cache_sets.proofs.Keeping.{rows_end, ranged, count_by-map, slot_range, found_is_there, slot_is_there, length-sets_by, set_by, mark_at-set, view_of-marked, view_of-put_first, length-put_first, put_first, Shows, shows, in_set-at, in_set-in_set, home_within}

-- ---- where the slots of a line's set stand

pub slot_count_is : (sets ways : ℕ) (lines reserved : List (Option Line)) (recency : List ℕ) → slot_count (view_of sets ways lines reserved recency) ≡ sets * ways
slot_count_is sets ways lines reserved recency = ap (λ (s : ℕ). s * ways) (length-sets_by (way_at lines reserved) sets ways recency)

pub home_is : (sets ways line : ℕ) (lines reserved : List (Option Line)) (recency : List ℕ) → line % sets ≡ home_of line (view_of sets ways lines reserved recency)
home_is sets ways line lines reserved recency = ap (λ (s : ℕ). line % s) (sym (length-sets_by (way_at lines reserved) sets ways recency))

pub home_ends : (sets ways line : ℕ) (lines reserved : List (Option Line)) (recency : List ℕ) → IsKept sets ways lines reserved recency →
    home_of line (view_of sets ways lines reserved recency) * ways + ways ≤ sets * ways
home_ends sets ways line lines reserved recency kept =
    rows_end (home_of line (view_of sets ways lines reserved recency)) sets ways (home_within sets ways line lines reserved recency kept)

-- the set that a slot is in
some_ways : (sets ways slot : ℕ) → slot < sets * ways → 0 < ways
some_ways sets zero slot h = absurd (omega arith)
some_ways sets (suc ways) slot h = omega arith

pub set_of_slot : (sets ways slot : ℕ) → slot < sets * ways → slot / ways < sets
set_of_slot sets ways slot h = (div-lt_iff_lt-mul (some_ways sets ways slot h)).1 h

-- a start that is told of the cache, in the tables' terms
pub start_at : (sets ways line start : ℕ) (lines reserved : List (Option Line)) (recency : List ℕ) (now : CacheView) →
    view_of sets ways lines reserved recency ≡ now → start ≡ home_of line now * now.ways → start ≡ home_of line (view_of sets ways lines reserved recency) * ways
start_at sets ways line start lines reserved recency now view is = is ∙ ap (λ (v : CacheView). home_of line v * v.ways) (sym view)

pub slot_within : (sets ways n slot : ℕ) → n < sets → is_slot_of ways n slot ≡ true → slot < sets * ways
slot_within sets ways n slot h e = let (low, high) = slot_range ways n slot e in omega (arith, high, rows_end n sets ways h)

-- ---- what a set has, told by its slots

find_head : (way : ℕ → Way) (b b' : Bool) (j : ℕ) (rest : Option Way) (rest' : Option ℕ) → b ≡ b' → rest ≡ option_map way rest' → cond b (Some (way j)) rest ≡ option_map way (cond b' (Some j) rest')
find_head way b true j rest rest' e h = ap (λ c. cond c (Some (way j)) rest) e
find_head way b false j rest rest' e h = ap (λ c. cond c (Some (way j)) rest) e ∙ h

pub find-ways : (way : ℕ → Way) (q : Way → Bool) (p : ℕ → Bool) (slots : List ℕ) → ((j : ℕ) → q (way j) ≡ p j) → find q (map way slots) ≡ option_map way (find p slots)
find-ways way q p [] h = refl
find-ways way q p (j ∷ js) h = find_head way (q (way j)) (p j) j (find q (map way js)) (find p js) (h j) (find-ways way q p js h)

map-reverse_aux : {X Y : Type 0} (f : X → Y) (xs ys : List X) → map f (reverse_aux xs ys) ≡ reverse_aux (map f xs) (map f ys)
map-reverse_aux f [] ys = refl
map-reverse_aux f (x ∷ xs) ys = map-reverse_aux f xs (x ∷ ys)

pub count_by-reverse_aux : {X : Type 0} (p : X → Bool) (xs ys : List X) → count_by p (reverse_aux xs ys) ≡ count_by p xs + count_by p ys
count_by-reverse_aux p [] ys = omega arith
count_by-reverse_aux p (x ∷ xs) ys = omega (arith, count_by-reverse_aux p xs (x ∷ ys), count_by-cons p x xs, count_by-cons p x ys)

option_map-or : {X Y : Type 0} (f : X → Y) (a b : Option X) → option_map f (option_or a b) ≡ option_or (option_map f a) (option_map f b)
option_map-or f None b = refl
option_map-or f (Some x) b = refl

option_map-map : {X Y Z : Type 0} (g : Y → Z) (f : X → Y) (o : Option X) → option_map g (option_map f o) ≡ option_map (λ x. g (f x)) o
option_map-map g f None = refl
option_map-map g f (Some x) = refl

option_map-id : {X : Type 0} (f : X → X) (o : Option X) → ((x : X) → f x ≡ x) → option_map f o ≡ o
option_map-id f None h = refl
option_map-id f (Some x) h = ap Some (h x)

set_is : (sets ways line : ℕ) (lines reserved : List (Option Line)) (recency : List ℕ) → IsKept sets ways lines reserved recency →
    set_of line (view_of sets ways lines reserved recency) ≡ map (way_at lines reserved) (slots_of ways recency (home_of line (view_of sets ways lines reserved recency)))
set_is sets ways line lines reserved recency kept =
    set_by (way_at lines reserved) sets ways (home_of line (view_of sets ways lines reserved recency)) recency (home_within sets ways line lines reserved recency kept)

-- the slots of a set's ways, and their ranges
pub slots_are : (sets ways line : ℕ) (lines reserved : List (Option Line)) (recency : List ℕ) → IsKept sets ways lines reserved recency →
    slots_of ways recency (home_of line (view_of sets ways lines reserved recency)) ≡ map (λ way. way.slot) (set_of line (view_of sets ways lines reserved recency))
slots_are sets ways line lines reserved recency kept =
    let slots = slots_of ways recency (home_of line (view_of sets ways lines reserved recency)) in
    sym (ap (map (λ (way : Way). way.slot)) (set_is sets ways line lines reserved recency kept) ∙ slot_of_each lines reserved slots)
  where
    slot_of_each : (lines reserved : List (Option Line)) (slots : List ℕ) → map (λ (way : Way). way.slot) (map (way_at lines reserved) slots) ≡ slots
    slot_of_each lines reserved [] = refl
    slot_of_each lines reserved (j ∷ js) = ap (λ (ys : List ℕ). j ∷ ys) (slot_of_each lines reserved js)

pub slots_fit : (sets ways line : ℕ) (lines reserved : List (Option Line)) (recency : List ℕ) → IsKept sets ways lines reserved recency →
    All (λ slot. slot < sets * ways) (map (λ way. way.slot) (set_of line (view_of sets ways lines reserved recency)))
slots_fit sets ways line lines reserved recency kept =
    let n = home_of line (view_of sets ways lines reserved recency) in
    let h = home_within sets ways line lines reserved recency kept in
    let slots = slots_of ways recency n in
    All-same (λ slot. slot < sets * ways) (map (λ (way : Way). way.slot) (set_of line (view_of sets ways lines reserved recency))) slots (sym (slots_are sets ways line lines reserved recency kept))
    (All-weaker (λ slot. is_slot_of ways n slot ≡ true) (λ slot. slot < sets * ways) (λ slot is. slot_within sets ways n slot h is) slots (ranged sets ways lines reserved recency n kept.sound h))

-- so they stand in a table of as many
pub slots_fit_in : (sets ways line count : ℕ) (lines reserved : List (Option Line)) (recency slots : List ℕ) (now : CacheView) → IsKept sets ways lines reserved recency →
    view_of sets ways lines reserved recency ≡ now → slots ≡ map (λ way. way.slot) (set_of line now) → sets * ways ≤ count → All (λ slot. slot < count) slots
slots_fit_in sets ways line count lines reserved recency slots now kept view is h =
    All-same (λ slot. slot < count) slots (map (λ (way : Way). way.slot) (set_of line (view_of sets ways lines reserved recency)))
    (is ∙ ap (λ (v : CacheView). map (λ (way : Way). way.slot) (set_of line v)) (sym view))
    (All-weaker (λ slot. slot < sets * ways) (λ slot. slot < count) (λ slot below. omega (arith, below, h)) (map (λ (way : Way). way.slot) (set_of line (view_of sets ways lines reserved recency)))
    (slots_fit sets ways line lines reserved recency kept))

-- no slot of a set stands twice
pub slots_once : (sets ways n slot : ℕ) (lines reserved : List (Option Line)) (recency : List ℕ) → IsKept sets ways lines reserved recency → n < sets →
    count_by (λ s. s == slot) (slots_of ways recency n) ≤ 1
slots_once sets ways n slot lines reserved recency kept h =
    let way = way_at lines reserved in
    let inside : n < length (view_of sets ways lines reserved recency).sets = omega (arith, h, length-sets_by way sets ways recency) in
    let same : count_by (has_slot slot) (set_at n (view_of sets ways lines reserved recency)) ≡ count_by (λ s. s == slot) (slots_of ways recency n) =
    ap (count_by (has_slot slot)) (set_by way sets ways n recency h) ∙ count_by-map (has_slot slot) way (slots_of ways recency n) in
    omega (arith, same, slot_once (kept.sound.each n inside) slot)

-- what a look-up names is a slot of the cache
pub told_within : (sets ways line : ℕ) (lines reserved : List (Option Line)) (recency : List ℕ) (p : Way → Bool) (result : Option ℕ) → IsKept sets ways lines reserved recency →
    result ≡ option_map (λ way. way.slot) (find p (set_of line (view_of sets ways lines reserved recency))) → IfSome result (λ slot. slot < slot_count (view_of sets ways lines reserved recency))
told_within sets ways line lines reserved recency p None kept is = tt
told_within sets ways line lines reserved recency p (Some slot) kept is =
    let n = home_of line (view_of sets ways lines reserved recency) in
    let h = home_within sets ways line lines reserved recency kept in
    let inside : n < length (view_of sets ways lines reserved recency).sets = omega (arith, h, length-sets_by (way_at lines reserved) sets ways recency) in
    let there = found_is_there p slot (kept.sound.each n inside) (sym is) in
    omega (arith, slot_within sets ways n slot h there, slot_count_is sets ways lines reserved recency)

-- the slot of the way that passes a test
slot_told : (sets ways line : ℕ) (lines reserved : List (Option Line)) (recency : List ℕ) (q : Way → Bool) (p : ℕ → Bool) → ((j : ℕ) → q (way_at lines reserved j) ≡ p j) →
    IsKept sets ways lines reserved recency →
    find p (slots_of ways recency (home_of line (view_of sets ways lines reserved recency))) ≡ option_map (λ way. way.slot) (find q (set_of line (view_of sets ways lines reserved recency)))
slot_told sets ways line lines reserved recency q p h kept =
    let way = way_at lines reserved in
    let slots = slots_of ways recency (home_of line (view_of sets ways lines reserved recency)) in
    sym (ap (λ (members : List Way). option_map (λ w. w.slot) (find q members)) (set_is sets ways line lines reserved recency kept)
    ∙ (ap (λ (o : Option Way). option_map (λ w. w.slot) o) (find-ways way q p slots h)
    ∙ (option_map-map (λ w. w.slot) way (find p slots) ∙ option_map-id (λ j. j) (find p slots) (λ _. refl))))

pub slot_of_tables : (sets ways line : ℕ) (lines reserved : List (Option Line)) (recency : List ℕ) → IsKept sets ways lines reserved recency →
    find (λ j. names line (mark_at lines j)) (map (λ way. way.slot) (set_of line (view_of sets ways lines reserved recency))) ≡ slot_of line (view_of sets ways lines reserved recency)
slot_of_tables sets ways line lines reserved recency kept =
    ap (find (λ j. names line (mark_at lines j))) (sym (slots_are sets ways line lines reserved recency kept)) ∙ slot_told sets ways line lines reserved recency (holds line) (λ j. names line (mark_at lines j)) (λ _. refl) kept

pub reserved_of_tables : (sets ways line : ℕ) (lines reserved : List (Option Line)) (recency : List ℕ) → IsKept sets ways lines reserved recency →
    find (λ j. names line (mark_at reserved j)) (map (λ way. way.slot) (set_of line (view_of sets ways lines reserved recency))) ≡ reserved_slot line (view_of sets ways lines reserved recency)
reserved_of_tables sets ways line lines reserved recency kept =
    ap (find (λ j. names line (mark_at reserved j))) (sym (slots_are sets ways line lines reserved recency kept)) ∙ slot_told sets ways line lines reserved recency (is_reserved_for line) (λ j. names line (mark_at reserved j)) (λ _. refl) kept

-- the same of a look-up among slots that are told of the cache
pub found_slot : (sets ways line : ℕ) (lines reserved : List (Option Line)) (recency slots : List ℕ) (now : CacheView) (result : Option ℕ) → IsKept sets ways lines reserved recency →
    view_of sets ways lines reserved recency ≡ now → slots ≡ map (λ way. way.slot) (set_of line now) →
    result ≡ find (λ j. names line (mark_at lines j)) slots → result ≡ slot_of line now
found_slot sets ways line lines reserved recency slots now result kept view is found =
    found
    ∙ (ap (find (λ j. names line (mark_at lines j))) (is ∙ ap (λ (v : CacheView). map (λ (way : Way). way.slot) (set_of line v)) (sym view))
    ∙ (slot_of_tables sets ways line lines reserved recency kept ∙ ap (slot_of line) view))

pub found_reserved : (sets ways line : ℕ) (lines reserved : List (Option Line)) (recency slots : List ℕ) (now : CacheView) (result : Option ℕ) → IsKept sets ways lines reserved recency →
    view_of sets ways lines reserved recency ≡ now → slots ≡ map (λ way. way.slot) (set_of line now) →
    result ≡ find (λ j. names line (mark_at reserved j)) slots → result ≡ reserved_slot line now
found_reserved sets ways line lines reserved recency slots now result kept view is found =
    found
    ∙ (ap (find (λ j. names line (mark_at reserved j))) (is ∙ ap (λ (v : CacheView). map (λ (way : Way). way.slot) (set_of line v)) (sym view))
    ∙ (reserved_of_tables sets ways line lines reserved recency kept ∙ ap (reserved_slot line) view))

-- the slot of the room among these slots
abbrev pub room_slot : List (Option Line) → List (Option Line) → List ℕ → Option ℕ
room_slot lines reserved slots =
    option_or (find (λ slot. is_none (mark_at lines slot) && is_none (mark_at reserved slot)) slots) (find (λ slot. is_none (mark_at reserved slot)) (reverse slots))

room_in-ways : (lines reserved : List (Option Line)) (slots : List ℕ) → room_in (map (way_at lines reserved) slots) ≡ option_map (way_at lines reserved) (room_slot lines reserved slots)
room_in-ways lines reserved slots =
    let way = way_at lines reserved in
    let free = find-ways way is_free (λ slot. is_none (mark_at lines slot) && is_none (mark_at reserved slot)) slots (λ _. refl) in
    let last = find-ways way is_unreserved (λ slot. is_none (mark_at reserved slot)) (reverse slots) (λ _. refl) in
    let turned : reverse (map way slots) ≡ map way (reverse slots) = sym (map-reverse_aux way slots []) in
    ap (λ (o : Option Way). option_or o (find is_unreserved (reverse (map way slots)))) free
    ∙ (ap (λ (members : List Way). option_or (option_map way (find (λ slot. is_none (mark_at lines slot) && is_none (mark_at reserved slot)) slots)) (find is_unreserved members)) turned
    ∙ (ap (λ (o : Option Way). option_or (option_map way (find (λ slot. is_none (mark_at lines slot) && is_none (mark_at reserved slot)) slots)) o) last
    ∙ sym (option_map-or way (find (λ slot. is_none (mark_at lines slot) && is_none (mark_at reserved slot)) slots) (find (λ slot. is_none (mark_at reserved slot)) (reverse slots)))))

pub room_of_tables : (sets ways line : ℕ) (lines reserved : List (Option Line)) (recency : List ℕ) → IsKept sets ways lines reserved recency →
    room_for line (view_of sets ways lines reserved recency) ≡ option_map (way_at lines reserved) (room_slot lines reserved (map (λ way. way.slot) (set_of line (view_of sets ways lines reserved recency))))
room_of_tables sets ways line lines reserved recency kept =
    ap room_in (set_is sets ways line lines reserved recency kept)
    ∙ (room_in-ways lines reserved (slots_of ways recency (home_of line (view_of sets ways lines reserved recency)))
    ∙ ap (λ (slots : List ℕ). option_map (way_at lines reserved) (room_slot lines reserved slots)) (slots_are sets ways line lines reserved recency kept))

pub found_room : (sets ways line : ℕ) (lines reserved : List (Option Line)) (recency slots : List ℕ) (now : CacheView) (result : Option ℕ) → IsKept sets ways lines reserved recency →
    view_of sets ways lines reserved recency ≡ now → slots ≡ map (λ way. way.slot) (set_of line now) →
    result ≡ room_slot lines reserved slots → room_for line now ≡ option_map (way_at lines reserved) result
found_room sets ways line lines reserved recency slots now result kept view is found =
    ap (room_for line) (sym view)
    ∙ (room_of_tables sets ways line lines reserved recency kept
    ∙ (ap (λ (v : CacheView). option_map (way_at lines reserved) (room_slot lines reserved (map (λ (way : Way). way.slot) (set_of line v)))) view
    ∙ (ap (λ (xs : List ℕ). option_map (way_at lines reserved) (room_slot lines reserved xs)) (sym is) ∙ ap (option_map (way_at lines reserved)) (sym found))))

-- the line that a way held, as it is told
line_told : (line : Option Line) → option_map (λ n. let l : Line = record { 0 = n } in l) (number_of line) ≡ line
line_told None = refl
line_told (Some line) = refl

pub victim_told : (lines reserved : List (Option Line)) (slot : ℕ) (victim : Option Line) → slot < length lines → victim ≡ get_or lines slot victim →
    ◌≡◌ {A = Reserved} (record { slot = slot; victim = victim }) (told (way_at lines reserved slot))
victim_told lines reserved slot victim within is =
    let number : mark_at lines slot ≡ number_of victim = get_or-map number_of lines slot victim None within ∙ ap number_of (sym is) in
    let tell : Option Line → Reserved = λ v. record { slot = slot; victim = v } in
    ap tell (sym (ap (option_map (λ n. let l : Line = record { 0 = n } in l)) number ∙ line_told victim))

-- the slot of a way that was told
pub slot_told_of : (room : Option Way) (way : Reserved) → Some way ≡ option_map told room → option_map (λ w. w.slot) room ≡ Some way.slot
slot_told_of None way is = absurd cc
slot_told_of (Some w) way is = ap (λ (o : Option Reserved). option_map (λ r. r.slot) o) (sym is)

pub none_told : (room : Option Way) → None ≡ option_map told room → room ≡ None
none_told None is = refl
none_told (Some w) is = absurd cc

-- the room is a way of the set
either_way : {X Y : Type 0} (f : X → Y) (a b : Option X) (y : Y) → option_map f (option_or a b) ≡ Some y → (option_map f a ≡ Some y) ⊎ (option_map f b ≡ Some y)
either_way f None b y e = inr e
either_way f (Some x) b y e = inl e

room_counts : (members : List Way) (slot : ℕ) → option_map (λ way. way.slot) (room_in members) ≡ Some slot → 1 ≤ count_by (has_slot slot) members
room_counts members slot e =
    ⊎_elim
    (λ free. omega (arith, count_by_found (λ way. way.slot) is_free members slot free, count_by_both_le (has_slot slot) is_free members))
    (λ last. omega (arith, count_by_found (λ way. way.slot) is_unreserved (reverse members) slot last, count_by_both_le (has_slot slot) is_unreserved (reverse members), count_by-reverse_aux (has_slot slot) members []))
    (either_way (λ way. way.slot) (find is_free members) (find is_unreserved (reverse members)) slot e)

-- ---- what each call leaves

-- marks of one way, written
marked_both : (b : Bool) (j : ℕ) (line line' reserved reserved' : Option ℕ) →
    ◌≡◌ {A = Way} (record { slot = j; line = cond b line' line; reserved = cond b reserved' reserved }) (cond b (record { slot = j; line = line'; reserved = reserved' }) (record { slot = j; line = line; reserved = reserved }))
marked_both true j line line' reserved reserved' = refl
marked_both false j line line' reserved reserved' = refl

way_at-set_both : (lines reserved : List (Option Line)) (slot j : ℕ) (line mark : Option Line) → slot < length lines → slot < length reserved →
    way_at (set lines slot line) (set reserved slot mark) j ≡ cond (j == slot) (record (way_at lines reserved j) { line = number_of line; reserved = number_of mark }) (way_at lines reserved j)
way_at-set_both lines reserved slot j line mark in_lines in_reserved =
    let make : Option ℕ → Option ℕ → Way = λ l r. record { slot = j; line = l; reserved = r } in
    ap (λ (l : Option ℕ). make l (mark_at (set reserved slot mark) j)) (mark_at-set lines slot j line in_lines)
    ∙ (ap (λ (r : Option ℕ). make (cond (j == slot) (number_of line) (mark_at lines j)) r) (mark_at-set reserved slot j mark in_reserved)
    ∙ marked_both (j == slot) j (mark_at lines j) (number_of line) (mark_at reserved j) (number_of mark))

marked_line : (b : Bool) (j : ℕ) (line line' reserved : Option ℕ) →
    ◌≡◌ {A = Way} (record { slot = j; line = cond b line' line; reserved = reserved }) (cond b (record { slot = j; line = line'; reserved = reserved }) (record { slot = j; line = line; reserved = reserved }))
marked_line true j line line' reserved = refl
marked_line false j line line' reserved = refl

marked_reserved : (b : Bool) (j : ℕ) (line reserved reserved' : Option ℕ) →
    ◌≡◌ {A = Way} (record { slot = j; line = line; reserved = cond b reserved' reserved }) (cond b (record { slot = j; line = line; reserved = reserved' }) (record { slot = j; line = line; reserved = reserved }))
marked_reserved true j line reserved reserved' = refl
marked_reserved false j line reserved reserved' = refl

-- a set that is not changed
in_set-same : (n : ℕ) (f : List Way → List Way) (cache : CacheView) → f (set_at n cache) ≡ set_at n cache → in_set n f cache ≡ cache
in_set-same n f cache e =
    ap (λ (s : List Way). let v : CacheView = record cache { sets = set cache.sets n s } in v) e
    ∙ ap (λ (s : List (List Way)). let v : CacheView = record cache { sets = s } in v) (set-get_or cache.sets n [])

at_slot : (slot : Option ℕ) (k : ℕ) (change : Way → Way) (members : List Way) → slot ≡ Some k → changed_at (Some k) change members ≡ changed_at slot change members
at_slot slot k change members e = ap (λ o. changed_at o change members) (sym e)

no_slot : (slot : Option ℕ) (change : Way → Way) (members : List Way) → slot ≡ None → changed_at slot change members ≡ members
no_slot slot change members e = ap (λ o. changed_at o change members) e

pub with_reserved-none : (line : ℕ) (cache : CacheView) → room_for line cache ≡ None → with_reserved line cache ≡ cache
with_reserved-none line cache none = in_set-same (home_of line cache) (reserve_in line) cache (no_slot (option_map (λ way. way.slot) (room_for line cache)) (reserved_for line) (set_of line cache) (ap (option_map (λ (way : Way). way.slot)) none))

pub with_held-none : (line : ℕ) (cache : CacheView) → slot_of line cache ≡ None → with_held line cache ≡ cache
with_held-none line cache none = in_set-same (home_of line cache) (hold_in line) cache (no_slot (slot_of line cache) (held_for line) (set_of line cache) none)

pub dropped-none : (line : ℕ) (cache : CacheView) → slot_of line cache ≡ None → dropped line cache ≡ cache
dropped-none line cache none = in_set-same (home_of line cache) (drop_in line) cache (no_slot (slot_of line cache) emptied (set_of line cache) none)

-- a way of the line's set that a look-up names
pub named_there : (sets ways line slot : ℕ) (lines reserved : List (Option Line)) (recency : List ℕ) (p : Way → Bool) → IsKept sets ways lines reserved recency →
    option_map (λ way. way.slot) (find p (set_of line (view_of sets ways lines reserved recency))) ≡ Some slot →
    is_slot_of ways (home_of line (view_of sets ways lines reserved recency)) slot ≡ true
named_there sets ways line slot lines reserved recency p kept is =
    let cache = view_of sets ways lines reserved recency in
    found_is_there p slot (kept.sound.each (home_of line cache) (home_inside sets ways line lines reserved recency kept)) is
  where
    home_inside : (sets ways line : ℕ) (lines reserved : List (Option Line)) (recency : List ℕ) → IsKept sets ways lines reserved recency →
        home_of line (view_of sets ways lines reserved recency) < length (view_of sets ways lines reserved recency).sets
    home_inside sets ways line lines reserved recency kept = omega (arith, home_within sets ways line lines reserved recency kept, length-sets_by (way_at lines reserved) sets ways recency)

pub room_within : (sets ways line slot : ℕ) (lines reserved : List (Option Line)) (recency : List ℕ) → IsKept sets ways lines reserved recency →
    option_map (λ way. way.slot) (room_for line (view_of sets ways lines reserved recency)) ≡ Some slot → slot < sets * ways
room_within sets ways line slot lines reserved recency kept is =
    let cache = view_of sets ways lines reserved recency in
    let n = home_of line cache in
    let h = home_within sets ways line lines reserved recency kept in
    let inside : n < length cache.sets = omega (arith, h, length-sets_by (way_at lines reserved) sets ways recency) in
    slot_within sets ways n slot h (slot_is_there slot (kept.sound.each n inside) (room_counts (set_of line cache) slot is))

pub Shows-with_reserved : (sets ways slot : ℕ) (line : Line) (lines reserved : List (Option Line)) (recency : List ℕ) → IsKept sets ways lines reserved recency →
    slot_of line.0 (view_of sets ways lines reserved recency) ≡ None → reserved_slot line.0 (view_of sets ways lines reserved recency) ≡ None →
    option_map (λ way. way.slot) (room_for line.0 (view_of sets ways lines reserved recency)) ≡ Some slot →
    Shows sets ways (set lines slot None) (set reserved slot (Some line)) recency (with_reserved line.0 (view_of sets ways lines reserved recency))
Shows-with_reserved sets ways slot line lines reserved recency kept absent unreserved is =
    let cache = view_of sets ways lines reserved recency in
    let n = home_of line.0 cache in
    let h = home_within sets ways line.0 lines reserved recency kept in
    let inside : n < length cache.sets = omega (arith, h, length-sets_by (way_at lines reserved) sets ways recency) in
    let there = slot_is_there slot (kept.sound.each n inside) (room_counts (set_of line.0 cache) slot is) in
    let within = slot_within sets ways n slot h there in
    shows sets ways (set lines slot None) (set reserved slot (Some line)) recency (with_reserved line.0 cache) kept.small
    (length-set lines slot None ∙ kept.lines_count) (length-set reserved slot (Some line) ∙ kept.reserved_count) kept.recency_count
    (view_of-marked sets ways n slot lines (set lines slot None) reserved (set reserved slot (Some line)) recency (reserved_for line.0) kept.sound h there
    (λ j. way_at-set_both lines reserved slot j None (Some line) (omega (arith, within, kept.lines_count)) (omega (arith, within, kept.reserved_count)))
    ∙ in_set-at n (changed_at (Some slot) (reserved_for line.0)) (reserve_in line.0) cache (at_slot (option_map (λ way. way.slot) (room_for line.0 cache)) slot (reserved_for line.0) (set_of line.0 cache) is))
    (IsSound-with_reserved line.0 cache absent unreserved kept.sound)

pub Shows-with_held : (sets ways slot : ℕ) (line : Line) (lines reserved : List (Option Line)) (recency : List ℕ) → IsKept sets ways lines reserved recency →
    slot_of line.0 (view_of sets ways lines reserved recency) ≡ Some slot →
    Shows sets ways lines (set reserved slot (Some line)) recency (with_held line.0 (view_of sets ways lines reserved recency))
Shows-with_held sets ways slot line lines reserved recency kept is =
    let cache = view_of sets ways lines reserved recency in
    let n = home_of line.0 cache in
    let h = home_within sets ways line.0 lines reserved recency kept in
    let there = named_there sets ways line.0 slot lines reserved recency (holds line.0) kept is in
    let within = slot_within sets ways n slot h there in
    shows sets ways lines (set reserved slot (Some line)) recency (with_held line.0 cache) kept.small
    kept.lines_count (length-set reserved slot (Some line) ∙ kept.reserved_count) kept.recency_count
    (view_of-marked sets ways n slot lines lines reserved (set reserved slot (Some line)) recency (held_for line.0) kept.sound h there
    (λ j.
    ap (λ (r : Option ℕ). let w : Way = record { slot = j; line = mark_at lines j; reserved = r } in w) (mark_at-set reserved slot j (Some line) (omega (arith, within, kept.reserved_count)))
    ∙ marked_reserved (j == slot) j (mark_at lines j) (mark_at reserved j) (Some line.0))
    ∙ in_set-at n (changed_at (Some slot) (held_for line.0)) (hold_in line.0) cache (at_slot (slot_of line.0 cache) slot (held_for line.0) (set_of line.0 cache) is))
    (IsSound-with_held line.0 cache kept.sound)

pub Shows-dropped : (sets ways slot : ℕ) (line : Line) (lines reserved : List (Option Line)) (recency : List ℕ) → IsKept sets ways lines reserved recency →
    slot_of line.0 (view_of sets ways lines reserved recency) ≡ Some slot →
    Shows sets ways (set lines slot None) reserved recency (dropped line.0 (view_of sets ways lines reserved recency))
Shows-dropped sets ways slot line lines reserved recency kept is =
    let cache = view_of sets ways lines reserved recency in
    let n = home_of line.0 cache in
    let h = home_within sets ways line.0 lines reserved recency kept in
    let there = named_there sets ways line.0 slot lines reserved recency (holds line.0) kept is in
    let within = slot_within sets ways n slot h there in
    shows sets ways (set lines slot None) reserved recency (dropped line.0 cache) kept.small
    (length-set lines slot None ∙ kept.lines_count) kept.reserved_count kept.recency_count
    (view_of-marked sets ways n slot lines (set lines slot None) reserved reserved recency emptied kept.sound h there
    (λ j.
    ap (λ (l : Option ℕ). let w : Way = record { slot = j; line = l; reserved = mark_at reserved j } in w) (mark_at-set lines slot j None (omega (arith, within, kept.lines_count)))
    ∙ marked_line (j == slot) j (mark_at lines j) None (mark_at reserved j))
    ∙ in_set-at n (changed_at (Some slot) emptied) (drop_in line.0) cache (at_slot (slot_of line.0 cache) slot emptied (set_of line.0 cache) is))
    (IsSound-dropped line.0 cache kept.sound)

pub Shows-filled : (sets ways slot : ℕ) (line : Line) (lines reserved : List (Option Line)) (recency : List ℕ) → IsKept sets ways lines reserved recency →
    reserved_slot line.0 (view_of sets ways lines reserved recency) ≡ Some slot →
    Shows sets ways (set lines slot (Some line)) (set reserved slot None) (put_first ways (home_of line.0 (view_of sets ways lines reserved recency)) slot recency) (filled slot line.0 (view_of sets ways lines reserved recency))
Shows-filled sets ways slot line lines reserved recency kept is =
    let cache = view_of sets ways lines reserved recency in
    let n = home_of line.0 cache in
    let h = home_within sets ways line.0 lines reserved recency kept in
    let inside : n < length cache.sets = omega (arith, h, length-sets_by (way_at lines reserved) sets ways recency) in
    let there = named_there sets ways line.0 slot lines reserved recency (is_reserved_for line.0) kept is in
    let within = slot_within sets ways n slot h there in
    shows sets ways (set lines slot (Some line)) (set reserved slot None) (put_first ways n slot recency) (filled slot line.0 cache) kept.small
    (length-set lines slot (Some line) ∙ kept.lines_count) (length-set reserved slot None ∙ kept.reserved_count) (length-put_first sets ways n slot recency kept.recency_count h)
    (view_of-put_first sets ways n slot (set lines slot (Some line)) (set reserved slot None) recency kept.recency_count h
    ∙ (ap (in_set n (touched_in slot))
    (view_of-marked sets ways n slot lines (set lines slot (Some line)) reserved (set reserved slot None) recency (filled_with line.0) kept.sound h there
    (λ j. way_at-set_both lines reserved slot j (Some line) None (omega (arith, within, kept.lines_count)) (omega (arith, within, kept.reserved_count))))
    ∙ in_set-in_set n (touched_in slot) (changed_at (Some slot) (filled_with line.0)) cache inside))
    (IsSound-filled slot line.0 cache is kept.sound)

pub Shows-touched : (sets ways slot : ℕ) (lines reserved : List (Option Line)) (recency : List ℕ) → IsKept sets ways lines reserved recency → slot / ways < sets →
    Shows sets ways lines reserved (put_first ways (slot / ways) slot recency) (touched slot (view_of sets ways lines reserved recency))
Shows-touched sets ways slot lines reserved recency kept h =
    let cache = view_of sets ways lines reserved recency in
    shows sets ways lines reserved (put_first ways (slot / ways) slot recency) (touched slot cache) kept.small
    kept.lines_count kept.reserved_count (length-put_first sets ways (slot / ways) slot recency kept.recency_count h)
    (view_of-put_first sets ways (slot / ways) slot lines reserved recency kept.recency_count h)
    (IsSound-touched slot cache kept.sound)
