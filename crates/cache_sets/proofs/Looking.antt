-- What each call does to look-ups.
use Rattle.std.proofs.Common.{◌≡◌, ℕ, ◌/◌, ◌%◌, ◌<◌, ◌≤◌, ◌==◌, Bool, true, false, not, ◌&&◌, ◌||◌, cond, List, [], length, get_or, set, find, reverse, count_by, is_none, Option, Some, None, option_map, ◌⊎◌, arith, refl, sym, ap, ◌∙◌, inl, inr, ⊎_elim}
use Rattle.std.specs.Option.{option_or}
use Rattle.std.proofs.lemmas.Bool.{cases_eq, cases_Bool, eq-eqb, ne_eqb, eqb-true, and_from, and_parts, and_right}
use Rattle.std.proofs.lemmas.List.{length-set, get_or-set_same, get_or-set_other}
use Rattle.cache_sets.specs.Ways.{Way, names, has_slot, holds, is_reserved_for, is_free, is_unreserved, reserved_for, held_for, filled_with, emptied, slot_in, reserved_in, room_in, changed_at, touched_in, reserve_in, hold_in, fill_in, drop_in}
use Rattle.cache_sets.specs.Caches.{CacheView, home_of, set_at, set_of, slot_of, reserved_slot, room_for, in_set, touched, with_reserved, with_held, filled, dropped}
use Rattle.cache_sets.specs.Apart.{IsApart}
use Rattle.cache_sets.proofs.Keeping.{slots_differ, found_is_there}
use Rattle.cache_sets.specs.Sound.{IsSound, IsSoundSet, is_slot_of, concerns, are_apart, is_torn}
use Rattle.cache_sets.specs.Lookups.{LooksUp, LooksUpAsBefore, LooksUpReserved, LooksUpHeld, LooksUpFilled, LooksUpDropped, with_slot, is_victim, without_victim}
use Rattle.cache_sets.proofs.Counts.{one_if, cond_le_one, count_by_le, count_by_never, count_by_both_le, count_by_split, count_by_either, count_by-parted, count_by_none, count_by_found}
use Rattle.cache_sets.proofs.Finding.{found_passes, found_counts, slot-changed, find_quiet, find_same, find_set, find_cleared, find_parted}
use Rattle.cache_sets.proofs.Soundness.{slot_once, holds_there, or_from_left, or_from_right, none_from_option_map, IsSoundSet-fill}
use Rattle.cache_sets.proofs.Calls.{count_by-reverse_aux, slot_within}

-- ---- one set

abbrev at : ℕ → (Way → Bool) → Way → Bool
at slot test way = has_slot slot way && test way

abbrev slot_given : Option Way → Option ℕ
slot_given o = option_map (λ w. w.slot) o

once : {sets ways n : ℕ} {m : List Way} (line : ℕ) → IsSoundSet sets ways n m → count_by (concerns line) m ≤ 1
once {sets} {ways} {n} line sound = omega (arith, sound.own line, cond_le_one (line % sets == n))

holds_once : {sets ways n : ℕ} {m : List Way} (line : ℕ) → IsSoundSet sets ways n m → count_by (holds line) m ≤ 1
holds_once {m = m} line sound = omega (arith, once line sound, count_by_le (holds line) (concerns line) m (λ w. or_from_left (holds line w) (is_reserved_for line w)))

reserved_once : {sets ways n : ℕ} {m : List Way} (line : ℕ) → IsSoundSet sets ways n m → count_by (is_reserved_for line) m ≤ 1
reserved_once {m = m} line sound = omega (arith, once line sound, count_by_le (is_reserved_for line) (concerns line) m (λ w. or_from_right (holds line w) (is_reserved_for line w)))

-- one that counts at a slot, of which there is one at most, counts nowhere else
and_turned : (a b : Bool) → (a && b) ≡ true → (b && a) ≡ true
and_turned true true e = refl
and_turned true false e = absurd cc
and_turned false b e = absurd cc

alone : (p : Way → Bool) (slot : ℕ) (m : List Way) → count_by p m ≤ 1 → 1 ≤ count_by (at slot p) m → count_by (λ w. p w && not (has_slot slot w)) m ≡ 0
alone p slot m once some =
    omega (arith, once, some, count_by_split p (has_slot slot) m, count_by_le (at slot p) (λ w. p w && has_slot slot w) m (λ w. and_turned (has_slot slot w) (p w)))

-- a weaker test, off the slot and at it
both_first : (a b c : Bool) → (b ≡ true → c ≡ true) → (a && b) ≡ true → (a && c) ≡ true
both_first true b c h e = h e
both_first false b c h e = e

weaker_at : (slot : ℕ) (p q : Way → Bool) (m : List Way) → ((w : Way) → p w ≡ true → q w ≡ true) → count_by (at slot p) m ≤ count_by (at slot q) m
weaker_at slot p q m h = count_by_le (at slot p) (at slot q) m (λ w. both_first (has_slot slot w) (p w) (q w) (h w))

off_first : (a b c : Bool) → (a ≡ true → c ≡ true) → (a && b) ≡ true → (c && b) ≡ true
off_first true b c h e = and_from c b (h refl) e
off_first false b c h e = absurd cc

weaker_off : (slot : ℕ) (p q : Way → Bool) (m : List Way) → ((w : Way) → p w ≡ true → q w ≡ true) →
    count_by (λ w. p w && not (has_slot slot w)) m ≤ count_by (λ w. q w && not (has_slot slot w)) m
weaker_off slot p q m h = count_by_le (λ w. p w && not (has_slot slot w)) (λ w. q w && not (has_slot slot w)) m (λ w. off_first (p w) (not (has_slot slot w)) (q w) (h w))

never : (slot : ℕ) (test : Way → Bool) (m : List Way) → ((w : Way) → test w ≡ false) → count_by (at slot test) m ≡ 0
never slot test m h = count_by_never (at slot test) m (λ w. and_right (has_slot slot w) (test w) (h w))

-- a mark of one line is none of another's, and two marks of two lines are apart
itself : (line : ℕ) → names line (Some line) ≡ true
itself line = eq-eqb line line refl

other : (a b : ℕ) → (a ≡ b → ⊥) → names a (Some b) ≡ false
other a b ne = ne_eqb b a (λ e. ne (sym e))

not_other : (a b : ℕ) (mark : Option ℕ) → (a ≡ b → ⊥) → names a mark ≡ true → not (names b mark) ≡ true
not_other a b None ne e = absurd cc
not_other a b (Some marked) ne e = ap not (ne_eqb marked b (λ f. ne (sym (eqb-true marked a e) ∙ f)))

apart_marks : (a b : ℕ) (line reserved : Option ℕ) → (a ≡ b → ⊥) → names a line ≡ true → names b reserved ≡ true → are_apart line reserved ≡ true
apart_marks a b None reserved ne e f = absurd cc
apart_marks a b (Some x) None ne e f = absurd cc
apart_marks a b (Some x) (Some y) ne e f = ap not (ne_eqb x y (λ g. ne (sym (eqb-true x a e) ∙ (g ∙ eqb-true y b f))))

-- where all at a slot are of one kind and none is torn, none there is of another line
or_torn : (a b torn : Bool) → (b ≡ true → torn ≡ true) → a ≡ true → ((a && not b) || torn) ≡ true
or_torn true true torn h e = h refl
or_torn true false torn h e = refl
or_torn false b torn h e = absurd cc

not_at : (slot : ℕ) (p q : Way → Bool) (m : List Way) → ((w : Way) → p w ≡ true → q w ≡ true → is_torn w ≡ true) →
    count_by (at slot (λ w. not (q w))) m ≡ 0 → count_by is_torn m ≡ 0 → count_by (at slot p) m ≡ 0
not_at slot p q m torn all whole =
    let less = count_by_le (at slot p) (λ w. at slot (λ v. not (q v)) w || is_torn w) m (λ w. cover (has_slot slot w) (p w) (q w) (is_torn w) (torn w)) in
    omega (arith, less, all, whole, count_by_either (at slot (λ w. not (q w))) is_torn m)
  where
    cover : (a b c d : Bool) → (b ≡ true → c ≡ true → d ≡ true) → (a && b) ≡ true → ((a && not c) || d) ≡ true
    cover true b true d h e = h e refl
    cover true b false d h e = refl
    cover false b c d h e = absurd cc

-- ---- the choice between a line and the others

with_slot_here : (line l : ℕ) (slot : Option ℕ) (slots : ℕ → Option ℕ) → l ≡ line → with_slot line slot slots l ≡ slot
with_slot_here line l slot slots e = ap (λ b. cond b slot (slots l)) (eq-eqb l line e)

with_slot_other : (line l : ℕ) (slot : Option ℕ) (slots : ℕ → Option ℕ) → (l ≡ line → ⊥) → with_slot line slot slots l ≡ slots l
with_slot_other line l slot slots ne = ap (λ b. cond b slot (slots l)) (ne_eqb l line ne)

chosen : (line l : ℕ) (slot given : Option ℕ) (slots : ℕ → Option ℕ) → (l ≡ line → given ≡ slot) → ((l ≡ line → ⊥) → given ≡ slots l) → given ≡ with_slot line slot slots l
chosen line l slot given slots here others =
    ⊎_elim (λ e. here e ∙ sym (with_slot_here line l slot slots e)) (λ ne. others ne ∙ sym (with_slot_other line l slot slots ne)) (cases_eq l line)

-- ---- touched

slot_in-touched : {sets ways n : ℕ} {m : List Way} (slot line : ℕ) → IsSoundSet sets ways n m → slot_in line (touched_in slot m) ≡ slot_in line m
slot_in-touched {m = m} slot line sound = ap slot_given (find_parted (holds line) (has_slot slot) m (holds_once line sound))

reserved_in-touched : {sets ways n : ℕ} {m : List Way} (slot line : ℕ) → IsSoundSet sets ways n m → reserved_in line (touched_in slot m) ≡ reserved_in line m
reserved_in-touched {m = m} slot line sound = ap slot_given (find_parted (is_reserved_for line) (has_slot slot) m (reserved_once line sound))

-- ---- dropped

slot_in-dropped_at : {sets ways n : ℕ} {m : List Way} (line l : ℕ) (slot : Option ℕ) → IsSoundSet sets ways n m → slot_in line m ≡ slot →
    slot_in l (changed_at slot emptied m) ≡ with_slot line None (λ k. slot_in k m) l
slot_in-dropped_at {m = m} line l None sound is = chosen line l None (slot_in l m) (λ k. slot_in k m) (λ e. ap (λ (k : ℕ). slot_in k m) e ∙ is) (λ _. refl)
slot_in-dropped_at {m = m} line l (Some slot) sound is =
    let (found, others) = holds_there line slot sound is in
    chosen line l None (slot_in l (changed_at (Some slot) emptied m)) (λ k. slot_in k m)
    (λ e.
    ap (λ (k : ℕ). slot_in k (changed_at (Some slot) emptied m)) e
    ∙ (slot-changed (holds line) slot emptied m (λ _. refl) ∙ ap slot_given (find_cleared (holds line) slot emptied m (λ _. refl) (alone (holds line) slot m (holds_once line sound) found))))
    (λ ne.
    let old : count_by (at slot (holds l)) m ≡ 0 = omega (arith, others, weaker_at slot (holds l) (λ w. not (holds line w)) m (λ w. not_other l line w.line ne)) in
    slot-changed (holds l) slot emptied m (λ _. refl) ∙ ap slot_given (find_quiet (holds l) slot emptied m (never slot (λ w. holds l (emptied w)) m (λ _. refl)) old))

reserved_in-dropped_at : (l : ℕ) (slot : Option ℕ) (m : List Way) → reserved_in l (changed_at slot emptied m) ≡ reserved_in l m
reserved_in-dropped_at l None m = refl
reserved_in-dropped_at l (Some slot) m = slot-changed (is_reserved_for l) slot emptied m (λ _. refl) ∙ ap slot_given (find_same (is_reserved_for l) slot m)

-- ---- held

slot_in-held_at : (line l : ℕ) (slot : Option ℕ) (m : List Way) → slot_in l (changed_at slot (held_for line) m) ≡ slot_in l m
slot_in-held_at line l None m = refl
slot_in-held_at line l (Some slot) m = slot-changed (holds l) slot (held_for line) m (λ _. refl) ∙ ap slot_given (find_same (holds l) slot m)

-- the way at a line's slot concerns the line alone
there_alone : {sets ways n : ℕ} {m : List Way} (line slot : ℕ) (p : Way → Bool) → IsSoundSet sets ways n m → ((w : Way) → p w ≡ true → concerns line w ≡ true) → 1 ≤ count_by (at slot p) m →
    (q : Way → Bool) → ((w : Way) → q w ≡ true → concerns line w ≡ true) → count_by (λ w. q w && not (has_slot slot w)) m ≡ 0
there_alone {m = m} line slot p sound includes some q included =
    omega (arith, alone (concerns line) slot m (once line sound) (omega (arith, some, weaker_at slot p (concerns line) m includes)), weaker_off slot q (concerns line) m included)

reserved_in-held_at : {sets ways n : ℕ} {m : List Way} (line l slot : ℕ) → IsSoundSet sets ways n m → slot_in line m ≡ Some slot →
    reserved_in l (changed_at (Some slot) (held_for line) m) ≡ with_slot line (Some slot) (λ k. reserved_in k m) l
reserved_in-held_at {m = m} line l slot sound is =
    let (found, others) = holds_there line slot sound is in
    chosen line l (Some slot) (reserved_in l (changed_at (Some slot) (held_for line) m)) (λ k. reserved_in k m)
    (λ e.
    let off = there_alone line slot (holds line) sound (λ w. or_from_left (holds line w) (is_reserved_for line w)) found (is_reserved_for line) (λ w. or_from_right (holds line w) (is_reserved_for line w)) in
    ap (λ (k : ℕ). reserved_in k (changed_at (Some slot) (held_for line) m)) e
    ∙ (slot-changed (is_reserved_for line) slot (held_for line) m (λ _. refl)
    ∙ find_set (is_reserved_for line) slot (held_for line) m (λ _. itself line) off (omega (arith, found, count_by_both_le (has_slot slot) (holds line) m))))
    (λ ne.
    let old = not_at slot (is_reserved_for l) (holds line) m (λ w e f. apart_marks line l w.line w.reserved (λ g. ne (sym g)) f e) others sound.whole in
    slot-changed (is_reserved_for l) slot (held_for line) m (λ _. refl)
    ∙ ap slot_given (find_quiet (is_reserved_for l) slot (held_for line) m (never slot (λ w. is_reserved_for l (held_for line w)) m (λ _. other l line ne)) old))

-- ---- filled

-- the one way with the slot of the way that is reserved for a line
reserved_there : {sets ways n : ℕ} {m : List Way} (line slot : ℕ) → IsSoundSet sets ways n m → reserved_in line m ≡ Some slot →
    (1 ≤ count_by (at slot (is_reserved_for line)) m) × (count_by (at slot (λ w. not (is_reserved_for line w))) m ≡ 0)
reserved_there {m = m} line slot sound is =
    let found = count_by_found (λ w. w.slot) (is_reserved_for line) m slot is in
    (found, omega (arith, found, count_by_split (has_slot slot) (is_reserved_for line) m, slot_once sound slot))

-- putting the filled way first changes no look-up
filled_first : {sets ways n : ℕ} {m : List Way} (line slot : ℕ) → IsSoundSet sets ways n m → reserved_in line m ≡ Some slot → (p : Way → Bool) (l : ℕ) → ((w : Way) → p w ≡ true → concerns l w ≡ true) →
    slot_given (find p (fill_in slot line m)) ≡ slot_given (find p (changed_at (Some slot) (filled_with line) m))
filled_first {sets} {ways} {n} {m} line slot sound is p l included =
    let new = changed_at (Some slot) (filled_with line) m in
    let less = count_by_le p (concerns l) (touched_in slot new) included in
    let fits : count_by p new ≤ 1 = omega (arith, once l (IsSoundSet-fill sets ways n slot line m is sound), less, count_by-parted (has_slot slot) p new) in
    ap slot_given (find_parted p (has_slot slot) new fits)

slot_in-filled : {sets ways n : ℕ} {m : List Way} (line l slot : ℕ) → IsSoundSet sets ways n m → reserved_in line m ≡ Some slot →
    slot_in l (fill_in slot line m) ≡ with_slot line (Some slot) (λ k. slot_in k m) l
slot_in-filled {m = m} line l slot sound is =
    let (found, others) = reserved_there line slot sound is in
    filled_first line slot sound is (holds l) l (λ w. or_from_left (holds l w) (is_reserved_for l w))
    ∙ chosen line l (Some slot) (slot_in l (changed_at (Some slot) (filled_with line) m)) (λ k. slot_in k m)
    (λ e.
    let off = there_alone line slot (is_reserved_for line) sound (λ w. or_from_right (holds line w) (is_reserved_for line w)) found (holds line) (λ w. or_from_left (holds line w) (is_reserved_for line w)) in
    ap (λ (k : ℕ). slot_in k (changed_at (Some slot) (filled_with line) m)) e
    ∙ (slot-changed (holds line) slot (filled_with line) m (λ _. refl)
    ∙ find_set (holds line) slot (filled_with line) m (λ _. itself line) off (omega (arith, found, count_by_both_le (has_slot slot) (is_reserved_for line) m))))
    (λ ne.
    let old = not_at slot (holds l) (is_reserved_for line) m (λ w e f. apart_marks l line w.line w.reserved ne e f) others sound.whole in
    slot-changed (holds l) slot (filled_with line) m (λ _. refl)
    ∙ ap slot_given (find_quiet (holds l) slot (filled_with line) m (never slot (λ w. holds l (filled_with line w)) m (λ _. other l line ne)) old))

reserved_in-filled : {sets ways n : ℕ} {m : List Way} (line l slot : ℕ) → IsSoundSet sets ways n m → reserved_in line m ≡ Some slot →
    reserved_in l (fill_in slot line m) ≡ with_slot line None (λ k. reserved_in k m) l
reserved_in-filled {m = m} line l slot sound is =
    let (found, others) = reserved_there line slot sound is in
    filled_first line slot sound is (is_reserved_for l) l (λ w. or_from_right (holds l w) (is_reserved_for l w))
    ∙ chosen line l None (reserved_in l (changed_at (Some slot) (filled_with line) m)) (λ k. reserved_in k m)
    (λ e.
    ap (λ (k : ℕ). reserved_in k (changed_at (Some slot) (filled_with line) m)) e
    ∙ (slot-changed (is_reserved_for line) slot (filled_with line) m (λ _. refl)
    ∙ ap slot_given (find_cleared (is_reserved_for line) slot (filled_with line) m (λ _. refl) (alone (is_reserved_for line) slot m (reserved_once line sound) found))))
    (λ ne.
    let old : count_by (at slot (is_reserved_for l)) m ≡ 0 = omega (arith, others, weaker_at slot (is_reserved_for l) (λ w. not (is_reserved_for line w)) m (λ w. not_other l line w.reserved ne)) in
    slot-changed (is_reserved_for l) slot (filled_with line) m (λ _. refl)
    ∙ ap slot_given (find_quiet (is_reserved_for l) slot (filled_with line) m (never slot (λ w. is_reserved_for l (filled_with line w)) m (λ _. refl)) old))

-- ---- reserved

-- the room of a set is one of its ways, and not reserved
room_cases : (m : List Way) (w : Way) → room_in m ≡ Some w → (find is_free m ≡ Some w) ⊎ (find is_unreserved (reverse m) ≡ Some w)
room_cases m w e = first_or_last (find is_free m) (find is_unreserved (reverse m)) w e
  where
    first_or_last : (a b : Option Way) (w : Way) → option_or a b ≡ Some w → (a ≡ Some w) ⊎ (b ≡ Some w)
    first_or_last None b w e = inr e
    first_or_last (Some v) b w e = inl e

room_counts : (m : List Way) (w : Way) (p : Way → Bool) → room_in m ≡ Some w → p w ≡ true → 1 ≤ count_by (at w.slot p) m
room_counts m w p is passes =
    ⊎_elim (λ free. found_counts is_free p m w free passes)
    (λ last. omega (arith, found_counts is_unreserved p (reverse m) w last passes, count_by-reverse_aux (at w.slot p) m []))
    (room_cases m w is)

room_unreserved : (m : List Way) (w : Way) → room_in m ≡ Some w → is_unreserved w ≡ true
room_unreserved m w is =
    ⊎_elim (λ free. (and_parts (is_none w.line) (is_none w.reserved) (found_passes is_free m w free)).1) (λ last. found_passes is_unreserved (reverse m) w last) (room_cases m w is)

-- what the room is not, no way with its slot is
room_not : {sets ways n : ℕ} {m : List Way} (w : Way) (p : Way → Bool) → IsSoundSet sets ways n m → room_in m ≡ Some w → p w ≡ false → count_by (at w.slot p) m ≡ 0
room_not {m = m} w p sound is fails =
    omega (arith, room_counts m w (λ v. not (p v)) is (ap not fails), count_by_split (has_slot w.slot) p m, slot_once sound w.slot)

slot_in-reserved_at : {sets ways n : ℕ} {m : List Way} (line l : ℕ) (room : Option Way) → IsSoundSet sets ways n m → room_in m ≡ room →
    slot_in l (changed_at (slot_given room) (reserved_for line) m) ≡ without_victim room (λ k. slot_in k m) l
slot_in-reserved_at line l None sound is = refl
slot_in-reserved_at {m = m} line l (Some w) sound is =
    ⊎_elim
    (λ (e : holds l w ≡ true).
    slot-changed (holds l) w.slot (reserved_for line) m (λ _. refl)
    ∙ (ap slot_given (find_cleared (holds l) w.slot (reserved_for line) m (λ _. refl) (alone (holds l) w.slot m (holds_once l sound) (room_counts m w (holds l) is e)))
    ∙ sym (ap (λ b. cond b None (slot_in l m)) e)))
    (λ (e : holds l w ≡ false).
    slot-changed (holds l) w.slot (reserved_for line) m (λ _. refl)
    ∙ (ap slot_given (find_quiet (holds l) w.slot (reserved_for line) m (never w.slot (λ v. holds l (reserved_for line v)) m (λ _. refl)) (room_not w (holds l) sound is e))
    ∙ sym (ap (λ b. cond b None (slot_in l m)) e)))
    (cases_Bool (holds l w))

bare_names : (line : ℕ) (mark : Option ℕ) → is_none mark ≡ true → names line mark ≡ false
bare_names line None e = refl
bare_names line (Some marked) e = absurd cc

reserved_in-reserved_at : {sets ways n : ℕ} {m : List Way} (line l : ℕ) (room : Option Way) → IsSoundSet sets ways n m → room_in m ≡ room → reserved_in line m ≡ None →
    reserved_in l (changed_at (slot_given room) (reserved_for line) m) ≡ with_slot line (slot_given room) (λ k. reserved_in k m) l
reserved_in-reserved_at {m = m} line l None sound is unreserved = chosen line l None (reserved_in l m) (λ k. reserved_in k m) (λ e. ap (λ (k : ℕ). reserved_in k m) e ∙ unreserved) (λ _. refl)
reserved_in-reserved_at {m = m} line l (Some w) sound is unreserved =
    let none = count_by_none (is_reserved_for line) m (none_from_option_map (λ v. v.slot) (find (is_reserved_for line) m) unreserved) in
    chosen line l (Some w.slot) (reserved_in l (changed_at (Some w.slot) (reserved_for line) m)) (λ k. reserved_in k m)
    (λ e.
    let some : 1 ≤ count_by (has_slot w.slot) m = omega (arith, room_counts m w (λ _. true) is refl, count_by_both_le (has_slot w.slot) (λ _. true) m) in
    let off : count_by (λ v. is_reserved_for line v && not (has_slot w.slot v)) m ≡ 0 = omega (arith, none, count_by_both_le (is_reserved_for line) (λ v. not (has_slot w.slot v)) m) in
    ap (λ (k : ℕ). reserved_in k (changed_at (Some w.slot) (reserved_for line) m)) e
    ∙ (slot-changed (is_reserved_for line) w.slot (reserved_for line) m (λ _. refl) ∙ find_set (is_reserved_for line) w.slot (reserved_for line) m (λ _. itself line) off some))
    (λ ne.
    let old = room_not w (is_reserved_for l) sound is (bare_names l w.reserved (room_unreserved m w is)) in
    slot-changed (is_reserved_for l) w.slot (reserved_for line) m (λ _. refl)
    ∙ ap slot_given (find_quiet (is_reserved_for l) w.slot (reserved_for line) m (never w.slot (λ v. is_reserved_for l (reserved_for line v)) m (λ _. other l line ne)) old))

-- ---- the whole cache

set_of-in_set_here : (n l : ℕ) (change : List Way → List Way) (cache : CacheView) → n < length cache.sets → home_of l cache ≡ n → set_of l (in_set n change cache) ≡ change (set_at n cache)
set_of-in_set_here n l change cache h is =
    let new = change (set_at n cache) in
    let same = ap (λ (k : ℕ). l % k) (length-set cache.sets n new) in
    ap (λ (k : ℕ). get_or (set cache.sets n new) k []) (same ∙ is) ∙ get_or-set_same cache.sets n new [] h

set_of-in_set_other : (n l : ℕ) (change : List Way → List Way) (cache : CacheView) → (home_of l cache ≡ n → ⊥) → set_of l (in_set n change cache) ≡ set_of l cache
set_of-in_set_other n l change cache ne =
    let new = change (set_at n cache) in
    let same = ap (λ (k : ℕ). l % k) (length-set cache.sets n new) in
    ap (λ (k : ℕ). get_or (set cache.sets n new) k []) same ∙ get_or-set_other cache.sets n (home_of l cache) new [] ne

looks_up : (n : ℕ) (change : List Way → List Way) (cache : CacheView) (slots reserved : ℕ → Option ℕ) → n < length cache.sets →
    ((l : ℕ) → home_of l cache ≡ n → slot_in l (change (set_at n cache)) ≡ slots l) → ((l : ℕ) → (home_of l cache ≡ n → ⊥) → slot_of l cache ≡ slots l) →
    ((l : ℕ) → home_of l cache ≡ n → reserved_in l (change (set_at n cache)) ≡ reserved l) → ((l : ℕ) → (home_of l cache ≡ n → ⊥) → reserved_slot l cache ≡ reserved l) →
    LooksUp (in_set n change cache) slots reserved
looks_up n change cache slots reserved h slot_here slot_other reserved_here reserved_other = record {
  slot = λ l.
      ⊎_elim (λ e. ap (slot_in l) (set_of-in_set_here n l change cache h e) ∙ slot_here l e) (λ ne. ap (slot_in l) (set_of-in_set_other n l change cache ne) ∙ slot_other l ne)
      (cases_eq (home_of l cache) n);
  reserved = λ l.
      ⊎_elim (λ e. ap (reserved_in l) (set_of-in_set_here n l change cache h e) ∙ reserved_here l e) (λ ne. ap (reserved_in l) (set_of-in_set_other n l change cache ne) ∙ reserved_other l ne)
      (cases_eq (home_of l cache) n);
}

-- a line of the set is looked up there
there_slot : (n l : ℕ) (cache : CacheView) → home_of l cache ≡ n → slot_in l (set_at n cache) ≡ slot_of l cache
there_slot n l cache e = ap (λ (k : ℕ). slot_in l (set_at k cache)) (sym e)

there_reserved : (n l : ℕ) (cache : CacheView) → home_of l cache ≡ n → reserved_in l (set_at n cache) ≡ reserved_slot l cache
there_reserved n l cache e = ap (λ (k : ℕ). reserved_in l (set_at k cache)) (sym e)

-- one line's slot is exchanged, in its set and in the cache
moved_slot : (line l : ℕ) (slot : Option ℕ) (old new : ℕ → Option ℕ) → old l ≡ new l → with_slot line slot old l ≡ with_slot line slot new l
moved_slot line l slot old new e = ap (λ (o : Option ℕ). cond (l == line) slot o) e

other_home : (line l : ℕ) (cache : CacheView) → (home_of l cache ≡ home_of line cache → ⊥) → l ≡ line → ⊥
other_home line l cache ne e = ne (ap (λ (k : ℕ). home_of k cache) e)

pub LooksUp-touched : (slot : ℕ) (cache : CacheView) → slot / cache.ways < length cache.sets → IsSound cache → LooksUpAsBefore cache (touched slot cache)
LooksUp-touched slot cache h sound =
    let n = slot / cache.ways in
    looks_up n (touched_in slot) cache (λ l. slot_of l cache) (λ l. reserved_slot l cache) h
    (λ l e. slot_in-touched slot l (sound.each n h) ∙ there_slot n l cache e) (λ _ _. refl)
    (λ l e. reserved_in-touched slot l (sound.each n h) ∙ there_reserved n l cache e) (λ _ _. refl)

home_inside : (line : ℕ) (cache : CacheView) → IsSound cache → home_of line cache < length cache.sets
home_inside line cache sound = let some = sound.some in omega arith

pub LooksUp-dropped : (line : ℕ) (cache : CacheView) → IsSound cache → LooksUpDropped line cache (dropped line cache)
LooksUp-dropped line cache sound =
    let n = home_of line cache in
    let h = home_inside line cache sound in
    looks_up n (drop_in line) cache (with_slot line None (λ l. slot_of l cache)) (λ l. reserved_slot l cache) h
    (λ l e. slot_in-dropped_at line l (slot_of line cache) (sound.each n h) refl ∙ moved_slot line l None (λ k. slot_in k (set_at n cache)) (λ k. slot_of k cache) (there_slot n l cache e))
    (λ l ne. sym (with_slot_other line l None (λ k. slot_of k cache) (other_home line l cache ne)))
    (λ l e. reserved_in-dropped_at l (slot_of line cache) (set_at n cache) ∙ there_reserved n l cache e) (λ _ _. refl)

pub LooksUp-with_held : (line slot : ℕ) (cache : CacheView) → slot_of line cache ≡ Some slot → IsSound cache → LooksUpHeld line cache (with_held line cache)
LooksUp-with_held line slot cache is sound =
    let n = home_of line cache in
    let h = home_inside line cache sound in
    looks_up n (hold_in line) cache (λ l. slot_of l cache) (with_slot line (slot_of line cache) (λ l. reserved_slot l cache)) h
    (λ l e. slot_in-held_at line l (slot_of line cache) (set_at n cache) ∙ there_slot n l cache e) (λ _ _. refl)
    (λ l e.
    ap (λ (o : Option ℕ). reserved_in l (changed_at o (held_for line) (set_at n cache))) is
    ∙ (reserved_in-held_at line l slot (sound.each n h) is
    ∙ (moved_slot line l (Some slot) (λ k. reserved_in k (set_at n cache)) (λ k. reserved_slot k cache) (there_reserved n l cache e)
    ∙ ap (λ (o : Option ℕ). with_slot line o (λ k. reserved_slot k cache) l) (sym is))))
    (λ l ne. sym (with_slot_other line l (slot_of line cache) (λ k. reserved_slot k cache) (other_home line l cache ne)))

pub LooksUp-filled : (slot line : ℕ) (cache : CacheView) → reserved_slot line cache ≡ Some slot → IsSound cache → LooksUpFilled slot line cache (filled slot line cache)
LooksUp-filled slot line cache is sound =
    let n = home_of line cache in
    let h = home_inside line cache sound in
    looks_up n (fill_in slot line) cache (with_slot line (Some slot) (λ l. slot_of l cache)) (with_slot line None (λ l. reserved_slot l cache)) h
    (λ l e. slot_in-filled line l slot (sound.each n h) is ∙ moved_slot line l (Some slot) (λ k. slot_in k (set_at n cache)) (λ k. slot_of k cache) (there_slot n l cache e))
    (λ l ne. sym (with_slot_other line l (Some slot) (λ k. slot_of k cache) (other_home line l cache ne)))
    (λ l e. reserved_in-filled line l slot (sound.each n h) is ∙ moved_slot line l None (λ k. reserved_in k (set_at n cache)) (λ k. reserved_slot k cache) (there_reserved n l cache e))
    (λ l ne. sym (with_slot_other line l None (λ k. reserved_slot k cache) (other_home line l cache ne)))

-- a victim is a line of the set
victim_home : (line l : ℕ) (cache : CacheView) (room : Option Way) → IsSound cache → room_for line cache ≡ room → (home_of l cache ≡ home_of line cache → ⊥) → is_victim l room ≡ false
victim_home line l cache None sound is ne = refl
victim_home line l cache (Some w) sound is ne =
    let n = home_of line cache in
    let set' = sound.each n (home_inside line cache sound) in
    ⊎_elim
    (λ (e : holds l w ≡ true).
    let some = room_counts (set_at n cache) w (holds l) is e in
    let stranger : one_if (l % length cache.sets == n) ≡ 0 = ap one_if (ne_eqb (l % length cache.sets) n ne) in
    absurd (omega (arith, some, count_by_le (at w.slot (holds l)) (holds l) (set_at n cache) (λ v f. (and_parts (has_slot w.slot v) (holds l v) f).1), count_by_le (holds l) (concerns l) (set_at n cache) (λ v. or_from_left (holds l v) (is_reserved_for l v)), set'.own l, stranger)))
    (λ e. e)
    (cases_Bool (holds l w))

pub LooksUp-with_reserved : (line : ℕ) (cache : CacheView) → reserved_slot line cache ≡ None → IsSound cache → LooksUpReserved line cache (with_reserved line cache)
LooksUp-with_reserved line cache unreserved sound =
    let n = home_of line cache in
    let h = home_inside line cache sound in
    let room = room_for line cache in
    looks_up n (reserve_in line) cache (without_victim room (λ l. slot_of l cache)) (with_slot line (slot_given room) (λ l. reserved_slot l cache)) h
    (λ l e. slot_in-reserved_at line l room (sound.each n h) refl ∙ ap (λ (o : Option ℕ). cond (is_victim l room) None o) (there_slot n l cache e))
    (λ l ne. sym (ap (λ b. cond b None (slot_of l cache)) (victim_home line l cache room sound refl ne)))
    (λ l e.
    reserved_in-reserved_at line l room (sound.each n h) refl unreserved
    ∙ moved_slot line l (slot_given room) (λ k. reserved_in k (set_at n cache)) (λ k. reserved_slot k cache) (there_reserved n l cache e))
    (λ l ne. sym (with_slot_other line l (slot_given room) (λ k. reserved_slot k cache) (other_home line l cache ne)))

-- ---- lines apart

found_slot_there : (p : Way → Bool) (line slot : ℕ) (cache : CacheView) → IsSound cache → option_map (λ w. w.slot) (find p (set_of line cache)) ≡ Some slot → is_slot_of cache.ways (home_of line cache) slot ≡ true
found_slot_there p line slot cache sound is = found_is_there p slot (sound.each (home_of line cache) (home_inside line cache sound)) is

-- ways with one slot are of one set
same_home : (p q : Way → Bool) (line other slot : ℕ) (cache : CacheView) → IsSound cache →
    option_map (λ w. w.slot) (find p (set_of line cache)) ≡ Some slot → option_map (λ w. w.slot) (find q (set_of other cache)) ≡ Some slot → home_of other cache ≡ home_of line cache
same_home p q line other slot cache sound is is' =
    ⊎_elim (λ e. e)
    (λ ne. let same : (slot == slot) ≡ true = eq-eqb slot slot refl in
    let differ = slots_differ cache.ways (home_of other cache) (home_of line cache) slot slot ne (found_slot_there q other slot cache sound is') (found_slot_there p line slot cache sound is) in
    absurd cc)
    (cases_eq (home_of other cache) (home_of line cache))

pub IsApart-sound : (cache : CacheView) → IsSound cache → IsApart cache
IsApart-sound cache sound = record {
  held = λ line other slot is is'.
      let home = same_home (holds line) (holds other) line other slot cache sound is is' in
      let n = home_of line cache in
      let m = set_at n cache in
      let found = count_by_found (λ w. w.slot) (holds line) m slot is in
      let found' = count_by_found (λ w. w.slot) (holds other) m slot (there_slot n other cache home ∙ is') in
      ⊎_elim (λ e. e)
      (λ ne.
      let less = weaker_at slot (holds line) (λ w. not (holds other w)) m (λ w. not_other line other w.line ne) in
      absurd (omega (arith, found, found', less, count_by_split (has_slot slot) (holds other) m, slot_once (sound.each n (home_inside line cache sound)) slot)))
      (cases_eq line other);
  reserved = λ line other slot is is'.
      let home = same_home (holds line) (is_reserved_for other) line other slot cache sound is is' in
      let n = home_of line cache in
      let m = set_at n cache in
      let found = count_by_found (λ w. w.slot) (holds line) m slot is in
      let sound' = sound.each n (home_inside line cache sound) in
      let (_, others) = reserved_there other slot sound' (there_reserved n other cache home ∙ is') in
      ⊎_elim (λ e. e)
      (λ ne. absurd (omega (arith, found, not_at slot (holds line) (is_reserved_for other) m (λ w e f. apart_marks line other w.line w.reserved ne e f) others sound'.whole)))
      (cases_eq line other);
  within = λ line slot is.
      slot_within (length cache.sets) cache.ways (home_of line cache) slot (home_inside line cache sound) (found_slot_there (holds line) line slot cache sound is);
  reserved_within = λ line slot is.
      slot_within (length cache.sets) cache.ways (home_of line cache) slot (home_inside line cache sound) (found_slot_there (is_reserved_for line) line slot cache sound is);
}
