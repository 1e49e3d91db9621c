-- Every change of a cache keeps what is true of every cache.
use Rattle.std.proofs.Common.{◌≡◌, ℕ, ◌+◌, ◌%◌, ◌<◌, ◌≤◌, ◌==◌, Bool, true, false, not, ◌&&◌, ◌||◌, cond, List, [], length, get_or, set, filter, find, count_by, Option, Some, None, option_map, arith, refl, sym, ap, ◌∙◌, subst, ⊎_elim, length-append}
use Rattle.std.proofs.lemmas.Bool.{cases_eq, and_right, eq-eqb, ne_eqb}
use Rattle.std.proofs.lemmas.List.{length-map, length-set, get_or-set_same, get_or-set_other}
use Rattle.std.proofs.lemmas.List.Filters.{length-filter_both}
use Rattle.cache_sets.specs.Ways.{Way, names, has_slot, holds, is_reserved_for, reserved_for, held_for, filled_with, emptied, slot_in, reserved_in, room_in, changed_at, touched_in, reserve_in, hold_in, fill_in, drop_in}
use Rattle.cache_sets.specs.Caches.{CacheView, home_of, set_at, set_of, slot_of, reserved_slot, in_set, with_reserved, with_held, filled, dropped}
use Rattle.cache_sets.specs.Sound.{IsSound, IsSoundSet, concerns, are_apart, is_torn, is_slot_of}
use Rattle.cache_sets.proofs.Counts.{one_if, cond_le_one, count_by_le, count_by_agree, count_by_never, count_by_both_le, count_by_split, count_by_either, count_by-changed, count_by-parted, count_by_none, count_by_found}

-- ---- one set

-- the ways of a set that have this slot and pass a test
abbrev at : ℕ → (Way → Bool) → Way → Bool
at slot test way = has_slot slot way && test way

-- no slot stands twice
pub slot_once : {sets ways n : ℕ} {members : List Way} → IsSoundSet sets ways n members → (slot : ℕ) → count_by (has_slot slot) members ≤ 1
slot_once {sets} {ways} {n} sound slot = omega (arith, sound.slots slot, cond_le_one (is_slot_of ways n slot))

IsSoundSet-touched : {sets ways n : ℕ} (slot : ℕ) (members : List Way) → IsSoundSet sets ways n members → IsSoundSet sets ways n (touched_in slot members)
IsSoundSet-touched slot members sound =
    let same = count_by-parted (has_slot slot) in
    record {
      count =
          length-append (filter (has_slot slot) members) (filter (λ way. not (has_slot slot way)) members)
          ∙ (length-filter_both (has_slot slot) (λ way. not (has_slot slot way)) (λ _. refl) members ∙ sound.count);
      slots = λ k. same (has_slot k) members ∙ sound.slots k;
      own = λ line. omega (arith, same (concerns line) members, sound.own line);
      whole = same is_torn members ∙ sound.whole;
    }

-- A change of one way that keeps its slot: what it adds for a line may be no more than what it takes or is free.
IsSoundSet-changed : {sets ways n : ℕ} (slot : ℕ) (change : Way → Way) (members : List Way) →
    ((way : Way) → (change way).slot ≡ way.slot) →
    ((line : ℕ) → count_by (concerns line) members + count_by (at slot (λ way. concerns line (change way))) members
    ≤ one_if (line % sets == n) + count_by (at slot (concerns line)) members) →
    count_by (at slot (λ way. is_torn (change way))) members ≡ 0 →
    IsSoundSet sets ways n members → IsSoundSet sets ways n (changed_at (Some slot) change members)
IsSoundSet-changed slot change members kept own whole sound =
    let moved = λ (p : Way → Bool). count_by-changed p (has_slot slot) change members in
    record {
      count = length-map members (λ way. cond (has_slot slot way) (change way) way) ∙ sound.count;
      slots = λ k.
          let same = count_by_agree (at slot (λ way. has_slot k (change way))) (at slot (has_slot k)) members (λ way. ap (λ s. has_slot slot way && (s == k)) (kept way)) in
          omega (arith, moved (has_slot k), same, sound.slots k);
      own = λ line. omega (arith, moved (concerns line), own line);
      whole = omega (arith, moved is_torn, whole, sound.whole);
    }

-- what no way is after a change
never : (slot : ℕ) (test : Way → Bool) (members : List Way) → ((way : Way) → test way ≡ false) → count_by (at slot test) members ≡ 0
never slot test members h = count_by_never (at slot test) members (λ way. and_right (has_slot slot way) (test way) (h way))

-- a test of the ways with a slot, and a weaker one
weaker : (slot : ℕ) (p q : Way → Bool) (members : List Way) → ((way : Way) → p way ≡ true → q way ≡ true) → count_by (at slot p) members ≤ count_by (at slot q) members
weaker slot p q members h = count_by_le (at slot p) (at slot q) members (λ way. both (has_slot slot way) (p way) (q way) (h way))
  where
    both : (a b c : Bool) → (b ≡ true → c ≡ true) → (a && b) ≡ true → (a && c) ≡ true
    both true b c h e = h e
    both false b c h e = e

-- the line is in its own set
at_home : (sets n line : ℕ) → line % sets ≡ n → one_if (line % sets == n) ≡ 1
at_home sets n line e = ap one_if (eq-eqb (line % sets) n e)

pub none_from_option_map : {X Y : Type 0} (f : X → Y) (o : Option X) → option_map f o ≡ None → o ≡ None
none_from_option_map f None e = refl
none_from_option_map f (Some x) e = absurd cc

-- no way holds the line or is reserved for it
concerns_none : (line : ℕ) (members : List Way) → slot_in line members ≡ None → reserved_in line members ≡ None → count_by (concerns line) members ≡ 0
concerns_none line members absent unreserved =
    let held = count_by_none (holds line) members (none_from_option_map (λ way. way.slot) (find (holds line) members) absent) in
    let kept = count_by_none (is_reserved_for line) members (none_from_option_map (λ way. way.slot) (find (is_reserved_for line) members) unreserved) in
    omega (arith, held, kept, count_by_either (holds line) (is_reserved_for line) members)

other : (a b : ℕ) → (a ≡ b → ⊥) → names a (Some b) ≡ false
other a b ne = ne_eqb b a (λ e. ne (sym e))

-- what a change adds for a line, at each line: the one that it is made for, and any other
abbrev BoundAt : (sets n slot : ℕ) (change : Way → Way) (members : List Way) → ℕ → Type 0
BoundAt sets n slot change members line =
    count_by (concerns line) members + count_by (at slot (λ way. concerns line (change way))) members
    ≤ one_if (line % sets == n) + count_by (at slot (concerns line)) members

at_each : (sets n slot : ℕ) (change : Way → Way) (members : List Way) (line : ℕ) →
    BoundAt sets n slot change members line → ((l : ℕ) → (l ≡ line → ⊥) → BoundAt sets n slot change members l) → (l : ℕ) → BoundAt sets n slot change members l
at_each sets n slot change members line here others l =
    ⊎_elim (λ e. let B : ℕ → Type 0 = BoundAt sets n slot change members in subst B (sym e) here) (others l) (cases_eq l line)

reserve_at : (sets ways n line : ℕ) (slot : Option ℕ) (members : List Way) →
    count_by (concerns line) members ≡ 0 → line % sets ≡ n → IsSoundSet sets ways n members → IsSoundSet sets ways n (changed_at slot (reserved_for line) members)
reserve_at sets ways n line None members absent home sound = sound
reserve_at sets ways n line (Some slot) members absent home sound =
    IsSoundSet-changed slot (reserved_for line) members (λ _. refl)
    (at_each sets n slot (reserved_for line) members line
    (omega (arith, absent, at_home sets n line home, slot_once sound slot, count_by_both_le (has_slot slot) (λ way. concerns line (reserved_for line way)) members))
    (λ l ne. omega (arith, sound.own l, never slot (λ way. concerns l (reserved_for line way)) members (λ _. other l line ne))))
    (never slot (λ way. is_torn (reserved_for line way)) members (λ _. refl))
    sound

IsSoundSet-reserve : (sets ways n line : ℕ) (members : List Way) →
    slot_in line members ≡ None → reserved_in line members ≡ None → line % sets ≡ n → IsSoundSet sets ways n members → IsSoundSet sets ways n (reserve_in line members)
IsSoundSet-reserve sets ways n line members absent unreserved home sound =
    reserve_at sets ways n line (option_map (λ way. way.slot) (room_in members)) members (concerns_none line members absent unreserved) home sound

-- the one way with the slot of a line's way holds the line
pub holds_there : {sets ways n : ℕ} {members : List Way} (line slot : ℕ) → IsSoundSet sets ways n members → slot_in line members ≡ Some slot →
    (1 ≤ count_by (at slot (holds line)) members) × (count_by (at slot (λ way. not (holds line way))) members ≡ 0)
holds_there {members = members} line slot sound is =
    let found = count_by_found (λ way. way.slot) (holds line) members slot is in
    let others = count_by_split (has_slot slot) (holds line) members in
    (found, omega (arith, found, others, slot_once sound slot))

pub or_from_left : (a b : Bool) → a ≡ true → (a || b) ≡ true
or_from_left true b e = refl
or_from_left false b e = absurd cc

pub or_from_right : (a b : Bool) → b ≡ true → (a || b) ≡ true
or_from_right true b e = refl
or_from_right false b e = e

or_without : (a b : Bool) → b ≡ false → (a || b) ≡ true → a ≡ true
or_without true b none e = refl
or_without false b none e = absurd cc

apart_from : (line : ℕ) (mark : Option ℕ) → are_apart mark (Some line) ≡ true → not (names line mark) ≡ true
apart_from line None e = absurd cc
apart_from line (Some marked) e = e

hold_at : (sets ways n line : ℕ) (slot : Option ℕ) (members : List Way) →
    slot_in line members ≡ slot → IsSoundSet sets ways n members → IsSoundSet sets ways n (changed_at slot (held_for line) members)
hold_at sets ways n line None members is sound = sound
hold_at sets ways n line (Some slot) members is sound =
    let (found, others) = holds_there line slot sound is in
    let there = weaker slot (holds line) (concerns line) members (λ way. or_from_left (holds line way) (is_reserved_for line way)) in
    IsSoundSet-changed slot (held_for line) members (λ _. refl)
    (at_each sets n slot (held_for line) members line
    (omega (arith, found, there, sound.own line, slot_once sound slot, count_by_both_le (has_slot slot) (λ way. concerns line (held_for line way)) members))
    (λ l ne.
    let less = weaker slot (λ way. concerns l (held_for line way)) (concerns l) members
    (λ way e. or_from_left (holds l way) (is_reserved_for l way) (or_without (holds l way) (names l (Some line)) (other l line ne) e)) in
    omega (arith, sound.own l, less)))
    (omega (arith, others, weaker slot (λ way. is_torn (held_for line way)) (λ way. not (holds line way)) members (λ way. apart_from line way.line)))
    sound

IsSoundSet-hold : (sets ways n line : ℕ) (members : List Way) → IsSoundSet sets ways n members → IsSoundSet sets ways n (hold_in line members)
IsSoundSet-hold sets ways n line members sound = hold_at sets ways n line (slot_in line members) members refl sound

pub IsSoundSet-fill : (sets ways n slot line : ℕ) (members : List Way) →
    reserved_in line members ≡ Some slot → IsSoundSet sets ways n members → IsSoundSet sets ways n (fill_in slot line members)
IsSoundSet-fill sets ways n slot line members is sound =
    let found = count_by_found (λ way. way.slot) (is_reserved_for line) members slot is in
    let there = weaker slot (is_reserved_for line) (concerns line) members (λ way. or_from_right (holds line way) (is_reserved_for line way)) in
    IsSoundSet-touched slot (changed_at (Some slot) (filled_with line) members)
    (IsSoundSet-changed slot (filled_with line) members (λ _. refl)
    (at_each sets n slot (filled_with line) members line
    (omega (arith, found, there, sound.own line, slot_once sound slot, count_by_both_le (has_slot slot) (λ way. concerns line (filled_with line way)) members))
    (λ l ne. omega (arith, sound.own l, never slot (λ way. concerns l (filled_with line way)) members (λ _. ap (λ b. b || false) (other l line ne)))))
    (never slot (λ way. is_torn (filled_with line way)) members (λ _. refl))
    sound)

drop_at : (sets ways n : ℕ) (slot : Option ℕ) (members : List Way) → IsSoundSet sets ways n members → IsSoundSet sets ways n (changed_at slot emptied members)
drop_at sets ways n None members sound = sound
drop_at sets ways n (Some slot) members sound =
    IsSoundSet-changed slot emptied members (λ _. refl)
    (λ l. omega (arith, sound.own l, weaker slot (λ way. concerns l (emptied way)) (concerns l) members (λ way. or_from_right (holds l way) (is_reserved_for l way))))
    (never slot (λ way. is_torn (emptied way)) members (λ _. refl))
    sound

-- ---- the whole cache

IsSound-in_set : (n : ℕ) (change : List Way → List Way) (cache : CacheView) →
    (n < length cache.sets → IsSoundSet (length cache.sets) cache.ways n (set_at n cache) → IsSoundSet (length cache.sets) cache.ways n (change (set_at n cache))) →
    IsSound cache → IsSound (in_set n change cache)
IsSound-in_set n change cache kept sound =
    let new = change (set_at n cache) in
    let same : length (set cache.sets n new) ≡ length cache.sets = length-set cache.sets n new in
    let Sound : ℕ → ℕ → List Way → Type 0 = λ sets k members. IsSoundSet sets cache.ways k members in
    record {
      some = omega (arith, same, sound.some);
      each = λ k within.
          let inside : k < length cache.sets = omega (arith, same) in
          let there : Sound (length cache.sets) k (get_or (set cache.sets n new) k []) =
          ⊎_elim
          (λ e.
          let here : n < length cache.sets = omega (arith, e, inside) in
          subst (λ (j : ℕ). Sound (length cache.sets) j (get_or (set cache.sets n new) j [])) (sym e)
          (rw (get_or-set_same cache.sets n new [] here) (kept here (sound.each n here))))
          (λ ne. rw (get_or-set_other cache.sets n k new [] ne) (sound.each k inside))
          (cases_eq k n) in
          rw same there;
    }

pub IsSound-with_reserved : (line : ℕ) (cache : CacheView) → slot_of line cache ≡ None → reserved_slot line cache ≡ None → IsSound cache → IsSound (with_reserved line cache)
IsSound-with_reserved line cache absent unreserved sound =
    IsSound-in_set (home_of line cache) (reserve_in line) cache
    (λ _ s. IsSoundSet-reserve (length cache.sets) cache.ways (home_of line cache) line (set_of line cache) absent unreserved refl s) sound

pub IsSound-with_held : (line : ℕ) (cache : CacheView) → IsSound cache → IsSound (with_held line cache)
IsSound-with_held line cache sound =
    IsSound-in_set (home_of line cache) (hold_in line) cache (λ _ s. IsSoundSet-hold (length cache.sets) cache.ways (home_of line cache) line (set_of line cache) s) sound

pub IsSound-filled : (slot line : ℕ) (cache : CacheView) → reserved_slot line cache ≡ Some slot → IsSound cache → IsSound (filled slot line cache)
IsSound-filled slot line cache is sound =
    IsSound-in_set (home_of line cache) (fill_in slot line) cache
    (λ _ s. IsSoundSet-fill (length cache.sets) cache.ways (home_of line cache) slot line (set_of line cache) is s) sound

pub IsSound-dropped : (line : ℕ) (cache : CacheView) → IsSound cache → IsSound (dropped line cache)
IsSound-dropped line cache sound =
    IsSound-in_set (home_of line cache) (drop_in line) cache
    (λ _ s. drop_at (length cache.sets) cache.ways (home_of line cache) (slot_in line (set_of line cache)) (set_of line cache) s) sound
