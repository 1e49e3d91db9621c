-- Every call keeps what is true of levels.
use Rattle.std.proofs.Common.{◌≡◌, ℕ, ◌*◌, ◌/◌, false, cond, List, length, set, Option, Some, None, option_map, IsTrue, is_some, ◌⊎◌, refl, sym, ap, ◌∙◌, subst, ⊎_elim}
use Rattle.std.specs.Option.{option_map_or}
use Rattle.std.proofs.lemmas.Bool.{cases_eq, eq-eqb, ne_eqb}
use Rattle.std.proofs.lemmas.List.{length-set}
use Rattle.std.proofs.lemmas.List.Elements.{All-set}
use Rattle.rsim_base.specs.Limits.{line_room}
use Rattle.rsim_base.specs.declared.memory.Line.{Line}
use Rattle.cache_sets.specs.Ways.{Way, names, touched_in, fill_in, reserve_in}
use Rattle.cache_sets.specs.Caches.{CacheView, slot_of, reserved_slot, room_for, slot_count, told, in_set, touched, filled, with_reserved, home_of, set_at}
use Rattle.cache_sets.specs.Lookups.{LooksUpAsBefore, LooksUpReserved, LooksUpFilled, LooksUpDropped, with_slot, is_victim}
use Rattle.cache_sets.specs.Sound.{IsSound}
use Rattle.cache_sets.specs.declared.sets.Reserved.{Reserved}
use Rattle.cache_levels.specs.declared.levels.LineCopy.{LineCopy}
use Rattle.cache_levels.specs.Levels.{LevelsView, near, held, touched_line}
use Rattle.cache_levels.specs.Sound.{AreSound}

-- a line is there, by its slot
abbrev pub IsThere : Option ℕ → Type 0
IsThere slot = IsTrue (is_some slot)

-- ---- no change alters how many slots a cache has

slot_count-in_set : (n : ℕ) (change : List Way → List Way) (cache : CacheView) → slot_count (in_set n change cache) ≡ slot_count cache
slot_count-in_set n change cache = ap (λ (k : ℕ). k * cache.ways) (length-set cache.sets n (change (set_at n cache)))

touched_at_count : (slot : Option ℕ) (cache : CacheView) → slot_count (option_map_or (λ s. touched s cache) slot cache) ≡ slot_count cache
touched_at_count None cache = refl
touched_at_count (Some slot) cache = slot_count-in_set (slot / cache.ways) (touched_in slot) cache

pub slot_count-touched_line : (line : ℕ) (cache : CacheView) → slot_count (touched_line line cache) ≡ slot_count cache
slot_count-touched_line line cache = touched_at_count (slot_of line cache) cache

-- ---- brought near

pub AreSound-brought : (old : LevelsView) (line : ℕ) (first second : CacheView) → AreSound old → IsTrue (held line old) →
    IsSound first → ((l : ℕ) → reserved_slot l first ≡ None) → ((l : ℕ) → IsThere (slot_of l first) → (l ≡ line) ⊎ IsTrue (near l old)) →
    IsSound second → second ≡ touched_line line old.second → LooksUpAsBefore old.second second →
    AreSound (record { first = first; second = second; copies = old.copies; line_bytes = old.line_bytes })
AreSound-brought old line first second sound there sound_first unreserved others sound_second touches looks = record {
  first = sound_first;
  second = sound_second;
  near_is_held = λ l is.
      let was : IsTrue (held l old) = ⊎_elim (λ e. let P : ℕ → Type 0 = λ k. IsTrue (held k old) in subst P (sym e) there) (sound.near_is_held l) (others l is) in
      subst IsThere (sym (looks.slot l)) was;
  unreserved = unreserved;
  copies = sound.copies ∙ sym (ap slot_count touches ∙ slot_count-touched_line line old.second);
  bytes = sound.bytes;
  line_bytes = sound.line_bytes;
}

-- ---- filled

pub AreSound-filled : (old : LevelsView) (line slot : ℕ) (copy : LineCopy) (first second : CacheView) → AreSound old → length copy.bytes ≡ line_room →
    IsSound first → ((l : ℕ) → reserved_slot l first ≡ None) → ((l : ℕ) → IsThere (slot_of l first) → (l ≡ line) ⊎ IsTrue (near l old)) →
    IsSound second → second ≡ filled slot line old.second → LooksUpFilled slot line old.second second →
    AreSound (record { first = first; second = second; copies = set old.copies slot copy; line_bytes = old.line_bytes })
AreSound-filled old line slot copy first second sound long sound_first unreserved others sound_second fills looks = record {
  first = sound_first;
  second = sound_second;
  near_is_held = λ l is.
      subst IsThere (sym (looks.slot l))
      (⊎_elim
      (λ e. subst IsThere (sym (ap (λ b. cond b (Some slot) (slot_of l old.second)) (eq-eqb l line e))) refl)
      (λ ne.
      let was : IsTrue (near l old) = ⊎_elim (λ e. absurd (ne e)) (λ h. h) (others l is) in
      subst IsThere (sym (ap (λ b. cond b (Some slot) (slot_of l old.second)) (ne_eqb l line ne))) (sound.near_is_held l was))
      (cases_eq l line));
  unreserved = unreserved;
  copies = length-set old.copies slot copy ∙ (sound.copies ∙ sym (ap slot_count fills ∙ slot_count-in_set (home_of line old.second) (fill_in slot line) old.second));
  bytes = All-set (λ (c : LineCopy). length c.bytes ≡ line_room) old.copies slot copy long sound.bytes;
  line_bytes = sound.line_bytes;
}

-- ---- a way is reserved

line_of_told : (line : Option ℕ) → option_map (λ (l : Line). l.0) (option_map (λ n. let l : Line = record { 0 = n } in l) line) ≡ line
line_of_told None = refl
line_of_told (Some n) = refl

victim_is_told : (l : ℕ) (way : Option Way) (room : Reserved) → Some room ≡ option_map told way → is_victim l way ≡ names l (option_map (λ (v : Line). v.0) room.victim)
victim_is_told l None room is = absurd cc
victim_is_told l (Some way) room is =
    let same : room ≡ told way = cc in
    ap (names l) (sym (ap (λ (r : Reserved). option_map (λ (v : Line). v.0) r.victim) same ∙ line_of_told way.line))

-- what is no victim is held as before
kept_slot : (old : LevelsView) (line l : ℕ) (room : Reserved) (second : CacheView) → Some room ≡ option_map told (room_for line old.second) → LooksUpReserved line old.second second →
    names l (option_map (λ (v : Line). v.0) room.victim) ≡ false → slot_of l second ≡ slot_of l old.second
kept_slot old line l room second is looks other =
    looks.slot l ∙ ap (λ b. cond b None (slot_of l old.second)) (victim_is_told l (room_for line old.second) room is ∙ other)

with_reserved_count : (old second : CacheView) (line : ℕ) → second ≡ with_reserved line old → slot_count second ≡ slot_count old
with_reserved_count old second line is = ap slot_count is ∙ slot_count-in_set (home_of line old) (reserve_in line) old

pub AreSound-without : (old : LevelsView) (line : ℕ) (room : Reserved) (second : CacheView) → AreSound old → room.victim ≡ None →
    IsSound second → second ≡ with_reserved line old.second → Some room ≡ option_map told (room_for line old.second) → LooksUpReserved line old.second second →
    AreSound (record { first = old.first; second = second; copies = old.copies; line_bytes = old.line_bytes })
AreSound-without old line room second sound none sound_second reserves is looks = record {
  first = sound.first;
  second = sound_second;
  near_is_held = λ l near_l.
      let other : names l (option_map (λ (v : Line). v.0) room.victim) ≡ false = ap (λ (o : Option Line). names l (option_map (λ (v : Line). v.0) o)) none in
      subst IsThere (sym (kept_slot old line l room second is looks other)) (sound.near_is_held l near_l);
  unreserved = sound.unreserved;
  copies = sound.copies ∙ sym (with_reserved_count old.second second line reserves);
  bytes = sound.bytes;
  line_bytes = sound.line_bytes;
}

pub AreSound-without_victim : (old : LevelsView) (line : ℕ) (room : Reserved) (victim : Line) (first second : CacheView) → AreSound old → room.victim ≡ Some victim →
    IsSound first → LooksUpDropped victim.0 old.first first →
    IsSound second → second ≡ with_reserved line old.second → Some room ≡ option_map told (room_for line old.second) → LooksUpReserved line old.second second →
    AreSound (record { first = first; second = second; copies = old.copies; line_bytes = old.line_bytes })
AreSound-without_victim old line room victim first second sound leaves sound_first drops sound_second reserves is looks = record {
  first = sound_first;
  second = sound_second;
  near_is_held = λ l near_l.
      let after : IsThere (with_slot victim.0 None (λ k. slot_of k old.first) l) = subst IsThere (drops.slot l) near_l in
      ⊎_elim
      (λ e. let gone : IsThere None = subst IsThere (ap (λ b. cond b None (slot_of l old.first)) (eq-eqb l victim.0 e)) after in absurd cc)
      (λ ne.
      let was : IsTrue (near l old) = subst IsThere (ap (λ b. cond b None (slot_of l old.first)) (ne_eqb l victim.0 ne)) after in
      let other : names l (option_map (λ (v : Line). v.0) room.victim) ≡ false =
      ap (λ (o : Option Line). names l (option_map (λ (v : Line). v.0) o)) leaves ∙ ne_eqb victim.0 l (λ e. ne (sym e)) in
      subst IsThere (sym (kept_slot old line l room second is looks other)) (sound.near_is_held l was))
      (cases_eq l victim.0);
  unreserved = λ l. drops.reserved l ∙ sound.unreserved l;
  copies = sound.copies ∙ sym (with_reserved_count old.second second line reserves);
  bytes = sound.bytes;
  line_bytes = sound.line_bytes;
}
