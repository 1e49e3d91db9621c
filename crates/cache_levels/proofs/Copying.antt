-- The copies of lines after each call.
use Rattle.std.proofs.Common.{◌≡◌, ℕ, ◌+◌, ◌-◌, ◌<◌, Bool, true, false, cond, List, ◌++◌, length, get_or, set, take, drop, Option, Some, None, option_map, IsTrue, is_some, arith, refl, sym, ap, ◌∙◌, ⊎_elim}
use Rattle.std.specs.Option.{option_map_or}
use Rattle.std.proofs.lemmas.Bool.{cases_eq, eq-eqb, ne_eqb}
use Rattle.std.proofs.lemmas.List.{length-take-le, get_or_append_left, get_or-take, get_or-drop, get_or-append_right}
use Rattle.std.proofs.lemmas.List.FromFn.{length-map-range_with_len, get_or-map-range_with_len}
use Rattle.std.proofs.lemmas.Option.{slice_get-get_or}
use Rattle.list_facts.specs.Places.{slice_get-set_same, slice_get-set_other}
use Rattle.rsim_base.specs.Bytes.{count_of, byte_of}
use Rattle.cache_sets.specs.Ways.{Way}
use Rattle.cache_sets.specs.Apart.{SoundIsApart}
use Rattle.cache_sets.specs.Caches.{slot_of, reserved_slot, room_for, touched, filled}
use Rattle.cache_sets.specs.Lookups.{TouchLooksUp, ReserveLooksUp, HoldLooksUp, FillLooksUp, is_victim, with_slot}
use Rattle.cache_levels.specs.declared.levels.LineCopy.{LineCopy}
use Rattle.cache_levels.specs.Bytes.{cuts}
use Rattle.cache_levels.specs.Laws.{with_copy, FillCopies, ChangeCopies, RoomCopies, OthersStay, WriteReadsBack}
use Rattle.cache_levels.specs.Levels.{LevelsView, copy_of, copy_at, no_copy, held_way, filled_line}
use Rattle.cache_levels.specs.Slots.{copy_in, fill_slot, room_at}
use Rattle.cache_levels.specs.Sound.{AreSound}

-- ---- the copy at a slot

-- the choice between a line and the others
chosen : (line l : ℕ) (copy given : Option LineCopy) (copies : ℕ → Option LineCopy) → (l ≡ line → given ≡ copy) → ((l ≡ line → ⊥) → given ≡ copies l) → given ≡ with_copy line copy copies l
chosen line l copy given copies here others =
    ⊎_elim (λ e. here e ∙ sym (ap (λ b. cond b copy (copies l)) (eq-eqb l line e))) (λ ne. others ne ∙ sym (ap (λ b. cond b copy (copies l)) (ne_eqb l line ne))) (cases_eq l line)

-- the same of slots
slot_here : (line l : ℕ) (slot : Option ℕ) (slots : ℕ → Option ℕ) → l ≡ line → with_slot line slot slots l ≡ slot
slot_here line l slot slots e = ap (λ b. cond b slot (slots l)) (eq-eqb l line e)

slot_other : (line l : ℕ) (slot : Option ℕ) (slots : ℕ → Option ℕ) → (l ≡ line → ⊥) → with_slot line slot slots l ≡ slots l
slot_other line l slot slots ne = ap (λ b. cond b slot (slots l)) (ne_eqb l line ne)

-- a write to a slot that is not the line's
copy_other : (copies : List LineCopy) (slot : ℕ) (copy : LineCopy) (given : Option ℕ) → ((j : ℕ) → given ≡ Some j → j ≡ slot → ⊥) → copy_in (set copies slot copy) given ≡ copy_in copies given
copy_other copies slot copy None ne = refl
copy_other copies slot copy (Some j) ne = slice_get-set_other copies slot j copy (ne j refl)

-- ---- the calls

fill_at : (line slot l : ℕ) (copy : LineCopy) (levels : LevelsView) → SoundIsApart → FillLooksUp → AreSound levels → reserved_slot line levels.second ≡ Some slot →
    copy_in (set levels.copies slot copy) (slot_of l (filled slot line levels.second)) ≡ with_copy line (Some copy) (λ k. copy_of k levels) l
fill_at line slot l copy levels apart looks_up sound e =
    let parts = apart levels.second sound.second in
    let look = (looks_up slot line levels.second sound.second e).slot l in
    let within : slot < length levels.copies = omega (arith, parts.reserved_within line slot e, sound.copies) in
    ap (copy_in (set levels.copies slot copy)) look
    ∙ chosen line l (Some copy) (copy_in (set levels.copies slot copy) (with_slot line (Some slot) (λ k. slot_of k levels.second) l)) (λ k. copy_of k levels)
    (λ same. ap (copy_in (set levels.copies slot copy)) (slot_here line l (Some slot) (λ k. slot_of k levels.second) same) ∙ slice_get-set_same levels.copies slot copy within)
    (λ ne.
    ap (copy_in (set levels.copies slot copy)) (slot_other line l (Some slot) (λ k. slot_of k levels.second) ne)
    ∙ copy_other levels.copies slot copy (slot_of l levels.second) (λ j is f. ne (parts.reserved l line slot (is ∙ ap Some f) e)))

fill_with : (line l : ℕ) (is_owned : Bool) (bytes : List ℕ) (levels : LevelsView) (slot : Option ℕ) → SoundIsApart → FillLooksUp → AreSound levels →
    reserved_slot line levels.second ≡ slot → (slot ≡ None → ⊥) → copy_of l (filled_line line is_owned bytes levels) ≡ with_copy line (Some (record { owned = is_owned; bytes = bytes })) (λ k. copy_of k levels) l
fill_with line l is_owned bytes levels None apart looks_up sound e there = absurd (there refl)
fill_with line l is_owned bytes levels (Some slot) apart looks_up sound e there =
    ap (λ (o : Option ℕ). copy_of l (fill_slot line is_owned bytes levels o)) e ∙ fill_at line slot l (record { owned = is_owned; bytes = bytes }) levels apart looks_up sound e

pub fill_copies : SoundIsApart → FillLooksUp → FillCopies
fill_copies apart looks_up line is_owned bytes levels sound there l = fill_with line l is_owned bytes levels (reserved_slot line levels.second) apart looks_up sound refl there

-- the levels after a change of a copy
abbrev change_slot : (LineCopy → LineCopy) → List LineCopy → Option ℕ → List LineCopy
change_slot change copies slot = option_map_or (λ s. set copies s (change (copy_at copies s))) slot copies

change_at : (line l : ℕ) (change : LineCopy → LineCopy) (levels : LevelsView) (slot : Option ℕ) → SoundIsApart → AreSound levels → slot_of line levels.second ≡ slot →
    copy_in (change_slot change levels.copies slot) (slot_of l levels.second) ≡ with_copy line (option_map change (copy_in levels.copies slot)) (λ k. copy_of k levels) l
change_at line l change levels None apart sound e =
    chosen line l None (copy_of l levels) (λ k. copy_of k levels) (λ same. ap (λ (k : ℕ). copy_of k levels) same ∙ ap (copy_in levels.copies) e) (λ _. refl)
change_at line l change levels (Some slot) apart sound e =
    let parts = apart levels.second sound.second in
    let within : slot < length levels.copies = omega (arith, parts.within line slot e, sound.copies) in
    let new = change (copy_at levels.copies slot) in
    let was : copy_in levels.copies (Some slot) ≡ Some (copy_at levels.copies slot) = slice_get-get_or levels.copies slot no_copy within in
    chosen line l (option_map change (copy_in levels.copies (Some slot))) (copy_in (set levels.copies slot new) (slot_of l levels.second)) (λ k. copy_of k levels)
    (λ same.
    ap (λ (k : ℕ). copy_in (set levels.copies slot new) (slot_of k levels.second)) same
    ∙ (ap (copy_in (set levels.copies slot new)) e ∙ (slice_get-set_same levels.copies slot new within ∙ sym (ap (option_map change) was))))
    (λ ne. copy_other levels.copies slot new (slot_of l levels.second) (λ j is f. ne (parts.held l line slot (is ∙ ap Some f) e)))

pub change_copies : SoundIsApart → ChangeCopies
change_copies apart line change levels sound l = change_at line l change levels (slot_of line levels.second) apart sound refl

-- the levels after a way was reserved
leaves_none : (b : Bool) (copies : List LineCopy) (slot : Option ℕ) → copy_in copies (cond b None slot) ≡ cond b None (copy_in copies slot)
leaves_none true copies slot = refl
leaves_none false copies slot = refl

room_with : (line l : ℕ) (levels : LevelsView) (room : Option Way) → ReserveLooksUp → AreSound levels → reserved_slot line levels.second ≡ None → room_for line levels.second ≡ room →
    copy_of l (room_at line levels room) ≡ cond (is_victim l room) None (copy_of l levels)
room_with line l levels None looks_up sound unreserved e = refl
room_with line l levels (Some way) looks_up sound unreserved e =
    let look = (looks_up line levels.second sound.second unreserved).slot l in
    ap (copy_in levels.copies) look
    ∙ (leaves_none (is_victim l (room_for line levels.second)) levels.copies (slot_of l levels.second) ∙ ap (λ (o : Option Way). cond (is_victim l o) None (copy_of l levels)) e)

pub room_copies : ReserveLooksUp → RoomCopies
room_copies looks_up line levels sound unreserved l = room_with line l levels (room_for line levels.second) looks_up sound unreserved refl

-- the levels after a line was brought near, touched, or its way held
touched_slot : (line l : ℕ) (levels : LevelsView) (slot : Option ℕ) → SoundIsApart → TouchLooksUp → AreSound levels → slot_of line levels.second ≡ slot →
    slot_of l (option_map_or (λ s. touched s levels.second) slot levels.second) ≡ slot_of l levels.second
touched_slot line l levels None apart looks_up sound e = refl
touched_slot line l levels (Some slot) apart looks_up sound e =
    (looks_up slot levels.second sound.second ((apart levels.second sound.second).within line slot e)).slot l

held_slot : (line l : ℕ) (levels : LevelsView) (slot : Option ℕ) → HoldLooksUp → AreSound levels → slot_of line levels.second ≡ slot → IsTrue (is_some slot) →
    copy_of l (held_way line levels) ≡ copy_of l levels
held_slot line l levels None looks_up sound e is = absurd cc
held_slot line l levels (Some slot) looks_up sound e is = ap (copy_in levels.copies) ((looks_up line slot levels.second sound.second e).slot l)

pub others_stay : SoundIsApart → TouchLooksUp → HoldLooksUp → OthersStay
others_stay apart touches holds line levels sound is = (
  λ l. ap (copy_in levels.copies) (touched_slot line l levels (slot_of line levels.second) apart touches sound refl),
  λ l. ap (copy_in levels.copies) (touched_slot line l levels (slot_of line levels.second) apart touches sound refl),
  λ l. held_slot line l levels (slot_of line levels.second) holds sound refl is,
)

-- ---- written bytes

pub write_reads_back : WriteReadsBack
write_reads_back at n value bytes fits =
    let c = count_of n in
    let front = take at bytes in
    let middle = cuts n value in
    let back = drop (at + c) bytes in
    let front_size : length front ≡ at = length-take-le at bytes (omega arith) in
    let middle_size : length middle ≡ c = length-map-range_with_len (λ b. byte_of value c b) 0 c in (
      λ b below.
          let off : at + b - at ≡ b = omega arith in
          let cut : b < length middle = omega (arith, middle_size, below) in
          get_or-append_right front (middle ++ back) at (at + b) 0 front_size (omega arith)
          ∙ (ap (λ (k : ℕ). get_or (middle ++ back) k 0) off
          ∙ (get_or_append_left middle back 0 b cut ∙ get_or-map-range_with_len (λ k. byte_of value c k) 0 c b b 0 below (omega arith))),
      λ k below. get_or_append_left front (middle ++ back) 0 k (omega (arith, front_size)) ∙ get_or-take at bytes k 0 below,
      λ k above.
          let off : at + c + (k - at - c) ≡ k = omega arith in
          get_or-append_right front (middle ++ back) at k 0 front_size (omega arith)
          ∙ (get_or-append_right middle back c (k - at) 0 middle_size (omega arith)
          ∙ (get_or-drop (at + c) bytes (k - at - c) 0 ∙ ap (λ (j : ℕ). get_or bytes j 0) off)),
    )
