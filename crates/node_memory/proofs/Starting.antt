-- A wish starts: its line has a way and a register, and another line may leave for it.
use Rattle.std.proofs.Common.{◌≡◌, ℕ, ◌==◌, Bool, true, false, cond, List, Option, Some, None, is_some, option_map, refl, sym, ap, ◌∙◌, ⊎_elim}
use Rattle.std.proofs.lemmas.Bool.{cases_eq, eq-eqb, ne_eqb}
use Rattle.rsim_base.specs.declared.memory.Line.{Line}
use Rattle.cache_sets.specs.Caches.{reserved_slot, room_for, slot_of, with_reserved}
use Rattle.cache_sets.specs.Lookups.{is_victim}
use Rattle.cache_sets.specs.Ways.{Way}
use Rattle.cache_levels.specs.Levels as level
use Rattle.cache_levels.specs.Levels.{LevelsView, copy_at, evicted_as, held_way, with_room, without_victim}
use Rattle.cache_levels.specs.declared.levels.Evicted.{Evicted}
use Rattle.cache_levels.specs.declared.levels.LineCopy.{LineCopy}
use Rattle.cache_levels.specs.Slots.{copy_in, room_at}
use Rattle.memory_contracts.specs.Updates.{with_at}
use Rattle.miss_registers.specs.Misses.{MissView, register_of, victim_of, with_register, with_victim}
use Rattle.miss_registers.specs.OneLine.{register_of-with_register, victim_of-with_victim}
use Rattle.node_memory.specs.Starting.{slots_with}
use Rattle.node_memory.proofs.Fits.{AreFit, IsFit, owned_in}
use Rattle.node_memory.proofs.Held.{AreCopies, copy-held}
use Rattle.node_memory.proofs.LineViews.{LineView, line_view, view-with_at, with_at-map, with_at-same}
use Rattle.node_memory.proofs.Victims.{victim-leaves}

-- ---- the line that is asked for

abbrev pub asked : Bool → Option ℕ → LineView → LineView
asked own way x = record x { register = Some own; way = way }

pub fit-asked : (own : Bool) (slot : ℕ) (x : LineView) → IsFit x → x.slot ≡ None → owned_in x.copy ≡ false → IsFit (asked own (Some slot) x)
fit-asked own slot x fit none unowned = record { way = refl; held = λ there. none; awaited = λ awaited. none; unowned = λ awaited. unowned }

-- the way of a held line is reserved for it
pub view-held_way : (line slot l : ℕ) (own : Bool) (levels : LevelsView) (misses : MissView) → AreCopies levels → slot_of line levels.second ≡ Some slot →
    line_view (held_way line levels) (with_register line own misses) l ≡ with_at (line_view levels misses) line (asked own (Some slot) (line_view levels misses line)) l
view-held_way line slot l own levels misses sound is =
    let old = line_view levels misses in
    let looks = sound.laws.hold line slot levels.second sound.second is in
    view-with_at old line (asked own (Some slot) (old line)) (line_view (held_way line levels) (with_register line own misses) l) l
    (ap (copy_in levels.copies) (looks.slot l) ∙ with_at-same (λ k. (old k).copy) line l) (with_at-same (λ k. (old k).slot) line l) (register_of-with_register line own misses l)
    (looks.reserved l ∙ ap (λ o. with_at (λ k. (old k).way) line o l) is)

-- ---- the line that leaves

-- what is told of a line that leaves the way with this slot, if one does
abbrev pub told_of : List LineCopy → ℕ → Option ℕ → Evicted
told_of copies slot mark = evicted_as copies (record { slot = slot; victim = option_map (λ line. let l : Line = record { 0 = line } in l) mark })

-- it is in no cache, and the bytes of an owned one are in its slot
abbrev pub gone : LineCopy → LineView → LineView
gone copy x = record x { copy = None; slot = cond copy.owned (Some (Some copy.bytes)) x.slot }

-- every line, after this one has left
abbrev pub without : Option ℕ → LineCopy → (ℕ → LineView) → ℕ → LineView
without None copy old l = old l
without (Some victim) copy old l = with_at old victim (gone copy (old victim)) l

pub record Leaves (line victim : ℕ) (copy : LineCopy) (levels : LevelsView) (misses : MissView) : Type 0 where
  pub other : (victim == line) ≡ false
  pub copy_is : level.copy_of victim levels ≡ Some copy
  pub slotless : victim_of misses victim ≡ None
  pub register : register_of misses victim ≡ None

pub none-is : {A : Type 0} (o : Option A) → is_some o ≡ false → o ≡ None
none-is None e = refl
none-is (Some x) e = absurd cc

pub leaves : (line victim : ℕ) (way : Way) (levels : LevelsView) (misses : MissView) → AreCopies levels → AreFit levels misses → level.copy_of line levels ≡ None →
    room_for line levels.second ≡ Some way → way.line ≡ Some victim → Leaves line victim (copy_at levels.copies way.slot) levels misses
leaves line victim way levels misses sound fit absent room holds_it =
    let is = victim-leaves line victim way levels.second sound.second room holds_it in
    let copy = copy-held victim way.slot levels sound is.held in
    let there : is_some (level.copy_of victim levels) ≡ true = ap is_some copy in
    record {
      other = ne_eqb victim line (λ e. let same : level.copy_of victim levels ≡ None = ap (λ k. level.copy_of k levels) e ∙ absent in let gone : is_some (level.copy_of victim levels) ≡ false = ap is_some same in cc);
      copy_is = copy;
      slotless = (fit victim).held there;
      register = none-is (register_of misses victim) ((fit victim).way ∙ ap is_some is.unreserved);
    }

pub fit-gone : (copy : LineCopy) (x : LineView) → IsFit x → x.register ≡ None → IsFit (gone copy x)
fit-gone copy x fit unawaited = record {
  way = fit.way;
  held = λ there. absurd cc;
  awaited = λ awaited. let none : is_some x.register ≡ false = ap is_some unawaited in absurd cc;
  unowned = λ awaited. refl;
}

-- ---- a line leaves, and another is asked for

pub eqb-turned : (a b : ℕ) → (a == b) ≡ (b == a)
eqb-turned a b = ⊎_elim (λ e. eq-eqb a b e ∙ sym (eq-eqb b a (sym e))) (λ ne. ne_eqb a b ne ∙ sym (ne_eqb b a (λ e. ne (sym e)))) (cases_eq a b)

register-kept : (line q : ℕ) (own : Bool) (b : Bool) (victim : ℕ) (bytes : List ℕ) (misses : MissView) →
    register_of (with_register line own (cond b (with_victim victim (Some bytes) misses) misses)) q ≡ with_at (register_of misses) line (Some own) q
register-kept line q own true victim bytes misses = register_of-with_register line own (with_victim victim (Some bytes) misses) q
register-kept line q own false victim bytes misses = register_of-with_register line own misses q

victim-kept : (q : ℕ) (b : Bool) (victim : ℕ) (bytes : List ℕ) (misses : MissView) →
    victim_of (cond b (with_victim victim (Some bytes) misses) misses) q ≡ with_at (victim_of misses) victim (cond b (Some (Some bytes)) (victim_of misses victim)) q
victim-kept q true victim bytes misses = victim_of-with_victim victim (Some bytes) misses q
victim-kept q false victim bytes misses = with_at-same (victim_of misses) victim q

none-from : (b : Bool) (copies : List LineCopy) (slot : Option ℕ) → copy_in copies (cond b None slot) ≡ cond b None (copy_in copies slot)
none-from true copies slot = refl
none-from false copies slot = refl

pub view-room : (line l : ℕ) (own : Bool) (way : Way) (mark : Option ℕ) (levels : LevelsView) (misses : MissView) → AreCopies levels →
    reserved_slot line levels.second ≡ None → room_for line levels.second ≡ Some way → way.line ≡ mark →
    line_view (with_room line levels) (with_register line own (slots_with (told_of levels.copies way.slot mark) misses)) l
    ≡ with_at (without mark (copy_at levels.copies way.slot) (line_view levels misses)) line (asked own (Some way.slot) (without mark (copy_at levels.copies way.slot) (line_view levels misses) line)) l
view-room line l own way mark levels misses sound unreserved room is = ap (λ o. line_view (room_at line levels o) (with_register line own (slots_with (told_of levels.copies way.slot mark) misses)) l) room ∙ by mark is
  where
    old : ℕ → LineView
    old = line_view levels misses

    copy : LineCopy
    copy = copy_at levels.copies way.slot

    after : LevelsView
    after = record levels { first = without_victim way.line levels.first; second = with_reserved line levels.second }

    copy-left : (mark : Option ℕ) → way.line ≡ mark → level.copy_of l after ≡ cond (is_victim l (Some (record way { line = mark }))) None (level.copy_of l levels)
    copy-left mark is =
        ap (copy_in levels.copies) ((sound.laws.reserve line levels.second sound.second unreserved).slot l)
        ∙ (none-from (is_victim l (room_for line levels.second)) levels.copies (slot_of l levels.second)
        ∙ ap (λ o. cond (is_victim l o) None (level.copy_of l levels)) room
        ∙ ap (λ m. cond (is_victim l (Some (record way { line = m }))) None (level.copy_of l levels)) is)

    way-kept : (base : ℕ → LineView) → ((k : ℕ) → (base k).way ≡ (old k).way) → reserved_slot l after.second ≡ with_at (λ k. (base k).way) line (Some way.slot) l
    way-kept base same =
        (sound.laws.reserve line levels.second sound.second unreserved).reserved l
        ∙ ap (λ o. with_at (λ k. (old k).way) line (option_map (λ (w : Way). w.slot) o) l) room
        ∙ ap (λ o. cond (l == line) (Some way.slot) o) (sym (same l))

    by : (mark : Option ℕ) → way.line ≡ mark → line_view after (with_register line own (slots_with (told_of levels.copies way.slot mark) misses)) l ≡ with_at (without mark copy old) line (asked own (Some way.slot) (without mark copy old line)) l
    by None is =
        view-with_at old line (asked own (Some way.slot) (old line)) (line_view after (with_register line own misses) l) l
        (copy-left None is ∙ with_at-same (λ k. (old k).copy) line l) (with_at-same (λ k. (old k).slot) line l) (register_of-with_register line own misses l) (way-kept old (λ k. refl))
    by (Some victim) is =
        let base = without (Some victim) copy old in
        let left = slots_with (told_of levels.copies way.slot (Some victim)) misses in
        view-with_at base line (asked own (Some way.slot) (base line)) (line_view after (with_register line own left) l) l
        (copy-left (Some victim) is ∙ (ap (λ b. cond b None (level.copy_of l levels)) (eqb-turned victim l) ∙ (sym (with_at-map (λ x. x.copy) old victim (gone copy (old victim)) l) ∙ with_at-same (λ k. (base k).copy) line l)))
        (victim-kept l copy.owned victim copy.bytes misses ∙ (sym (with_at-map (λ x. x.slot) old victim (gone copy (old victim)) l) ∙ with_at-same (λ k. (base k).slot) line l))
        (register-kept line l own copy.owned victim copy.bytes misses ∙ ap (λ o. cond (l == line) (Some own) o) (sym (register-same victim l)))
        (way-kept base (way-same victim))
      where
        register-same : (victim k : ℕ) → (without (Some victim) copy old k).register ≡ (old k).register
        register-same victim k = with_at-map (λ x. x.register) old victim (gone copy (old victim)) k ∙ sym (with_at-same (λ k. (old k).register) victim k)

        way-same : (victim k : ℕ) → (without (Some victim) copy old k).way ≡ (old k).way
        way-same victim k = with_at-map (λ x. x.way) old victim (gone copy (old victim)) k ∙ sym (with_at-same (λ k. (old k).way) victim k)
