-- A wish that need not wait starts: what is true of a node stays true, and the protocol sees one wish start.
use Rattle.std.proofs.Common.{◌≡◌, ℕ, ◌+◌, ◌≤◌, ◌==◌, Bool, true, false, not, ◌&&◌, ◌||◌, cond, nat_lt, List, [], ◌∷◌, ◌++◌, length, map, Option, Some, None, ◌⊎◌, inl, inr, ⊎_elim, is_some, option_map, refl, sym, ap, subst, ◌∙◌}
use Rattle.std.specs.List.{Contains}
use Rattle.std.specs.Option.{IfSome}
use Rattle.std.proofs.lemmas.Bool.{ltb-false}
use Rattle.rsim_base.specs.declared.memory.Line.{Line}
use Rattle.cache_sets.specs.Caches.{reserved_slot, room_for, slot_of, told}
use Rattle.cache_sets.specs.Ways.{Way}
use Rattle.cache_levels.specs.Levels as level
use Rattle.cache_levels.specs.Levels.{LevelsView, copy_at, evicted_as, held, held_way, with_room}
use Rattle.cache_levels.specs.Sound.{AreSound}
use Rattle.cache_levels.specs.declared.levels.Evicted.{Evicted}
use Rattle.cache_levels.specs.declared.levels.LineCopy.{LineCopy}
use Rattle.cache_levels.specs.Slots.{room_at}
use Rattle.memory_contracts.specs.Protocol.Awaited.{is_leaving}
use Rattle.memory_contracts.specs.Protocol.Lines.{Copy}
use Rattle.memory_contracts.specs.Protocol.Messages.{Put, get}
use Rattle.memory_contracts.specs.Protocol.NodeTable.{evicted, granted, may_start, put_back}
use Rattle.memory_contracts.specs.Letters.{Mail}
use Rattle.memory_contracts.specs.Store.{Wish}
use Rattle.memory_contracts.specs.Updates.{with_at}
use Rattle.miss_registers.specs.Misses.{MissView, register_of, registers_full, victim_of, with_register}
use Rattle.node_memory.specs.Nodes.{NodeView, awaits, copy_of, kept_as, mail, most_mails}
use Rattle.node_memory.specs.Sides.{Begins, MayStart, asks_for, evicts_line, side_of}
use Rattle.node_memory.specs.Sound.{IsSound}
use Rattle.node_memory.specs.Starting.{Begun, asks, evicts, has_to_wait, is_absent, lacks_way, meets, slots_with, starts, starts_absent, starts_shared}
use Rattle.node_memory.proofs.Below.{CacheLaws}
use Rattle.node_memory.proofs.Fits.{AreFit, IsFit, fit-sound, fit-with_at, owned_in, sound-with}
use Rattle.node_memory.proofs.Held.{AreCopies, absent-is, copies_of, held-copy, held-is, leaving-is}
use Rattle.node_memory.proofs.LineViews.{LineView, kept, line_view, with_at-map, with_at-same}
use Rattle.node_memory.proofs.Starting.{Leaves, asked, eqb-turned, fit-asked, fit-gone, gone, leaves, none-is, told_of, view-held_way, view-room, without}

-- ---- which wishes start

-- the copy does not meet it, and it need not wait
pub record MayBegin (w : Wish) (v : NodeView) : Type 0 where
  pub unmet : meets w.own (copy_of v w.line) ≡ false
  pub ready : has_to_wait w v ≡ false

-- the line is absent, and has a way to come into
pub record IsAbsent (w : Wish) (v : NodeView) : Type 0 where
  pub copy : level.copy_of w.line v.levels ≡ None
  pub slot : victim_of v.misses w.line ≡ None
  pub register : register_of v.misses w.line ≡ None
  pub way : Way
  pub room : room_for w.line v.levels.second ≡ Some way

-- the line is shared, and is to be owned
pub record IsShared (w : Wish) (v : NodeView) : Type 0 where
  pub copy : LineCopy
  pub copy_is : level.copy_of w.line v.levels ≡ Some copy
  pub shared : copy.owned ≡ false
  pub own : w.own ≡ true
  pub register : register_of v.misses w.line ≡ None

parts : (a b c d e : Bool) → (a || b || c || d || e) ≡ false → (b ≡ false) × (d ≡ false)
parts true b c d e none = absurd cc
parts false true c d e none = absurd cc
parts false false true d e none = absurd cc
parts false false false true e none = absurd cc
parts false false false false e none = (refl, refl)

ready-parts : (w : Wish) (v : NodeView) → has_to_wait w v ≡ false → (awaits v w.line ≡ false) × (nat_lt most_mails (length v.outbox + 2) ≡ false)
ready-parts w v ready =
    parts (is_leaving (copy_of v w.line)) (awaits v w.line) (registers_full v.misses) (nat_lt most_mails (length v.outbox + 2)) (is_absent (copy_of v w.line) && lacks_way (level.evicted w.line v.levels) v.misses) ready

pub places-for : (w : Wish) (v : NodeView) → has_to_wait w v ≡ false → length v.outbox + 2 ≤ most_mails
places-for w v ready = ltb-false most_mails (length v.outbox + 2) (ready-parts w v ready).1

unawaited : (w : Wish) (v : NodeView) → has_to_wait w v ≡ false → register_of v.misses w.line ≡ None
unawaited w v ready = none-is (register_of v.misses w.line) (ready-parts w v ready).0

pub begin-cases : (w : Wish) (v : NodeView) → MayBegin w v → IsAbsent w v ⊎ IsShared w v
begin-cases w v may = by (level.copy_of w.line v.levels) (victim_of v.misses w.line) refl refl
  where
    lacks : Bool
    lacks = lacks_way (level.evicted w.line v.levels) v.misses

    waits : Copy → Bool
    waits copy = is_leaving copy || awaits v w.line || registers_full v.misses || nat_lt most_mails (length v.outbox + 2) || (is_absent copy && lacks)

    -- what is false with `true` in one place
    or-last : (a b c d : Bool) → (a || b || c || d) ≡ false → d ≡ false
    or-last true b c d e = absurd cc
    or-last false true c d e = absurd cc
    or-last false false true d e = absurd cc
    or-last false false false d e = e

    has_room : (room : Option Way) → room_for w.line v.levels.second ≡ room → lacks_way (option_map (λ way. evicted_as v.levels.copies (told way)) room) v.misses ≡ false → (way : Way) × (room_for w.line v.levels.second ≡ Some way)
    has_room None is none = absurd cc
    has_room (Some way) is some = (way, is)

    shared : (copy : LineCopy) (owned own : Bool) → copy.owned ≡ owned → w.own ≡ own → level.copy_of w.line v.levels ≡ Some copy → meets own (granted owned copy.bytes) ≡ false → IsShared w v
    shared copy false true e f is unmet = record { copy = copy; copy_is = is; shared = e; own = f; register = unawaited w v may.ready }
    shared copy false false e f is unmet = absurd cc
    shared copy true own e f is unmet = absurd cc

    by : (copy : Option LineCopy) (slot : Option (Option (List ℕ))) → level.copy_of w.line v.levels ≡ copy → victim_of v.misses w.line ≡ slot → IsAbsent w v ⊎ IsShared w v
    by None None is slot =
        let absent : copy_of v w.line ≡ kept_as None None = ap (λ o. kept_as o (victim_of v.misses w.line)) is ∙ ap (kept_as None) slot in
        let ready : waits (kept_as None None) ≡ false = sym (ap waits absent) ∙ may.ready in
        let (way, room) = has_room (room_for w.line v.levels.second) refl (or-last (awaits v w.line) (registers_full v.misses) (nat_lt most_mails (length v.outbox + 2)) lacks ready) in
        inl (record { copy = is; slot = slot; register = unawaited w v may.ready; way = way; room = room })
    by None (Some slot) is slot_is =
        let leaving : is_leaving (copy_of v w.line) ≡ true = leaving-is (level.copy_of w.line v.levels) (victim_of v.misses w.line) ∙ (ap (λ o. not (is_some o) && is_some (victim_of v.misses w.line)) is ∙ ap is_some slot_is) in
        let ready : (true || awaits v w.line || registers_full v.misses || nat_lt most_mails (length v.outbox + 2) || (is_absent (copy_of v w.line) && lacks)) ≡ false =
        sym (ap (λ b. b || awaits v w.line || registers_full v.misses || nat_lt most_mails (length v.outbox + 2) || (is_absent (copy_of v w.line) && lacks)) leaving) ∙ may.ready in
        absurd cc
    by (Some copy) slot is slot_is = inr (shared copy copy.owned w.own refl refl is (sym (ap (λ o. meets w.own (kept_as o (victim_of v.misses w.line))) is) ∙ may.unmet))

pub begin-absent : (w : Wish) (v : NodeView) → AreCopies v.levels → MayBegin w v → held w.line v.levels ≡ false → IsAbsent w v
begin-absent w v copies may absent =
    ⊎_elim (λ is. is)
    (λ shared.
    let there : is_some (level.copy_of w.line v.levels) ≡ true = ap is_some shared.copy_is in
    let here = held-copy w.line v.levels copies in
    absurd cc)
    (begin-cases w v may)

pub begin-shared : (w : Wish) (v : NodeView) → MayBegin w v → is_some (level.copy_of w.line v.levels) ≡ true → IsShared w v
begin-shared w v may there =
    ⊎_elim
    (λ absent. let gone : is_some (level.copy_of w.line v.levels) ≡ false = ap is_some absent.copy in absurd cc)
    (λ is. is)
    (begin-cases w v may)

-- ---- what a start is

pub starts-absent : (w : Wish) (v : NodeView) (absent : IsAbsent w v) → starts w v ≡ starts_absent w (Some (told_of v.levels.copies absent.way.slot absent.way.line)) v
starts-absent w v absent =
    let is : is_absent (copy_of v w.line) ≡ true = absent-is (level.copy_of w.line v.levels) (victim_of v.misses w.line) ∙ (ap (λ o. not (is_some o) && not (is_some (victim_of v.misses w.line))) absent.copy ∙ ap (λ o. not (is_some o)) absent.slot) in
    ap (λ b. cond b (starts_absent w (level.evicted w.line v.levels) v) (starts_shared w v)) is
    ∙ ap (λ o. starts_absent w (option_map (λ way. evicted_as v.levels.copies (told way)) o) v) absent.room

pub starts-shared : (w : Wish) (v : NodeView) → IsShared w v → starts w v ≡ starts_shared w v
starts-shared w v shared =
    let is : is_absent (copy_of v w.line) ≡ false = absent-is (level.copy_of w.line v.levels) (victim_of v.misses w.line) ∙ ap (λ o. not (is_some o) && not (is_some (victim_of v.misses w.line))) shared.copy_is in
    ap (λ b. cond b (starts_absent w (level.evicted w.line v.levels) v) (starts_shared w v)) is

-- what is told of the line that leaves
pub evicted-absent : (w : Wish) (v : NodeView) (absent : IsAbsent w v) → level.evicted w.line v.levels ≡ Some (told_of v.levels.copies absent.way.slot absent.way.line)
evicted-absent w v absent = ap (option_map (λ way. evicted_as v.levels.copies (told way))) absent.room

pub line_bytes-room : (w : Wish) (v : NodeView) → IsAbsent w v → (with_room w.line v.levels).line_bytes ≡ v.levels.line_bytes
line_bytes-room w v absent = ap (λ o. (room_at w.line v.levels o).line_bytes) absent.room

-- it has no slot yet
pub evicted-slotless : (w : Wish) (v : NodeView) → AreCopies v.levels → AreFit v.levels v.misses → IsAbsent w v →
    IfSome (level.evicted w.line v.levels) (λ e. IfSome e.line (λ (victim : Line). victim_of v.misses victim.0 ≡ None))
evicted-slotless w v copies fit absent = subst (λ o. IfSome o (λ (e : Evicted). IfSome e.line (λ (victim : Line). victim_of v.misses victim.0 ≡ None))) (sym (evicted-absent w v absent)) (by absent.way.line refl)
  where
    by : (mark : Option ℕ) → absent.way.line ≡ mark → IfSome (told_of v.levels.copies absent.way.slot mark).line (λ (victim : Line). victim_of v.misses victim.0 ≡ None)
    by None is = tt
    by (Some victim) is = (leaves w.line victim absent.way v.levels v.misses copies fit absent.copy absent.room is).slotless

-- ---- what is true of a node stays true

no-way : (l : ℕ) (v : NodeView) → AreFit v.levels v.misses → register_of v.misses l ≡ None → reserved_slot l v.levels.second ≡ None
no-way l v fit none = none-is (reserved_slot l v.levels.second) (sym (fit l).way ∙ ap is_some none)

-- the line comes into a way, and another may leave it
pub sound-absent : CacheLaws → (w : Wish) (v : NodeView) (levels : LevelsView) (misses : MissView) (outbox : List Mail) → IsSound v → (absent : IsAbsent w v) →
    levels ≡ with_room w.line v.levels → misses ≡ with_register w.line w.own (slots_with (told_of v.levels.copies absent.way.slot absent.way.line) v.misses) → AreSound levels → length outbox ≤ most_mails →
    IsSound (record v { levels = levels; misses = misses; outbox = outbox })
sound-absent laws w v levels misses outbox sound absent levels_are misses_are sound_levels room =
    sound-with laws v levels misses v.wishes v.coming outbox sound sound_levels
    (λ l. subst IsFit (sym (view-of l)) (fit-with_at (base absent.way.line) w.line (asked w.own (Some absent.way.slot) (base absent.way.line w.line)) (fit-base absent.way.line refl) (fit-line absent.way.line refl) l))
    sound.wishes sound.coming room
  where
    old : ℕ → LineView
    old = line_view v.levels v.misses

    copy : LineCopy
    copy = copy_at v.levels.copies absent.way.slot

    copies : AreCopies v.levels
    copies = copies_of laws v.levels sound.levels

    fit : AreFit v.levels v.misses
    fit = fit-sound laws v sound

    base : Option ℕ → ℕ → LineView
    base mark = without mark copy old

    view-of : (l : ℕ) → line_view levels misses l ≡ with_at (base absent.way.line) w.line (asked w.own (Some absent.way.slot) (base absent.way.line w.line)) l
    view-of l =
        ap (λ levels. line_view levels misses l) levels_are
        ∙ (ap (λ misses. line_view (with_room w.line v.levels) misses l) misses_are
        ∙ view-room w.line l w.own absent.way absent.way.line v.levels v.misses copies (no-way w.line v fit absent.register) absent.room refl)

    leaving : (victim : ℕ) → absent.way.line ≡ Some victim → Leaves w.line victim copy v.levels v.misses
    leaving victim is = leaves w.line victim absent.way v.levels v.misses copies fit absent.copy absent.room is

    fit-base : (mark : Option ℕ) → absent.way.line ≡ mark → (l : ℕ) → IsFit (base mark l)
    fit-base None is = fit
    fit-base (Some victim) is = fit-with_at old victim (gone copy (old victim)) fit (fit-gone copy (old victim) (fit victim) (leaving victim is).register)

    -- the line is not the one that leaves
    same : (mark : Option ℕ) → absent.way.line ≡ mark → base mark w.line ≡ old w.line
    same None is = refl
    same (Some victim) is = ap (λ b. cond b (gone copy (old victim)) (old w.line)) (eqb-turned w.line victim ∙ (leaving victim is).other)

    fit-line : (mark : Option ℕ) → absent.way.line ≡ mark → IsFit (asked w.own (Some absent.way.slot) (base mark w.line))
    fit-line mark is =
        fit-asked w.own absent.way.slot (base mark w.line) (fit-base mark is w.line) (ap (λ (x : LineView). x.slot) (same mark is) ∙ absent.slot) (ap (λ (x : LineView). owned_in x.copy) (same mark is) ∙ ap owned_in absent.copy)

-- the way of a shared line is held
pub sound-shared : CacheLaws → (w : Wish) (v : NodeView) (levels : LevelsView) (misses : MissView) (outbox : List Mail) → IsSound v → IsShared w v →
    levels ≡ held_way w.line v.levels → misses ≡ with_register w.line w.own v.misses → AreSound levels → length outbox ≤ most_mails →
    IsSound (record v { levels = levels; misses = misses; outbox = outbox })
sound-shared laws w v levels misses outbox sound shared levels_are misses_are sound_levels room =
    sound-with laws v levels misses v.wishes v.coming outbox sound sound_levels (fits (slot_of w.line v.levels.second) refl) sound.wishes sound.coming room
  where
    old : ℕ → LineView
    old = line_view v.levels v.misses

    fit : AreFit v.levels v.misses
    fit = fit-sound laws v sound

    copies : AreCopies v.levels
    copies = copies_of laws v.levels sound.levels

    there : is_some (level.copy_of w.line v.levels) ≡ true
    there = ap is_some shared.copy_is

    fits : (slot : Option ℕ) → slot_of w.line v.levels.second ≡ slot → AreFit levels misses
    fits None is = let gone : is_some (slot_of w.line v.levels.second) ≡ false = ap is_some is in let here = held-copy w.line v.levels copies ∙ there in absurd cc
    fits (Some slot) is = λ l.
        let view = ap (λ levels. line_view levels misses l) levels_are ∙ (ap (λ misses. line_view (held_way w.line v.levels) misses l) misses_are ∙ view-held_way w.line slot l w.own v.levels v.misses copies is) in
        let new = fit-asked w.own slot (old w.line) (fit w.line) ((fit w.line).held there) (ap owned_in shared.copy_is ∙ shared.shared) in
        subst IsFit (sym view) (fit-with_at old w.line (asked w.own (Some slot) (old w.line)) fit new l)

-- ---- the protocol sees a wish start

held-shared : (copy : LineCopy) (slot : Option (Option (List ℕ))) → copy.owned ≡ false → may_start true (kept_as (Some copy) slot) ≡ true
held-shared copy slot shared = ap (λ b. may_start true (granted b copy.bytes)) shared

gone-evicted : (copy : LineCopy) (x : LineView) → x.copy ≡ Some copy → x.slot ≡ None → kept (gone copy x) ≡ evicted (kept x)
gone-evicted copy x is none = ap (λ o. kept_as None (cond copy.owned (Some (Some copy.bytes)) o)) none ∙ (by copy.owned ∙ sym (ap (λ o. evicted (kept_as o x.slot)) is))
  where
    by : (owned : Bool) → kept_as None (cond owned (Some (Some copy.bytes)) None) ≡ evicted (granted owned copy.bytes)
    by true = refl
    by false = refl

put-evicted : (copy : LineCopy) (x : LineView) → x.copy ≡ Some copy → cond copy.owned (Put copy.bytes ∷ []) [] ≡ put_back (kept x)
put-evicted copy x is = by copy.owned ∙ sym (ap (λ o. put_back (kept_as o x.slot)) is)
  where
    by : (owned : Bool) → cond owned (Put copy.bytes ∷ []) [] ≡ put_back (granted owned copy.bytes)
    by true = refl
    by false = refl

-- what a node has after a line was asked for, and what it awaits
asked-copies : (base : ℕ → LineView) (own : Bool) (way : Option ℕ) (line l : ℕ) → kept (with_at base line (asked own way (base line)) l) ≡ kept (base l)
asked-copies base own way line l = with_at-map kept base line (asked own way (base line)) l ∙ sym (with_at-same (λ k. kept (base k)) line l)

asked-registers : (base : ℕ → LineView) (own : Bool) (way : Option ℕ) (line l : ℕ) → is_some (with_at base line (asked own way (base line)) l).register ≡ with_at (λ k. is_some (base k).register) line true l
asked-registers base own way line l = with_at-map (λ x. is_some x.register) base line (asked own way (base line)) l

side-absent : (w : Wish) (v : NodeView) (way : Way) → AreCopies v.levels → AreFit v.levels v.misses → register_of v.misses w.line ≡ None → room_for w.line v.levels.second ≡ Some way → way.line ≡ None →
    side_of (asks w.line w.own (evicts w.line (told_of v.levels.copies way.slot None) v)) ≡ asks_for w.line w.own (side_of v)
side-absent w v way copies fit none room is =
    let old = line_view v.levels v.misses in
    let view = λ (l : ℕ). view-room w.line l w.own way None v.levels v.misses copies (no-way w.line v fit none) room is in
    let copy = λ (l : ℕ). ap kept (view l) ∙ asked-copies old w.own (Some way.slot) w.line l in
    let register = λ (l : ℕ). ap (λ (x : LineView). is_some x.register) (view l) ∙ asked-registers old w.own (Some way.slot) w.line l in
    λ i. record { nodes = v.nodes; copies = λ l. copy l i; registers = λ l. register l i; outbox = v.outbox ++ mail v w.line (get w.own) ∷ [] }

side-evicted : (w : Wish) (v : NodeView) (way : Way) (victim : ℕ) → AreCopies v.levels → AreFit v.levels v.misses → register_of v.misses w.line ≡ None → room_for w.line v.levels.second ≡ Some way → way.line ≡ Some victim →
    Leaves w.line victim (copy_at v.levels.copies way.slot) v.levels v.misses →
    side_of (asks w.line w.own (evicts w.line (told_of v.levels.copies way.slot (Some victim)) v)) ≡ asks_for w.line w.own (evicts_line victim (side_of v))
side-evicted w v way victim copies fit none room is left =
    let old = line_view v.levels v.misses in
    let copy = copy_at v.levels.copies way.slot in
    let base = with_at old victim (gone copy (old victim)) in
    let view = λ (l : ℕ). view-room w.line l w.own way (Some victim) v.levels v.misses copies (no-way w.line v fit none) room is in
    let copy_path = λ (l : ℕ).
    ap kept (view l)
    ∙ (asked-copies base w.own (Some way.slot) w.line l
    ∙ (with_at-map kept old victim (gone copy (old victim)) l ∙ ap (λ c. with_at (copy_of v) victim c l) (gone-evicted copy (old victim) left.copy_is left.slotless))) in
    let register = λ (l : ℕ).
    ap (λ (x : LineView). is_some x.register) (view l)
    ∙ (asked-registers base w.own (Some way.slot) w.line l
    ∙ ap (λ b. cond (l == w.line) true b) (with_at-map (λ x. is_some x.register) old victim (gone copy (old victim)) l ∙ sym (with_at-same (awaits v) victim l))) in
    let put = put-evicted copy (old victim) left.copy_is in
    λ i. record { nodes = v.nodes; copies = λ l. copy_path l i; registers = λ l. register l i; outbox = (v.outbox ++ map (mail v victim) (put i)) ++ mail v w.line (get w.own) ∷ [] }

side-shared : (w : Wish) (v : NodeView) (slot : ℕ) → AreCopies v.levels → slot_of w.line v.levels.second ≡ Some slot → side_of (starts_shared w v).after ≡ asks_for w.line w.own (side_of v)
side-shared w v slot copies is =
    let old = line_view v.levels v.misses in
    let view = λ (l : ℕ). view-held_way w.line slot l w.own v.levels v.misses copies is in
    let copy = λ (l : ℕ). ap kept (view l) ∙ asked-copies old w.own (Some slot) w.line l in
    let register = λ (l : ℕ). ap (λ (x : LineView). is_some x.register) (view l) ∙ asked-registers old w.own (Some slot) w.line l in
    λ i. record { nodes = v.nodes; copies = λ l. copy l i; registers = λ l. register l i; outbox = v.outbox ++ mail v w.line (get w.own) ∷ [] }

abbrev Follows : List Wish → NodeView → Begun → Type 0
Follows wishes v begun = Begins wishes (side_of v) (side_of begun.after) begun.lost

follows-absent : (wishes : List Wish) (w : Wish) (v : NodeView) → Contains wishes w → AreCopies v.levels → AreFit v.levels v.misses → (absent : IsAbsent w v) →
    Follows wishes v (starts_absent w (Some (told_of v.levels.copies absent.way.slot absent.way.line)) v)
follows-absent wishes w v among copies fit absent = by absent.way.line refl
  where
    way : Way
    way = absent.way

    may : MayStart w (side_of v)
    may = record {
      copy = ap (may_start w.own) (ap (λ o. kept_as o (victim_of v.misses w.line)) absent.copy ∙ ap (kept_as None) absent.slot);
      register = ap is_some absent.register;
    }

    by : (mark : Option ℕ) → way.line ≡ mark → Follows wishes v (starts_absent w (Some (told_of v.levels.copies way.slot mark)) v)
    by None is = Begins.starts w among may (side-absent w v way copies fit absent.register absent.room is)
    by (Some victim) is =
        let left = leaves w.line victim way v.levels v.misses copies fit absent.copy absent.room is in
        Begins.evicts w victim among may
        (record { other = left.other; held = held-is (level.copy_of victim v.levels) (victim_of v.misses victim) ∙ ap is_some left.copy_is; register = ap is_some left.register })
        (side-evicted w v way victim copies fit absent.register absent.room is left)

follows-shared : (wishes : List Wish) (w : Wish) (v : NodeView) → Contains wishes w → AreCopies v.levels → IsShared w v → Follows wishes v (starts_shared w v)
follows-shared wishes w v among copies shared = by (slot_of w.line v.levels.second) refl
  where
    there : is_some (level.copy_of w.line v.levels) ≡ true
    there = ap is_some shared.copy_is

    may : MayStart w (side_of v)
    may = record {
      copy = ap (λ o. may_start w.own (kept_as o (victim_of v.misses w.line))) shared.copy_is ∙ (ap (λ b. may_start b (kept_as (Some shared.copy) (victim_of v.misses w.line))) shared.own ∙ held-shared shared.copy (victim_of v.misses w.line) shared.shared);
      register = ap is_some shared.register;
    }

    by : (slot : Option ℕ) → slot_of w.line v.levels.second ≡ slot → Follows wishes v (starts_shared w v)
    by None is = let gone : is_some (slot_of w.line v.levels.second) ≡ false = ap is_some is in let here = held-copy w.line v.levels copies ∙ there in absurd cc
    by (Some slot) is = Begins.starts w among may (side-shared w v slot copies is)

pub starts-follow : (wishes : List Wish) (w : Wish) (v : NodeView) → Contains wishes w → AreCopies v.levels → AreFit v.levels v.misses → MayBegin w v → Follows wishes v (starts w v)
starts-follow wishes w v among copies fit may =
    ⊎_elim
    (λ absent. subst (Follows wishes v) (sym (starts-absent w v absent)) (follows-absent wishes w v among copies fit absent))
    (λ shared. subst (Follows wishes v) (sym (starts-shared w v shared)) (follows-shared wishes w v among copies shared))
    (begin-cases w v may)
