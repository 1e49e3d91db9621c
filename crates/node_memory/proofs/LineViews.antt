-- What a node has of one line, and how a message changes it.
use Rattle.std.proofs.Common.{◌≡◌, ◌≢◌, ℕ, ◌==◌, Bool, true, false, cond, List, Option, Some, None, option_map, refl, ap, ◌∙◌}
use Rattle.std.proofs.lemmas.Bool.{eqb-true}
use Rattle.cache_sets.specs.Caches.{reserved_slot}
use Rattle.cache_levels.specs.Levels as level
use Rattle.cache_levels.specs.Levels.{LevelsView, filled_line, lost, shared, with_line}
use Rattle.cache_levels.specs.Sound.{AreSound}
use Rattle.cache_levels.specs.declared.levels.LineCopy.{LineCopy}
use Rattle.cache_levels.specs.Slots.{fill_slot}
use Rattle.memory_contracts.specs.Protocol.Lines.{Copy}
use Rattle.memory_contracts.specs.Updates.{with_at}
use Rattle.miss_registers.specs.Misses.{MissView, register_of, victim_of}
use Rattle.miss_registers.specs.OneLine.{register_of-without_register, victim_of-with_emptied, victim_of-without_victim}
use Rattle.node_memory.specs.Nodes.{kept_as}
use Rattle.node_memory.specs.Rows.{Allows, levels_after, misses_after}
use Rattle.node_memory.specs.declared.table.Change.{Change}
use Rattle.node_memory.specs.declared.table.Change.TheVariants.{Nothing, Lose, Share, Fill, EmptySlot, FreeSlot}
use Rattle.node_memory.proofs.Below.{CacheLaws}

-- its copy in the caches, its victim slot, whether its register asks to own it, and the way that is reserved for it
pub record LineView : Type 0 where
  pub copy : Option LineCopy
  pub slot : Option (Option (List ℕ))
  pub register : Option Bool
  pub way : Option ℕ

abbrev pub line_view : LevelsView → MissView → ℕ → LineView
line_view levels misses line = record {
  copy = level.copy_of line levels;
  slot = victim_of misses line;
  register = register_of misses line;
  way = reserved_slot line levels.second;
}

abbrev pub kept : LineView → Copy
kept x = kept_as x.copy x.slot

-- ---- one line changes, and no other

pub with_at-map : {A B : Type 0} (g : A → B) (f : ℕ → A) (line : ℕ) (x : A) (l : ℕ) → g (with_at f line x l) ≡ with_at (λ k. g (f k)) line (g x) l
with_at-map g f line x l = by (l == line)
  where
    by : (b : Bool) → g (cond b x (f l)) ≡ cond b (g x) (g (f l))
    by true = refl
    by false = refl

-- what no line changes
pub with_at-same : {A : Type 0} (f : ℕ → A) (line l : ℕ) → f l ≡ with_at f line (f line) l
with_at-same f line l = by (l == line) refl
  where
    by : (b : Bool) → (l == line) ≡ b → f l ≡ cond b (f line) (f l)
    by true e = ap f (eqb-true l line e)
    by false e = refl

pub view-with_at : (old : ℕ → LineView) (line : ℕ) (new given : LineView) (l : ℕ) →
    given.copy ≡ with_at (λ k. (old k).copy) line new.copy l → given.slot ≡ with_at (λ k. (old k).slot) line new.slot l →
    given.register ≡ with_at (λ k. (old k).register) line new.register l → given.way ≡ with_at (λ k. (old k).way) line new.way l → given ≡ with_at old line new l
view-with_at old line new given l copy slot register way = (λ i. record { copy = copy i; slot = slot i; register = register i; way = way i }) ∙ by (l == line)
  where
    by : (b : Bool) → record { copy = cond b new.copy (old l).copy; slot = cond b new.slot (old l).slot; register = cond b new.register (old l).register; way = cond b new.way (old l).way } ≡ cond b new (old l)
    by true = refl
    by false = refl

-- ---- a message

abbrev pub unowned : LineCopy → LineCopy
unowned copy = record copy { owned = false }

abbrev pub changed : Change → LineView → LineView
changed Lose x = record x { copy = None }
changed Share x = record x { copy = option_map unowned x.copy }
changed (Fill own bytes) x = record x { copy = Some (record { owned = own; bytes = bytes }); register = None; way = None }
changed EmptySlot x = record x { slot = option_map (λ slot. None) x.slot }
changed FreeSlot x = record x { slot = None }
changed change x = x

filled-way : CacheLaws → (line l : ℕ) (own : Bool) (bytes : List ℕ) (levels : LevelsView) → AreSound levels → reserved_slot line levels.second ≢ None → reserved_slot l (filled_line line own bytes levels).second ≡ with_at (λ k. reserved_slot k levels.second) line None l
filled-way laws line l own bytes levels sound some = by (reserved_slot line levels.second) refl
  where
    by : (way : Option ℕ) → reserved_slot line levels.second ≡ way → reserved_slot l (filled_line line own bytes levels).second ≡ with_at (λ k. reserved_slot k levels.second) line None l
    by None e = absurd (some e)
    by (Some slot) e = ap (λ o. reserved_slot l (fill_slot line own bytes levels o).second) e ∙ (laws.fill slot line levels.second sound.second e).reserved l

pub view-changed : CacheLaws → (change : Change) (line l : ℕ) (levels : LevelsView) (misses : MissView) → AreSound levels → Allows change line levels →
    line_view (levels_after change line levels) (misses_after change line misses) l ≡ with_at (line_view levels misses) line (changed change (line_view levels misses line)) l
view-changed laws Nothing line l levels misses sound allowed = with_at-same (line_view levels misses) line l
view-changed laws Lose line l levels misses sound allowed =
    let old = line_view levels misses in
    view-with_at old line (changed Lose (old line)) (line_view (lost line levels) misses l) l (laws.lost line levels sound l) (with_at-same (λ k. (old k).slot) line l) (with_at-same (λ k. (old k).register) line l)
    ((laws.drop line levels.second sound.second).reserved l ∙ with_at-same (λ k. (old k).way) line l)
view-changed laws Share line l levels misses sound allowed =
    let old = line_view levels misses in
    view-with_at old line (changed Share (old line)) (line_view (shared line levels) misses l) l (laws.changed line unowned levels sound l) (with_at-same (λ k. (old k).slot) line l) (with_at-same (λ k. (old k).register) line l) (with_at-same (λ k. (old k).way) line l)
view-changed laws (Fill own bytes) line l levels misses sound allowed =
    let old = line_view levels misses in
    view-with_at old line (changed (Fill own bytes) (old line)) (line_view (filled_line line own bytes levels) (misses_after (Fill own bytes) line misses) l) l
    (laws.filled line own bytes levels sound allowed l) (with_at-same (λ k. (old k).slot) line l)
    (register_of-without_register line misses l) (filled-way laws line l own bytes levels sound allowed)
view-changed laws EmptySlot line l levels misses sound allowed =
    let old = line_view levels misses in
    view-with_at old line (changed EmptySlot (old line)) (line_view levels (misses_after EmptySlot line misses) l) l (with_at-same (λ k. (old k).copy) line l) (victim_of-with_emptied line misses l) (with_at-same (λ k. (old k).register) line l) (with_at-same (λ k. (old k).way) line l)
view-changed laws FreeSlot line l levels misses sound allowed =
    let old = line_view levels misses in
    view-with_at old line (changed FreeSlot (old line)) (line_view levels (misses_after FreeSlot line misses) l) l (with_at-same (λ k. (old k).copy) line l) (victim_of-without_victim line misses l) (with_at-same (λ k. (old k).register) line l) (with_at-same (λ k. (old k).way) line l)
