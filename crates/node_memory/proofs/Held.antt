-- A line is held exactly where there is a copy of it.
use Rattle.std.proofs.Common.{◌≡◌, ℕ, ◌+◌, ◌<◌, ◌≤◌, nat_lt, Bool, true, false, not, ◌&&◌, ◌||◌, List, length, Option, Some, None, is_some, refl, sym, ap, ◌∙◌, arith}
use Rattle.std.specs.Option.{option_map_or}
use Rattle.std.proofs.lemmas.Bool.{le-ltb}
use Rattle.std.proofs.lemmas.Option.{slice_get-get_or}
use Rattle.cache_sets.specs.Caches.{slot_count, slot_of}
use Rattle.cache_sets.specs.Sound.{IsSound}
use Rattle.cache_levels.specs.Levels as level
use Rattle.cache_levels.specs.Levels.{LevelsView, copy_at, evicted, held, no_copy}
use Rattle.cache_levels.specs.Slots.{copy_in}
use Rattle.cache_levels.specs.Sound.{AreSound}
use Rattle.cache_levels.specs.declared.levels.LineCopy.{LineCopy}
use Rattle.memory_contracts.specs.Protocol.Awaited.{is_leaving}
use Rattle.memory_contracts.specs.Protocol.NodeTable.{granted, is_held}
use Rattle.memory_contracts.specs.Store.{Wish}
use Rattle.miss_registers.specs.Misses.{covers, registers_full, victim_of}
use Rattle.node_memory.specs.Nodes.{NodeView, awaits, copy_of, kept_as, most_mails}
use Rattle.node_memory.specs.Starting.{has_to_wait, is_absent, lacks_way, meets}
use Rattle.node_memory.proofs.Below.{CacheLaws}

-- what is true of the second level, and of all caches
pub record AreCopies (levels : LevelsView) : Type 0 where
  pub laws : CacheLaws
  pub second : IsSound levels.second
  pub copies : length levels.copies ≡ slot_count levels.second

pub copies_of : CacheLaws → (levels : LevelsView) → AreSound levels → AreCopies levels
copies_of laws levels sound = record { laws = laws; second = sound.second; copies = sound.copies }

-- the copy at the slot of a held line
pub copy-held : (line slot : ℕ) (levels : LevelsView) → AreCopies levels → slot_of line levels.second ≡ Some slot → level.copy_of line levels ≡ Some (copy_at levels.copies slot)
copy-held line slot levels sound is =
    let within = (sound.laws.apart levels.second sound.second).within line slot is in
    let below : slot < length levels.copies = omega (arith, within, sound.copies) in
    ap (λ (o : Option ℕ). copy_in levels.copies o) is ∙ slice_get-get_or levels.copies slot no_copy below

pub held-copy : (line : ℕ) (levels : LevelsView) → AreCopies levels → held line levels ≡ is_some (level.copy_of line levels)
held-copy line levels sound = by (slot_of line levels.second) refl
  where
    by : (slot : Option ℕ) → slot_of line levels.second ≡ slot → is_some (slot_of line levels.second) ≡ is_some (level.copy_of line levels)
    by None is = ap is_some is ∙ sym (ap (λ (o : Option ℕ). is_some (copy_in levels.copies o)) is)
    by (Some slot) is = ap is_some is ∙ sym (ap (λ (o : Option LineCopy). is_some o) (copy-held line slot levels sound is))

-- ---- what the calls of lines answer

pub held-is : (copy : Option LineCopy) (slot : Option (Option (List ℕ))) → is_held (kept_as copy slot) ≡ is_some copy
held-is None None = refl
held-is None (Some None) = refl
held-is None (Some (Some bytes)) = refl
held-is (Some copy) slot = by copy.owned
  where
    by : (b : Bool) → is_held (granted b copy.bytes) ≡ true
    by true = refl
    by false = refl

pub leaving-is : (copy : Option LineCopy) (slot : Option (Option (List ℕ))) → is_leaving (kept_as copy slot) ≡ (not (is_some copy) && is_some slot)
leaving-is None None = refl
leaving-is None (Some None) = refl
leaving-is None (Some (Some bytes)) = refl
leaving-is (Some copy) slot = by copy.owned
  where
    by : (b : Bool) → is_leaving (granted b copy.bytes) ≡ false
    by true = refl
    by false = refl

pub absent-is : (copy : Option LineCopy) (slot : Option (Option (List ℕ))) → is_absent (kept_as copy slot) ≡ (not (is_some copy) && not (is_some slot))
absent-is None None = refl
absent-is None (Some None) = refl
absent-is None (Some (Some bytes)) = refl
absent-is (Some copy) slot = by copy.owned
  where
    by : (b : Bool) → is_absent (granted b copy.bytes) ≡ false
    by true = refl
    by false = refl

pub meets-is : (own : Bool) (copy : Option LineCopy) (slot : Option (Option (List ℕ))) → meets own (kept_as copy slot) ≡ (is_some copy && (not own || option_map_or (λ (c : LineCopy). c.owned) copy false))
meets-is own None None = refl
meets-is own None (Some None) = refl
meets-is own None (Some (Some bytes)) = refl
meets-is own (Some copy) slot = by own copy.owned
  where
    by : (own b : Bool) → meets own (granted b copy.bytes) ≡ (not own || b)
    by true true = refl
    by true false = refl
    by false true = refl
    by false false = refl

pub covers-any : (register : Option Bool) → covers register false ≡ is_some register
covers-any None = refl
covers-any (Some true) = refl
covers-any (Some false) = refl

-- ---- a wish for a held line

-- where nothing else hinders it, it need not wait: the line is there
pub waits-not : (w : Wish) (v : NodeView) → is_some (level.copy_of w.line v.levels) ≡ true → length v.outbox + 2 ≤ most_mails → (is_leaving (copy_of v w.line) || awaits v w.line || registers_full v.misses) ≡ false → has_to_wait w v ≡ false
waits-not w v there room free =
    let absent = absent-is (level.copy_of w.line v.levels) (victim_of v.misses w.line) ∙ ap (λ b. not b && not (is_some (victim_of v.misses w.line))) there in
    none (is_leaving (copy_of v w.line)) (awaits v w.line) (registers_full v.misses) (nat_lt most_mails (length v.outbox + 2)) (is_absent (copy_of v w.line)) (lacks_way (evicted w.line v.levels) v.misses) free (le-ltb most_mails (length v.outbox + 2) room) absent
  where
    none : (a b c d e f : Bool) → (a || b || c) ≡ false → d ≡ false → e ≡ false → (a || b || c || d || (e && f)) ≡ false
    none true b c d e f busy full there = absurd cc
    none false true c d e f busy full there = absurd cc
    none false false true d e f busy full there = absurd cc
    none false false false true e f busy full there = absurd cc
    none false false false false true f busy full there = absurd cc
    none false false false false false f busy full there = refl
