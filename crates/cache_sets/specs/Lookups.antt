-- What a change of a cache does to look-ups: by line, the slot of the way that holds it, and that of the way that is
-- reserved for it.
use Rattle.std.specs.Prelude.{◌≡◌, ℕ, Bool, false, ◌==◌, ◌<◌, if◌then◌else◌, Option, Some, None, option_map}
use Rattle.std.specs.Option.{option_map_or}
use Rattle.cache_sets.specs.Ways.{Way, holds}
use Rattle.cache_sets.specs.Caches.{CacheView, slot_of, reserved_slot, slot_count, room_for, touched, with_reserved, with_held, filled, dropped}
use Rattle.cache_sets.specs.Sound.{IsSound}

-- each line has these slots, the one that holds it and the one that is reserved for it
pub record LooksUp (cache : CacheView) (slots marks : ℕ → Option ℕ) : Type 0 where
  pub slot : (line : ℕ) → slot_of line cache ≡ slots line
  pub reserved : (line : ℕ) → reserved_slot line cache ≡ marks line

-- one line has another slot
abbrev pub with_slot : ℕ → Option ℕ → (ℕ → Option ℕ) → ℕ → Option ℕ
with_slot line slot slots l = if l == line then slot else slots l

-- the line leaves its way for another
abbrev pub is_victim : ℕ → Option Way → Bool
is_victim line room = option_map_or (holds line) room false

abbrev pub without_victim : Option Way → (ℕ → Option ℕ) → ℕ → Option ℕ
without_victim room slots l = if is_victim l room then None else slots l

-- ---- by call

abbrev pub LooksUpAsBefore : CacheView → CacheView → Type 0
LooksUpAsBefore old new = LooksUp new (λ l. slot_of l old) (λ l. reserved_slot l old)

abbrev pub LooksUpReserved : ℕ → CacheView → CacheView → Type 0
LooksUpReserved line old new =
    LooksUp new (without_victim (room_for line old) (λ l. slot_of l old))
    (with_slot line (option_map (λ way. way.slot) (room_for line old)) (λ l. reserved_slot l old))

abbrev pub LooksUpHeld : ℕ → CacheView → CacheView → Type 0
LooksUpHeld line old new = LooksUp new (λ l. slot_of l old) (with_slot line (slot_of line old) (λ l. reserved_slot l old))

abbrev pub LooksUpFilled : ℕ → ℕ → CacheView → CacheView → Type 0
LooksUpFilled slot line old new = LooksUp new (with_slot line (Some slot) (λ l. slot_of l old)) (with_slot line None (λ l. reserved_slot l old))

abbrev pub LooksUpDropped : ℕ → CacheView → CacheView → Type 0
LooksUpDropped line old new = LooksUp new (with_slot line None (λ l. slot_of l old)) (λ l. reserved_slot l old)

-- ---- the laws

abbrev pub TouchLooksUp : Type 0
TouchLooksUp = (slot : ℕ) (cache : CacheView) → IsSound cache → slot < slot_count cache → LooksUpAsBefore cache (touched slot cache)

abbrev pub ReserveLooksUp : Type 0
ReserveLooksUp = (line : ℕ) (cache : CacheView) → IsSound cache → reserved_slot line cache ≡ None → LooksUpReserved line cache (with_reserved line cache)

abbrev pub HoldLooksUp : Type 0
HoldLooksUp = (line slot : ℕ) (cache : CacheView) → IsSound cache → slot_of line cache ≡ Some slot → LooksUpHeld line cache (with_held line cache)

abbrev pub FillLooksUp : Type 0
FillLooksUp = (slot line : ℕ) (cache : CacheView) → IsSound cache → reserved_slot line cache ≡ Some slot → LooksUpFilled slot line cache (filled slot line cache)

abbrev pub DropLooksUp : Type 0
DropLooksUp = (line : ℕ) (cache : CacheView) → IsSound cache → LooksUpDropped line cache (dropped line cache)
