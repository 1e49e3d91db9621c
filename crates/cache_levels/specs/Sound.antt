-- What is true of every pair of levels.
use Rattle.std.specs.Prelude.{◌≡◌, ℕ, All, IsTrue, length, None}
use Rattle.rsim_base.specs.Limits.{line_room}
use Rattle.cache_sets.specs.Caches.{slot_count, reserved_slot}
use Rattle.cache_sets.specs.Sound.{IsSound}
use Rattle.cache_levels.specs.Levels.{LevelsView, near, held}
use Rattle.cache_levels.specs.Sizes.{IsLineSize}

pub record AreSound (levels : LevelsView) : Type 0 where
  pub first : IsSound levels.first
  pub second : IsSound levels.second
  pub near_is_held : (line : ℕ) → IsTrue (near line levels) → IsTrue (held line levels)
  -- the first level has no reservations
  pub unreserved : (line : ℕ) → reserved_slot line levels.first ≡ None
  -- each slot of the second level has a copy, with room for the longest line
  pub copies : length levels.copies ≡ slot_count levels.second
  pub bytes : All (λ copy. length copy.bytes ≡ line_room) levels.copies
  pub line_bytes : IsLineSize levels.line_bytes
