-- What is true of every cache.
use Rattle.std.specs.Prelude.{◌≡◌, ℕ, ◌+◌, ◌*◌, ◌%◌, ◌==◌, ◌<◌, ◌≤◌, Bool, false, not, ◌&&◌, ◌||◌, nat_le, nat_lt, if◌then◌else◌, List, length, count_by, Option, Some, None}
use Rattle.cache_sets.specs.Ways.{Way, has_slot, holds, is_reserved_for}
use Rattle.cache_sets.specs.Caches.{CacheView, set_at}

-- the slot is one of this set
abbrev pub is_slot_of : ℕ → ℕ → ℕ → Bool
is_slot_of ways set slot = nat_le (set * ways) slot && nat_lt slot (set * ways + ways)

-- the way has to do with the line: it holds it or is reserved for it
abbrev pub concerns : ℕ → Way → Bool
concerns line way = holds line way || is_reserved_for line way

-- two marks of a way name two lines
abbrev pub are_apart : Option ℕ → Option ℕ → Bool
are_apart None reserved = false
are_apart (Some line) None = false
are_apart (Some line) (Some reserved) = not (line == reserved)

-- the way holds one line and is reserved for another
abbrev pub is_torn : Way → Bool
is_torn way = are_apart way.line way.reserved

-- set number `set` of so many sets
pub record IsSoundSet (sets ways set : ℕ) (members : List Way) : Type 0 where
  -- it has so many ways, and each of its slots once, and no other
  pub count : length members ≡ ways
  pub slots : (slot : ℕ) → count_by (has_slot slot) members ≡ (if is_slot_of ways set slot then 1 else 0)
  -- at most one way holds a line or is reserved for it, and only in the line's own set
  pub own : (line : ℕ) → count_by (concerns line) members ≤ (if line % sets == set then 1 else 0)
  -- no way holds one line and is reserved for another
  pub whole : count_by is_torn members ≡ 0

pub record IsSound (cache : CacheView) : Type 0 where
  pub some : 0 < length cache.sets
  pub each : (set : ℕ) → set < length cache.sets → IsSoundSet (length cache.sets) cache.ways set (set_at set cache)
