-- A cache: sets of ways. A line may stand in one set only, that of its number modulo their count.
use Rattle.std.specs.Prelude.{ℕ, ◌*◌, ◌/◌, ◌%◌, List, [], length, map, slice_index_or, slice_set, Option, None, option_map}
use Rattle.std.specs.List.{range_with_len}
use Rattle.rsim_base.specs.declared.memory.Line.{Line}
use Rattle.cache_sets.specs.Ways.{Way, slot_in, reserved_in, room_in, touched_in, reserve_in, hold_in, fill_in, drop_in}
use Rattle.cache_sets.specs.declared.sets.Reserved.{Reserved}

-- Each set is the list of its ways, the most recently used first. Slot k of set s is s × ways + k.
pub record CacheView : Type 0 where
  pub ways : ℕ
  pub sets : List (List Way)

-- ---- what a cache has

abbrev pub slot_count : CacheView → ℕ
slot_count cache = length cache.sets * cache.ways

-- the set that a line may stand in
abbrev pub home_of : ℕ → CacheView → ℕ
home_of line cache = line % length cache.sets

abbrev pub set_at : ℕ → CacheView → List Way
set_at set cache = slice_index_or cache.sets set []

abbrev pub set_of : ℕ → CacheView → List Way
set_of line cache = set_at (home_of line cache) cache

-- the slot of the way that holds the line
abbrev pub slot_of : ℕ → CacheView → Option ℕ
slot_of line cache = slot_in line (set_of line cache)

-- the slot of the way that is reserved for the line
abbrev pub reserved_slot : ℕ → CacheView → Option ℕ
reserved_slot line cache = reserved_in line (set_of line cache)

-- the way for a line that is to come
abbrev pub room_for : ℕ → CacheView → Option Way
room_for line cache = room_in (set_of line cache)

-- what is said of a way that was reserved: its slot, and the line that it held
abbrev pub told : Way → Reserved
told way = record { slot = way.slot; victim = option_map (λ line. let l : Line = record { 0 = line } in l) way.line }

-- ---- how a cache changes

-- one set is changed, and every other stays
abbrev pub in_set : ℕ → (List Way → List Way) → CacheView → CacheView
in_set set change cache = record cache { sets = slice_set cache.sets set (change (set_at set cache)) }

-- the set of the line is changed
abbrev pub on_set : ℕ → (List Way → List Way) → CacheView → CacheView
on_set line change cache = in_set (home_of line cache) change cache

-- the way with this slot is the most recent of its set
abbrev pub touched : ℕ → CacheView → CacheView
touched slot cache = in_set (slot / cache.ways) (touched_in slot) cache

-- a way is empty and reserved for the line; nothing changes where all ways of its set are reserved
abbrev pub with_reserved : ℕ → CacheView → CacheView
with_reserved line cache = on_set line (reserve_in line) cache

-- the way that holds the line is reserved for it
abbrev pub with_held : ℕ → CacheView → CacheView
with_held line cache = on_set line (hold_in line) cache

-- the way with this slot holds the line, is no longer reserved, and is the most recent of its set
abbrev pub filled : ℕ → ℕ → CacheView → CacheView
filled slot line cache = on_set line (fill_in slot line) cache

-- the way that held the line is empty; nothing changes where there was none
abbrev pub dropped : ℕ → CacheView → CacheView
dropped line cache = on_set line (drop_in line) cache

-- ---- at first

abbrev pub empty_way : ℕ → Way
empty_way slot = record { slot = slot; line = None; reserved = None }

-- every way is empty and not reserved, in the order of the slots
abbrev pub empty_cache : ℕ → ℕ → CacheView
empty_cache sets ways = record {
  ways = ways;
  sets = map (λ set. map empty_way (range_with_len (set * ways) ways)) (range_with_len 0 sets);
}
