-- Two levels of caches. The first has what is near, by tags alone. The second has what is held, and its bytes.
use Rattle.std.specs.Prelude.{ℕ, ◌*◌, ◌/◌, ◌%◌, Bool, false, List, replicate, slice_get, slice_index_or, slice_set, Option, Some, None, option_map, option_and_then, is_some}
use Rattle.std.specs.Option.{option_map_or}
use Rattle.rsim_base.specs.Limits.{line_room}
use Rattle.rsim_base.specs.declared.memory.Size.{Size}
use Rattle.machine_config.specs.declared.config.Config.{Config}
use Rattle.cache_sets.specs.Caches.{CacheView, slot_of, reserved_slot, room_for, told, touched, with_reserved, with_held, filled, dropped, empty_cache}
use Rattle.cache_sets.specs.declared.sets.Reserved.{Reserved}
use Rattle.cache_levels.specs.Bytes.{written_at}
use Rattle.cache_levels.specs.declared.levels.Evicted.{Evicted}
use Rattle.cache_levels.specs.declared.levels.LineCopy.{LineCopy}

pub record LevelsView : Type 0 where
  pub first : CacheView
  pub second : CacheView
  -- by slot of the second level
  pub copies : List LineCopy
  pub line_bytes : ℕ

-- ---- what is there

abbrev pub near : ℕ → LevelsView → Bool
near line levels = is_some (slot_of line levels.first)

abbrev pub held : ℕ → LevelsView → Bool
held line levels = is_some (slot_of line levels.second)

-- the copy of a held line
abbrev pub copy_of : ℕ → LevelsView → Option LineCopy
copy_of line levels = option_and_then (slice_get levels.copies) (slot_of line levels.second)

abbrev pub owned : ℕ → LevelsView → Bool
owned line levels = option_map_or (λ copy. copy.owned) (copy_of line levels) false

-- ---- one level

-- a line that is there is the most recent of its set
abbrev pub touched_line : ℕ → CacheView → CacheView
touched_line line cache = option_map_or (λ slot. touched slot cache) (slot_of line cache) cache

-- the line takes the first empty way of its set, else the least recent one, and is the most recent
abbrev pub with_new : ℕ → CacheView → CacheView
with_new line cache = option_map_or (λ way. filled way.slot line (with_reserved line cache)) (room_for line cache) cache

-- the line is there, and the most recent of its set
abbrev pub with_line : ℕ → CacheView → CacheView
with_line line cache = option_map_or (λ slot. touched slot cache) (slot_of line cache) (with_new line cache)

-- ---- copies

abbrev pub no_bytes : List ℕ
no_bytes = replicate line_room 0

abbrev pub no_copy : LineCopy
no_copy = record { owned = false; bytes = no_bytes }

abbrev pub copy_at : List LineCopy → ℕ → LineCopy
copy_at copies slot = slice_index_or copies slot no_copy

-- the copy of a held line is changed
abbrev pub on_copy : ℕ → (LineCopy → LineCopy) → LevelsView → LevelsView
on_copy line change levels = record levels {
  copies = option_map_or (λ slot. slice_set levels.copies slot (change (copy_at levels.copies slot))) (slot_of line levels.second) levels.copies;
}

-- ---- the calls

abbrev pub brought : ℕ → LevelsView → LevelsView
brought line levels = record levels { first = with_line line levels.first; second = touched_line line levels.second }

abbrev pub touched_levels : ℕ → LevelsView → LevelsView
touched_levels line levels = record levels { first = touched_line line levels.first; second = touched_line line levels.second }

abbrev pub shared : ℕ → LevelsView → LevelsView
shared line levels = on_copy line (λ copy. record copy { owned = false }) levels

abbrev pub lost : ℕ → LevelsView → LevelsView
lost line levels = record levels { first = dropped line levels.first; second = dropped line levels.second }

abbrev pub held_way : ℕ → LevelsView → LevelsView
held_way line levels = record levels { second = with_held line levels.second }

-- The line that a way held leaves both levels, and the way is reserved for the line. Nothing changes where all ways of
-- its set are reserved.
abbrev pub without_victim : Option ℕ → CacheView → CacheView
without_victim victim first = option_map_or (λ line. dropped line first) victim first

abbrev pub with_room : ℕ → LevelsView → LevelsView
with_room line levels =
    option_map_or (λ way. record levels { first = without_victim way.line levels.first; second = with_reserved line levels.second })
    (room_for line levels.second) levels

-- what is told of the line that leaves
abbrev pub nothing_evicted : Evicted
nothing_evicted = record { line = None; owned = false; bytes = no_bytes }

abbrev pub evicted_as : List LineCopy → Reserved → Evicted
evicted_as copies room =
    option_map_or (λ line. record { line = Some line; owned = (copy_at copies room.slot).owned; bytes = (copy_at copies room.slot).bytes })
    room.victim nothing_evicted

abbrev pub evicted : ℕ → LevelsView → Option Evicted
evicted line levels = option_map (λ way. evicted_as levels.copies (told way)) (room_for line levels.second)

-- the line is held with these bytes in the way that is reserved for it, and near
abbrev pub filled_line : ℕ → Bool → List ℕ → LevelsView → LevelsView
filled_line line is_owned bytes levels =
    option_map_or
    (λ slot. record levels {
      first = with_line line levels.first;
      second = filled slot line levels.second;
      copies = slice_set levels.copies slot (record { owned = is_owned; bytes = bytes });
    })
    (reserved_slot line levels.second) levels

-- the bytes of the line at an address are those of the value
abbrev pub written : ℕ → Size → ℕ → LevelsView → LevelsView
written addr n value levels = on_copy (addr / levels.line_bytes) (λ copy. record copy { bytes = written_at (addr % levels.line_bytes) n value copy.bytes }) levels

-- ---- at first

abbrev pub empty_levels : Config → LevelsView
empty_levels config = record {
  first = empty_cache config.l1_sets config.l1_ways;
  second = empty_cache config.l2_sets config.l2_ways;
  copies = replicate (config.l2_sets * config.l2_ways) no_copy;
  line_bytes = config.line;
}
