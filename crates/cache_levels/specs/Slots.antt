-- The levels by the slot that a look-up told: cases of a look-up are cases of these.
use Rattle.std.specs.Prelude.{ℕ, Bool, List, slice_get, slice_set, Option, option_and_then}
use Rattle.std.specs.Option.{option_map_or}
use Rattle.cache_sets.specs.Ways.{Way}
use Rattle.cache_sets.specs.Caches.{filled, with_reserved}
use Rattle.cache_levels.specs.declared.levels.LineCopy.{LineCopy}
use Rattle.cache_levels.specs.Levels.{LevelsView, with_line, without_victim}

-- the copy at a slot
abbrev pub copy_in : List LineCopy → Option ℕ → Option LineCopy
copy_in copies slot = option_and_then (slice_get copies) slot

-- the levels after a fill, by the slot that is reserved
abbrev pub fill_slot : ℕ → Bool → List ℕ → LevelsView → Option ℕ → LevelsView
fill_slot line is_owned bytes levels slot =
    option_map_or
    (λ s. record levels {
      first = with_line line levels.first;
      second = filled s line levels.second;
      copies = slice_set levels.copies s (record { owned = is_owned; bytes = bytes });
    })
    slot levels

-- the levels after a way was reserved, by the way
abbrev pub room_at : ℕ → LevelsView → Option Way → LevelsView
room_at line levels room =
    option_map_or (λ way. record levels { first = without_victim way.line levels.first; second = with_reserved line levels.second }) room levels
