-- How a cache is kept: by slot the line that a way holds and the line that it is reserved for, and by set the slots
-- of its ways, the most recently used first.
use Rattle.std.specs.Prelude.{◌≡◌, ℕ, ◌*◌, ◌^◌, ◌==◌, ◌<◌, not, List, ◌++◌, length, map, filter, take, drop, slice_index_or, Option, None, option_map}
use Rattle.std.specs.List.{range_with_len}
use Rattle.rsim_base.specs.declared.memory.Line.{Line}
use Rattle.cache_sets.specs.Ways.{Way}
use Rattle.cache_sets.specs.Caches.{CacheView}
use Rattle.cache_sets.specs.Sound.{IsSound}

-- the numbers of lines
abbrev pub number_of : Option Line → Option ℕ
number_of line = option_map (λ (l : Line). l.0) line

abbrev pub numbers_of : List (Option Line) → List (Option ℕ)
numbers_of lines = map number_of lines

-- the line that a slot is marked with
abbrev pub mark_at : List (Option Line) → ℕ → Option ℕ
mark_at marks slot = slice_index_or (numbers_of marks) slot None

-- the way with this slot
abbrev pub way_at : List (Option Line) → List (Option Line) → ℕ → Way
way_at lines reserved slot = record { slot = slot; line = mark_at lines slot; reserved = mark_at reserved slot }

-- the slots of a set, by recency
abbrev pub slots_of : ℕ → List ℕ → ℕ → List ℕ
slots_of ways recency set = take ways (drop (set * ways) recency)

abbrev pub sets_by : (ℕ → Way) → ℕ → ℕ → List ℕ → List (List Way)
sets_by way sets ways recency = map (λ set. map way (slots_of ways recency set)) (range_with_len 0 sets)

-- this slot first
abbrev pub slot_first : ℕ → List ℕ → List ℕ
slot_first slot slots = filter (λ s. s == slot) slots ++ filter (λ s. not (s == slot)) slots

abbrev pub view_of : ℕ → ℕ → List (Option Line) → List (Option Line) → List ℕ → CacheView
view_of sets ways lines reserved recency = record { ways = ways; sets = sets_by (way_at lines reserved) sets ways recency }

pub record IsKept (sets ways : ℕ) (lines reserved : List (Option Line)) (recency : List ℕ) : Type 0 where
  pub small : sets * ways < 2 ^ 32
  pub lines_count : length lines ≡ sets * ways
  pub reserved_count : length reserved ≡ sets * ways
  pub recency_count : length recency ≡ sets * ways
  pub sound : IsSound (view_of sets ways lines reserved recency)
