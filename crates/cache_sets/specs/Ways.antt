-- One set of a cache: its ways, the most recently used first.
use Rattle.std.specs.Prelude.{ℕ, ◌==◌, Bool, false, not, ◌&&◌, if◌then◌else◌, List, ◌++◌, map, filter, find, reverse, Option, Some, None, option_map, is_none}
use Rattle.std.specs.Option.{option_or}

-- a way: its slot, the line that it holds, if any, and the line that it is reserved for, if any
pub record Way : Type 0 where
  pub slot : ℕ
  pub line : Option ℕ
  pub reserved : Option ℕ

-- ---- one way

-- a mark of a way is this line
abbrev pub names : ℕ → Option ℕ → Bool
names line None = false
names line (Some marked) = marked == line

abbrev pub has_slot : ℕ → Way → Bool
has_slot slot way = way.slot == slot

abbrev pub holds : ℕ → Way → Bool
holds line way = names line way.line

abbrev pub is_reserved_for : ℕ → Way → Bool
is_reserved_for line way = names line way.reserved

abbrev pub is_unreserved : Way → Bool
is_unreserved way = is_none way.reserved

-- empty and not reserved
abbrev pub is_free : Way → Bool
is_free way = is_none way.line && is_none way.reserved

-- empty, and reserved for the line
abbrev pub reserved_for : ℕ → Way → Way
reserved_for line way = record way { line = None; reserved = Some line }

-- reserved for the line, and holding what it holds
abbrev pub held_for : ℕ → Way → Way
held_for line way = record way { reserved = Some line }

-- holding the line, and no longer reserved
abbrev pub filled_with : ℕ → Way → Way
filled_with line way = record way { line = Some line; reserved = None }

-- empty, and reserved as it is
abbrev pub emptied : Way → Way
emptied way = record way { line = None }

-- ---- what a set has

-- the slot of the way that holds the line
abbrev pub slot_in : ℕ → List Way → Option ℕ
slot_in line set = option_map (λ way. way.slot) (find (holds line) set)

-- the slot of the way that is reserved for the line
abbrev pub reserved_in : ℕ → List Way → Option ℕ
reserved_in line set = option_map (λ way. way.slot) (find (is_reserved_for line) set)

-- the way for a new line: the first that is empty and not reserved, else the least recently used one that is not reserved
abbrev pub room_in : List Way → Option Way
room_in set = option_or (find is_free set) (find is_unreserved (reverse set))

-- ---- how a set changes

-- the way with this slot is changed, if there is one
abbrev pub changed_at : Option ℕ → (Way → Way) → List Way → List Way
changed_at None change set = set
changed_at (Some slot) change set = map (λ way. if way.slot == slot then change way else way) set

-- the way with this slot first, and the others behind it in their order
abbrev pub touched_in : ℕ → List Way → List Way
touched_in slot set = filter (has_slot slot) set ++ filter (λ way. not (has_slot slot way)) set

abbrev pub reserve_in : ℕ → List Way → List Way
reserve_in line set = changed_at (option_map (λ way. way.slot) (room_in set)) (reserved_for line) set

abbrev pub hold_in : ℕ → List Way → List Way
hold_in line set = changed_at (slot_in line set) (held_for line) set

abbrev pub fill_in : ℕ → ℕ → List Way → List Way
fill_in slot line set = touched_in slot (changed_at (Some slot) (filled_with line) set)

abbrev pub drop_in : ℕ → List Way → List Way
drop_in line set = changed_at (slot_in line set) emptied set
