-- What each call does to the copies of lines, line by line.
use Rattle.std.specs.Prelude.{◌≡◌, ◌≢◌, ℕ, ◌+◌, ◌==◌, ◌<◌, ◌≤◌, Bool, if◌then◌else◌, List, length, slice_index, Option, Some, None, option_map, IsTrue}
use Rattle.rsim_base.specs.Bytes.{count_of, byte_of}
use Rattle.rsim_base.specs.declared.memory.Size.{Size}
use Rattle.cache_sets.specs.Caches.{reserved_slot, room_for}
use Rattle.cache_sets.specs.Lookups.{is_victim}
use Rattle.cache_levels.specs.declared.levels.LineCopy.{LineCopy}
use Rattle.cache_levels.specs.Bytes.{written_at}
use Rattle.cache_levels.specs.Levels.{LevelsView, copy_of, held, brought, touched_levels, lost, held_way, with_room, filled_line, on_copy}
use Rattle.cache_levels.specs.Sound.{AreSound}

-- one line has another copy
abbrev pub with_copy : ℕ → Option LineCopy → (ℕ → Option LineCopy) → ℕ → Option LineCopy
with_copy line copy copies l = if l == line then copy else copies l

-- every line has these copies
abbrev pub HasCopies : LevelsView → (ℕ → Option LineCopy) → Type 0
HasCopies levels copies = (l : ℕ) → copy_of l levels ≡ copies l

abbrev pub CopiesStay : LevelsView → LevelsView → Type 0
CopiesStay old new = HasCopies new (λ l. copy_of l old)

-- a line that is filled has its bytes, and no other line's copy changes
abbrev pub FillCopies : Type 0
FillCopies = (line : ℕ) (is_owned : Bool) (bytes : List ℕ) (levels : LevelsView) → AreSound levels → reserved_slot line levels.second ≢ None →
    HasCopies (filled_line line is_owned bytes levels) (with_copy line (Some (record { owned = is_owned; bytes = bytes })) (λ l. copy_of l levels))

-- a change of one line's copy changes no other's: that of a line which is shared, or written
abbrev pub ChangeCopies : Type 0
ChangeCopies = (line : ℕ) (change : LineCopy → LineCopy) (levels : LevelsView) → AreSound levels →
    HasCopies (on_copy line change levels) (with_copy line (option_map change (copy_of line levels)) (λ l. copy_of l levels))

abbrev pub LoseCopies : Type 0
LoseCopies = (line : ℕ) (levels : LevelsView) → AreSound levels → HasCopies (lost line levels) (with_copy line None (λ l. copy_of l levels))

-- the line that leaves has no copy, and no other's changes
abbrev pub RoomCopies : Type 0
RoomCopies = (line : ℕ) (levels : LevelsView) → AreSound levels → reserved_slot line levels.second ≡ None →
    HasCopies (with_room line levels) (λ l. if is_victim l (room_for line levels.second) then None else copy_of l levels)

abbrev pub OthersStay : Type 0
OthersStay = (line : ℕ) (levels : LevelsView) → AreSound levels → IsTrue (held line levels) →
    CopiesStay levels (brought line levels) × CopiesStay levels (touched_levels line levels) × CopiesStay levels (held_way line levels)

-- a byte that is written reads back, and every other is as it was
abbrev pub WriteReadsBack : Type 0
WriteReadsBack = (at : ℕ) (n : Size) (value : ℕ) (bytes : List ℕ) → at + count_of n ≤ length bytes →
    ((b : ℕ) → b < count_of n → slice_index (written_at at n value bytes) (at + b) ≡ byte_of value (count_of n) b)
    × ((k : ℕ) → k < at → slice_index (written_at at n value bytes) k ≡ slice_index bytes k)
    × ((k : ℕ) → at + count_of n ≤ k → slice_index (written_at at n value bytes) k ≡ slice_index bytes k)
