-- The parts of a flat store: the doublewords of memory, the node that has each line, and the wishes of each node.
use Rattle.std.specs.Prelude.{◌≡◌, ℕ, ◌+◌, ◌-◌, ◌≤◌, ◌<◌, ◌^◌, ◌/◌, ◌%◌, ◌&&◌, nat_eq, nat_le, nat_lt, Bool, true, List, [], map, length, slice_index_or, Option, None, is_some, unwrap_or, if◌then◌else◌}
use Rattle.std.specs.HashMap.{get}
use Rattle.std.specs.List.{All}
use Rattle.arrayvec.specs.ArrayVec.{ArrayVec}
use Rattle.rsim_base.specs.Bytes.{byte_of, count_of}
use Rattle.rsim_base.specs.declared.memory.Size.{Size}
use Rattle.rsim_base.specs.declared.memory.Line.{Line}
use Rattle.rsim_base.specs.declared.memory.Node.{Node}
use Rattle.elf64_load.specs.Image.{ImageView, byte_at}
use Rattle.memory_contracts.specs.Flat.{Moves, first_moves, turns}
use Rattle.memory_contracts.specs.Store.{Wish, most_wishes}
use Rattle.memory_contracts.specs.declared.memory.Memory.{Memory}
use Rattle.memory_contracts.specs.declared.owners.Owners.{Owners}
use Rattle.memory_contracts.specs.declared.wishes.Wanted.{Wanted}
use Rattle.memory_contracts.specs.declared.wishes.Wishes.{Wishes}

-- ---- memory

-- whether the doubleword of this number is kept: its first address is 8 times the number
abbrev pub has_doubleword : Memory → ℕ → Bool
has_doubleword memory number = is_some (get nat_eq memory.doublewords number)

-- the doubleword: 0 where it is not kept
abbrev pub doubleword_in : Memory → ℕ → ℕ
doubleword_in memory number = unwrap_or (get nat_eq memory.doublewords number) 0

-- the byte at a, where doublewords are these
abbrev pub byte_of_all : (ℕ → ℕ) → ℕ → ℕ
byte_of_all doublewords a = byte_of (doublewords (a / 8)) 8 (a % 8)

abbrev pub byte_in : Memory → ℕ → ℕ
byte_in memory = byte_of_all (doubleword_in memory)

-- a doubleword with the n bytes of a value from place `at` on
abbrev pub IsPutInto : ℕ → ℕ → Size → ℕ → ℕ → Type 0
IsPutInto old at n value new =
    (j : ℕ) → j < 8 → byte_of new 8 j ≡ (if nat_le at j && nat_lt j (at + count_of n) then byte_of value (count_of n) (j - at) else byte_of old 8 j)

-- ---- who has each line

-- whether the line can be given to a node
abbrev pub has_line : Owners → ℕ → Bool
has_line owners line = is_some (get nat_eq owners.lines line)

-- the node that has it
abbrev pub owner_in : Owners → ℕ → Option Node
owner_in owners line = unwrap_or (get nat_eq owners.lines line) None

-- ---- wishes

abbrev pub no_wishes : ArrayVec Wanted
no_wishes = record { items = [] }

-- the wishes of node p, the oldest first
abbrev pub wanted_in : Wishes → ℕ → List Wanted
wanted_in wishes p = (slice_index_or wishes.lists.items p no_wishes).items

-- a wish as it is seen from outside
abbrev pub wish_of : Wanted → Wish
wish_of wanted = record { line = wanted.line.0; own = wanted.own }

abbrev pub wishes_of : List Wanted → List Wish
wishes_of wanted = map wish_of wanted

abbrev pub wishes_in : Wishes → ℕ → List Wish
wishes_in wishes p = wishes_of (wanted_in wishes p)

abbrev pub nodes_in : Wishes → ℕ
nodes_in wishes = length wishes.lists.items

-- ---- a tick

abbrev pub moves_of : Owners → Wishes → ArrayVec Line → ArrayVec (Node × Line) → Moves
moves_of owners wishes moved lost = record {
  owner = owner_in owners;
  wishes = wishes_in wishes;
  moved = moved.items;
  lost = lost.items;
}

-- the turns of all nodes have made these of those
pub record AreTurns (owners : Owners) (wishes : Wishes) (new_owners : Owners) (new_wishes : Wishes) (told : ArrayVec (Node × Line)) : Type 0 where
  pub owner : owner_in new_owners ≡ (turns (nodes_in wishes) (first_moves (owner_in owners) (wishes_in wishes))).owner
  pub wishes_left : wishes_in new_wishes ≡ (turns (nodes_in wishes) (first_moves (owner_in owners) (wishes_in wishes))).wishes
  pub lost : told.items ≡ (turns (nodes_in wishes) (first_moves (owner_in owners) (wishes_in wishes))).lost

-- each line that a node asks for can be given to it
abbrev pub HasLines : Owners → List Wanted → Type 0
HasLines owners wanted = All (λ (w : Wanted). has_line owners w.line.0 ≡ true) wanted

abbrev pub AreKnown : Owners → Wishes → Type 0
AreKnown owners wishes = (p : ℕ) → HasLines owners (wanted_in wishes p)

-- no node has more wishes than it may have
abbrev pub AreFew : Wishes → Type 0
AreFew wishes = (p : ℕ) → length (wanted_in wishes p) ≤ most_wishes

-- ---- the places of a store that is made: doublewords, and the line that each is in

-- whether the doubleword of this number is kept, and its line, where a line has so many doublewords
abbrev pub has_place : Memory → Owners → ℕ → ℕ → Bool
has_place memory owners per_line number = has_doubleword memory number && has_line owners (number / per_line)

-- Each byte that is kept is that of the image, and no node has a line.
pub record AreFresh (image : ImageView) (memory : Memory) (owners : Owners) : Type 0 where
  pub bytes : (a : ℕ) → a < 2 ^ 64 → has_doubleword memory (a / 8) ≡ true → byte_in memory a ≡ byte_at image a
  pub free : (l : ℕ) → owner_in owners l ≡ None

-- fresh places, with all that were there before
pub record AreMore (image : ImageView) (per_line : ℕ) (old : Memory) (old_owners : Owners) (new : Memory) (new_owners : Owners) : Type 0 where
  pub fresh : AreFresh image new new_owners
  pub grows : (k : ℕ) → has_place old old_owners per_line k ≡ true → has_place new new_owners per_line k ≡ true
