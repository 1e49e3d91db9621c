-- Tables of where the lines of one processor's accesses stand.
use Rattle.std.specs.Prelude.{◌≡◌, ℕ, ◌<◌, ◌==◌, nat_lt, nat_le, nat_eq, Bool, false, ◌||◌, if◌then◌else◌, List, length, slice_get, slice_index, slice_set, Option, None, Some, is_some}
use Rattle.std.specs.HashMap.{get}
use Rattle.rsim_base.specs.declared.memory.Access.{Access}
use Rattle.order_checker.specs.declared.places.Table.{Table}
use Rattle.order_checker.specs.Faults.{place_among}

-- the place that is kept, where one is
abbrev pub known : ℕ → Option ℕ
known place = if place == 4294967295 then None else Some place

-- where the table says that the line of access i stands
abbrev pub place_in : Table → ℕ → Option ℕ
place_in table i = if nat_lt i (length table.near.items) then known (slice_index table.near.items i) else get nat_eq table.far i

-- the table of each processor has its lines among the first so many
pub record AreTables (lines : List Access) (n j : ℕ) (tables : List Table) : Type 0 where
  pub count : length tables ≡ n
  pub places : (p : ℕ) (t : Table) → slice_get tables p ≡ Some t → (i : ℕ) → place_in t i ≡ place_among lines p i j

-- the table has a line of the access
abbrev pub has_line : ℕ → Option Table → Bool
has_line i None = false
has_line i (Some table) = is_some (place_in table i)

-- the line is of no processor, or its processor's table has a line of its access
abbrev pub is_stray : Access → List Table → Bool
is_stray e tables = nat_le (length tables) e.node.0 || has_line e.index (slice_get tables e.node.0)

-- the line's place is kept in its processor's table, which had none of its access, and nothing else is changed
pub record IsNoted (e : Access) (place : ℕ) (old new : List Table) : Type 0 where
  pub table : Table
  pub before : Table
  pub among : e.node.0 < length old
  pub was : slice_get old e.node.0 ≡ Some before
  pub fresh : place_in before e.index ≡ None
  pub is : new ≡ slice_set old e.node.0 table
  pub put : (i : ℕ) → place_in table i ≡ (if e.index == i then Some place else place_in before i)
