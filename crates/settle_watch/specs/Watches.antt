-- Loads that are bound and not settled.
use Rattle.std.specs.Prelude.{ℕ, nat_lt, nat_le, ◌≤◌, min, ◌==◌, not, ◌&&◌, false, Bool, ⊤, All, List, [], ◌∷◌, ◌++◌, length, map, filter, find, if◌then◌else◌, Option, Some, None, option_map}
use Rattle.rsim_base.specs.declared.memory.Line.{Line}
use Rattle.rsim_base.specs.declared.memory.Node.{Node}
use Rattle.memory_contracts.specs.Store.{is_among}
use Rattle.settle_watch.specs.declared.watch.Watched.{Watched}

pub record WatchView : Type 0 where
  -- the oldest first
  pub loads : List Watched
  -- at most so many
  pub size : ℕ

abbrev pub has_place : WatchView → Bool
has_place v = nat_lt (length v.loads) v.size

-- numbers do not fall along the list
abbrev pub AreInOrder : List Watched → Type 0
AreInOrder [] = ⊤
AreInOrder (x ∷ xs) = All (λ y. x.seq ≤ y.seq) xs × AreInOrder xs

-- a load stands behind those of lesser numbers
abbrev pub placed : Watched → List Watched → List Watched
placed x loads = filter (λ y. nat_lt y.seq x.seq) loads ++ x ∷ filter (λ y. not (nat_lt y.seq x.seq)) loads

abbrev pub watched : ℕ → ℕ → Bool → WatchView → WatchView
watched seq line from_store v =
    if has_place v then record v { loads = placed (record { seq = seq; line = record { 0 = line }; from_store = from_store }) v.loads } else v

-- the value of the load of this number stands in memory now
abbrev pub store_performed : ℕ → Watched → Watched
store_performed seq x = if x.seq == seq then record x { from_store = false } else x

abbrev pub without_store : ℕ → WatchView → WatchView
without_store seq v = record v { loads = map (store_performed seq) v.loads }

abbrev pub settled : ℕ → WatchView → WatchView
settled seq v = record v { loads = filter (λ x. not (x.seq == seq)) v.loads }

abbrev pub cut : ℕ → WatchView → WatchView
cut seq v = record v { loads = filter (λ x. nat_le x.seq seq) v.loads }

-- ---- victims

-- its line is lost to node p, and its value came from memory
abbrev pub is_victim : ℕ → List (Node × Line) → Watched → Bool
is_victim p lost x = not x.from_store && is_among lost p x.line.0

-- the least of these numbers
abbrev pub least : List ℕ → Option ℕ
least [] = None
least (x ∷ xs) = least_with x (least xs)
  where
    least_with : ℕ → Option ℕ → Option ℕ
    least_with x None = Some x
    least_with x (Some y) = Some (min x y)

-- the number of the first victim
abbrev pub first_victim : ℕ → List (Node × Line) → List Watched → Option ℕ
first_victim p lost loads = option_map (λ x. x.seq) (find (is_victim p lost) loads)

-- the number of the oldest victim
abbrev pub oldest_victim : ℕ → List (Node × Line) → List Watched → Option ℕ
oldest_victim p lost loads = least (map (λ x. x.seq) (filter (is_victim p lost) loads))
