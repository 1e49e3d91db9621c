-- The entries in flight, as a list.
use Rattle.std.specs.Prelude.{◌≡◌, ℕ, ◌+◌, ◌-◌, nat_lt, ◌∷◌, ◌++◌, List, [], length, take, slice_get, Bool, false, if◌then◌else◌, Option, None, Some, Result, Ok, Err}
use Rattle.std.specs.Option.{option_map_or}
use Rattle.active_list.specs.declared.flight.Flight.{Flight}

-- what a clause sees of the list
pub record ListView : Type 0 where
  -- the oldest first
  pub entries : List Flight
  -- at most so many
  pub size : ℕ

-- whether one more may join
abbrev pub has_place : ListView → Bool
has_place v = nat_lt (length v.entries) v.size

-- an entry joins behind
abbrev pub pushed : Flight → ListView → ListView
pushed f v = record v { entries = v.entries ++ f ∷ [] }

-- an entry joins where there is a place; else it is handed back, and nothing changes
abbrev pub PushesOf : Flight → ListView → Result (Unit {0}) Flight → ListView → Type 0
PushesOf f old result new =
    (result ≡ (if has_place old then Ok _ else Err f)) × (new ≡ (if has_place old then pushed f old else old))

-- the youngest entry
abbrev pub youngest : List Flight → Option Flight
youngest entries = slice_get entries (length entries - 1)

-- whether it has a greater number
abbrev pub is_after : ℕ → List Flight → Bool
is_after seq entries = option_map_or (λ f. nat_lt seq f.seq) (youngest entries) false

-- the youngest entry is taken out, if its number is greater; else nothing changes
abbrev pub PopsOf : ℕ → ListView → Option Flight → ListView → Type 0
PopsOf seq old result new =
    (result ≡ (if is_after seq old.entries then youngest old.entries else None))
    × (new ≡ (if is_after seq old.entries then record old { entries = take (length old.entries - 1) old.entries } else old))

-- entry k has the number first + k
abbrev pub AreNumbered : ℕ → List Flight → Type 0
AreNumbered first entries = (k : ℕ) (f : Flight) → slice_get entries k ≡ Some f → f.seq ≡ first + k
