-- An order of accesses as it comes about: the places of the accesses that are performed or settled, the first first.
use Rattle.std.specs.Prelude.{ℕ, ◌==◌, nat_le, Bool, true, not, ◌&&◌, if◌then◌else◌, List, [], ◌∷◌, map, Option, None, Some}
use Rattle.std.specs.List.{filter}
use Rattle.rsim_base.specs.declared.memory.Access.{Access}

-- an access in its place, and whether it is retired
pub record Place : Type 0 where
  pub access : Access
  pub retired : Bool

-- ...and room for so many places more, which is no part of what the log says
pub record LogView : Type 0 where
  pub places : List Place
  pub spare : ℕ

abbrev pub placed : Access → Bool → Place
placed a retired = record { access = a; retired = retired }

-- the place is access i of processor p, and is not retired
abbrev pub is_waiting : ℕ → ℕ → Place → Bool
is_waiting p i x = not x.retired && ((x.access.node.0 == p) && (x.access.index == i))

-- the place is an access of processor p from number i on, and is not retired
abbrev pub is_dropped : ℕ → ℕ → Place → Bool
is_dropped p i x = not x.retired && ((x.access.node.0 == p) && nat_le i x.access.index)

-- access i of processor p is retired
abbrev pub after_retire : ℕ → ℕ → List Place → List Place
after_retire p i places = map (λ x. if is_waiting p i x then record x { retired = true } else x) places

-- the accesses of processor p from number i on that are not retired lose their places
abbrev pub after_drop : ℕ → ℕ → List Place → List Place
after_drop p i places = filter (λ x. not (is_dropped p i x)) places

-- the first place's access, where it is retired
abbrev pub first_final : List Place → Option Access
first_final [] = None
first_final (x ∷ places) = if x.retired then Some x.access else None

-- the places without the first one, where it is retired
abbrev pub after_pop : List Place → List Place
after_pop [] = []
after_pop (x ∷ places) = if x.retired then places else x ∷ places
