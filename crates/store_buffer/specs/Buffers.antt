-- Stores that wait to be performed, as a list.
use Rattle.std.specs.Prelude.{◌≡◌, ℕ, nat_lt, not, ◌∷◌, ◌++◌, Bool, false, List, [], length, take, if◌then◌else◌, Option, Some, None, Result, Ok, Err, slice_get}
use Rattle.std.specs.List.{list_any, remove}
use Rattle.std.specs.Option.{option_map_or}
use Rattle.rsim_base.specs.Bytes.{count_of, gap_of, part_within, starts_in}
use Rattle.rsim_base.specs.declared.memory.Access.{Access}
use Rattle.rsim_base.specs.declared.memory.Addr.{Addr}
use Rattle.rsim_base.specs.declared.memory.Model.{Model}
use Rattle.rsim_base.specs.declared.memory.Size.{Size}
use Rattle.order_axioms.specs.Axioms.{needs}
use Rattle.order_axioms.specs.Counted.{made_after}
use Rattle.order_axioms.specs.declared.counting.Fences.{Fences}
use Rattle.store_buffer.specs.declared.buffer.Full.{Full}
use Rattle.store_buffer.specs.declared.buffer.Waiting.{Waiting}

pub record BufferView : Type 0 where
  -- the oldest first
  pub stores : List Waiting
  -- at most so many
  pub size : ℕ

abbrev pub has_place : BufferView → Bool
has_place v = nat_lt (length v.stores) v.size

-- a store joins behind, where there is a place; else nothing changes
abbrev pub PushesOf : Access → Fences → BufferView → Result (Unit {0}) Full → BufferView → Type 0
PushesOf a f old result new =
    (result ≡ (if has_place old then Ok _ else Err (record {})))
    × (new ≡ (if has_place old then record old { stores = old.stores ++ record { access = a; fences = f } ∷ [] } else old))

-- ---- performing

-- the first store must come before the second, which its program made later
abbrev pub is_needed : Model → Waiting → Waiting → Bool
is_needed m x y = needs m (made_after x.access x.fences) (made_after y.access y.fences)

-- no store of these must come before it
abbrev pub is_free : Model → List Waiting → Waiting → Bool
is_free m earlier y = not (list_any (λ x. is_needed m x y) earlier)

-- so is the store at place k, among those before it
abbrev pub is_free_at : Model → List Waiting → ℕ → Bool
is_free_at m stores k = option_map_or (is_free m (take k stores)) (slice_get stores k) false

-- the store at a place is taken out; where none stands there nothing changes
abbrev pub RemovesOf : ℕ → BufferView → Option Waiting → Option Access → BufferView → Type 0
RemovesOf k old None result new = (result ≡ None) × (new ≡ old)
RemovesOf k old (Some s) result new = (result ≡ Some s.access) × (new ≡ record old { stores = remove old.stores k })

abbrev pub Removes : ℕ → BufferView → Option Access → BufferView → Type 0
Removes k old result new = RemovesOf k old (slice_get old.stores k) result new

-- ---- later accesses

-- no store of these must come before this access, which the program made later, after so many fences
abbrev pub lets : Model → Access → Fences → List Waiting → Bool
lets m a f stores = is_free m stores (record { access = a; fences = f })

-- it stores at one of the n bytes from a on
abbrev pub meets : Addr → Size → Waiting → Bool
meets a n s = starts_in s.access.addr.0 (count_of s.access.size) a.0 (count_of n)

abbrev pub is_met_at : Addr → Size → List Waiting → ℕ → Bool
is_met_at a n stores j = option_map_or (meets a n) (slice_get stores j) false

-- those bytes, where it stores them all
abbrev pub given : Addr → Size → Waiting → Option ℕ
given a n s = part_within s.access.stored (count_of s.access.size) (gap_of s.access.addr.0 a.0) (count_of n)
