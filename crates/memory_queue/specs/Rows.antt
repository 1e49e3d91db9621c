-- The accesses in flight as sets of places of a ring, by what is asked of them.
use Rattle.std.specs.Prelude.{◌≡◌, ℕ, ◌<◌, not, ◌&&◌, ◌||◌, Bool, false, List, is_some, slice_get}
use Rattle.std.specs.Option.{option_map_or}
use Rattle.rsim_base.specs.Accesses.{stores}
use Rattle.ring_set.specs.Sets.{aged}
use Rattle.ring_set.specs.declared.set.Places.{Places}
use Rattle.memory_queue.specs.Queues.{is_load}
use Rattle.memory_queue.specs.declared.queued.Queued.{Queued}
use Rattle.memory_queue.specs.declared.rows.Rows.{Rows}

-- the access with k older ones passes
abbrev pub passes_at : (Queued → Bool) → List Queued → ℕ → Bool
passes_at test xs k = option_map_or test (slice_get xs k) false

-- the place of each access is in the set exactly where it passes
abbrev pub IsRow : Places → ℕ → (Queued → Bool) → List Queued → Type 0
IsRow set head test xs = (k : ℕ) → k < 128 → aged set head k ≡ passes_at test xs k

-- a store or atomic that is not performed, at an address that is known
abbrev pub is_open : Queued → Bool
is_open x = (stores x.kind && not x.placed) && is_some x.addr

-- a store or atomic at one that is not
abbrev pub is_unknown : Queued → Bool
is_unknown x = not (not (stores x.kind) || is_some x.addr)

-- a load that waits for its value, at an address that is known
abbrev pub is_waiting : Queued → Bool
is_waiting x = (is_load x.kind && not x.bound) && is_some x.addr

-- a load that has its value, and no place
abbrev pub is_settling : Queued → Bool
is_settling x = is_load x.kind && (x.bound && not x.placed)

abbrev pub is_unplaced : Queued → Bool
is_unplaced x = not x.placed

pub record AreRows (rows : Rows) (xs : List Queued) : Type 0 where
  pub stores : IsRow rows.stores rows.head is_open xs
  pub unknown : IsRow rows.unknown rows.head is_unknown xs
  pub waiting : IsRow rows.waiting rows.head is_waiting xs
  pub settling : IsRow rows.settling rows.head is_settling xs
  pub unplaced : IsRow rows.unplaced rows.head is_unplaced xs
