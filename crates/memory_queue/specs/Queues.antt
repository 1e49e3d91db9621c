-- The accesses of a core that are in flight.
use Rattle.std.specs.Prelude.{ℕ, ◌<◌, ◌==◌, nat_lt, nat_le, not, ◌&&◌, ◌||◌, Bool, true, false, if◌then◌else◌, List, [], ◌∷◌, ◌++◌, length, map, filter, find, take, reverse, Option, None, Some, is_some, unwrap_or, option_and_then, slice_get, slice_set}
use Rattle.std.specs.Option.{option_map_or}
use Rattle.std.specs.List.{AllPairs, list_all, list_any}
use Rattle.rsim_base.specs.Accesses.{stores}
use Rattle.rsim_base.specs.Bytes.{byte_of, count_of, gap_of, part_within, starts_in}
use Rattle.rsim_base.specs.Made.{Made}
use Rattle.rsim_base.specs.declared.memory.Access.{Access}
use Rattle.rsim_base.specs.declared.memory.Addr.{Addr}
use Rattle.rsim_base.specs.declared.memory.Kind.{Kind}
use Rattle.rsim_base.specs.declared.memory.Kind.TheVariants.{Load, Store, Atomic}
use Rattle.rsim_base.specs.declared.memory.Model.{Model}
use Rattle.rsim_base.specs.declared.memory.Size.{Size}
use Rattle.machine_config.specs.declared.config.Config.{Config}
use Rattle.order_axioms.specs.Axioms.{needs}
use Rattle.order_axioms.specs.Counted.{made_after}
use Rattle.order_axioms.specs.declared.counting.Fences.{Fences}
use Rattle.memory_queue.specs.declared.queued.Queued.{Queued}

pub record QueueView : Type 0 where
  -- in the order of the program, the oldest first; at most so many
  pub accesses : List Queued
  pub size : ℕ
  pub model : Model
  pub speculates : Bool

-- each has a greater number than all before it
abbrev pub AreRising : List Queued → Type 0
AreRising accesses = AllPairs (λ (x y : Queued). x.seq < y.seq) accesses

-- ---- joining and changing

abbrev pub has_place : QueueView → Bool
has_place q = nat_lt (length q.accesses) q.size

-- nothing is known of it yet
abbrev pub joining : ℕ → Kind → Size → Fences → Queued
joining seq kind size fences = record {
  seq = seq;
  kind = kind;
  size = size;
  fences = fences;
  addr = None;
  value = None;
  placed = false;
  bound = false;
}

abbrev pub pushed : ℕ → Kind → Size → Fences → QueueView → QueueView
pushed seq kind size fences q = if has_place q then record q { accesses = q.accesses ++ joining seq kind size fences ∷ [] } else q

-- the access of this number, if there is one
abbrev pub changed : ℕ → (Queued → Queued) → QueueView → QueueView
changed seq change q = record q { accesses = map (λ x. if x.seq == seq then change x else x) q.accesses }

-- there is such an access, and its number is greater
abbrev pub is_after : ℕ → Option Queued → Bool
is_after seq None = false
is_after seq (Some x) = not (nat_le x.seq seq)

abbrev pub cut : ℕ → QueueView → QueueView
cut seq q = record q { accesses = filter (λ x. nat_le x.seq seq) q.accesses }

-- ---- which must come before which

-- as an access of its program at this address, with what counts for its order
abbrev pub access_at : Addr → Queued → Access
access_at a x = record { node = record { 0 = 0 }; kind = x.kind; size = x.size; index = 0; addr = a; loaded = 0; stored = 0 }

abbrev pub made_at : Addr → Queued → Made
made_at a x = made_after (access_at a x) x.fences

-- the earlier access must come before one at this address; while its own is not known it counts as overlapping
abbrev pub is_needed : Model → Queued → Addr → Queued → Bool
is_needed m x a y = needs m (made_at (unwrap_or x.addr a) x) (made_at a y)

-- *ready to place*, as far as these earlier accesses go: each that must come before it has its place
abbrev pub is_ready : Model → List Queued → Addr → Queued → Bool
is_ready m earlier a y = not (list_any (λ x. not x.placed && is_needed m x a y) earlier)

-- ---- forwarding

-- it stores at bytes of the load at this address, and is not performed
abbrev pub meets : Addr → Size → Queued → Bool
meets a n x = (stores x.kind && not x.placed) && option_map_or (λ b. starts_in b.0 (count_of x.size) a.0 (count_of n)) x.addr false

-- what a plain store gives to a load that it covers
abbrev pub given : Kind → Addr → Size → Addr → Size → Option ℕ → Option ℕ
given Store b m a n (Some value) = part_within value (count_of m) (gap_of b.0 a.0) (count_of n)
given kind b m a n value = None

abbrev pub given_by : Addr → Size → Option Queued → Option ℕ
given_by a n None = None
given_by a n (Some x) = option_and_then (λ b. given x.kind b x.size a n x.value) x.addr

abbrev pub is_met_at : Addr → Size → List Queued → ℕ → Bool
is_met_at a n accesses j = option_map_or (meets a n) (slice_get accesses j) false

-- the youngest of the earlier stores and atomics that are not performed and store at a byte of these
abbrev pub met_by : List Queued → Addr → Size → Option Queued
met_by earlier a n = find (meets a n) (reverse earlier)

-- that one decides
abbrev pub forwarded : List Queued → Queued → Option ℕ
forwarded earlier y = option_and_then (λ a. given_by a y.size (met_by earlier a y.size)) y.addr

abbrev pub forwarded_to : ℕ → List Queued → Option ℕ
forwarded_to k accesses = option_and_then (forwarded (take k accesses)) (slice_get accesses k)

-- ---- what the access at a place meets

abbrev pub is_met : ℕ → List Queued → ℕ → Bool
is_met k accesses j = option_map_or (λ y. option_map_or (λ a. is_met_at a y.size accesses j) y.addr false) (slice_get accesses k) false

abbrev pub met_from : ℕ → List Queued → Option Queued
met_from k accesses = option_and_then (λ y. option_and_then (λ a. met_by (take k accesses) a y.size) y.addr) (slice_get accesses k)

-- ---- bytes

-- a store or atomic that is not performed and stores at byte x
abbrev pub writes_byte : ℕ → Queued → Bool
writes_byte x s = (stores s.kind && not s.placed) && option_map_or (λ b. nat_lt (gap_of b.0 x) (count_of s.size)) s.addr false

-- the last of the earlier ones that does
abbrev pub last_writer : List Queued → ℕ → Option Queued
last_writer earlier x = find (writes_byte x) (reverse earlier)

-- the byte that a plain store stores there, where its value is known
abbrev pub given_byte : ℕ → Kind → Option Addr → Size → Option ℕ → Option ℕ
given_byte x Store (Some b) m (Some value) = Some (byte_of value (count_of m) (gap_of b.0 x))
given_byte x kind b m value = None

-- what these accesses show of byte x: nothing where none stores there, or the last that does gives no value
abbrev pub byte_seen : List Queued → ℕ → Option ℕ
byte_seen earlier x = option_and_then (λ s. given_byte x s.kind s.addr s.size s.value) (last_writer earlier x)

-- ---- binding

-- no earlier store or atomic is at an address that is not known
abbrev pub are_stores_known : List Queued → Bool
are_stores_known earlier = list_all (λ x. not (stores x.kind) || is_some x.addr) earlier

abbrev pub is_load : Kind → Bool
is_load Load = true
is_load Store = false
is_load Atomic = false

-- what a load would meet gives its value, or it meets nothing
abbrev pub gives_way : Addr → Size → Option Queued → Bool
gives_way a n None = true
gives_way a n (Some x) = is_some (given_by a n (Some x))

-- a load that waits for its value, at this address
abbrev pub may_bind_at : QueueView → List Queued → Queued → Option Addr → Bool
may_bind_at q earlier y None = false
may_bind_at q earlier y (Some a) =
    are_stores_known earlier && (gives_way a y.size (met_by earlier a y.size) && (q.speculates || is_ready q.model earlier a y))

abbrev pub may_bind : QueueView → List Queued → Queued → Bool
may_bind q earlier y = (is_load y.kind && not y.bound) && may_bind_at q earlier y y.addr

-- the access at place k is a load that may bind
abbrev pub binds_now : QueueView → ℕ → Bool
binds_now q k = option_map_or (may_bind q (take k q.accesses)) (slice_get q.accesses k) false

-- ---- a load that is bound

abbrev pub binds_at : ℕ → Option Queued → QueueView → QueueView
binds_at k None q = q
binds_at k (Some x) q = record q { accesses = slice_set q.accesses k (record x { bound = true }) }

-- the load at place k has its value
abbrev pub binds : ℕ → QueueView → QueueView
binds k q = binds_at k (slice_get q.accesses k) q

-- a load at this address that has its value gets its place
abbrev pub may_settle_at : Model → List Queued → Queued → Option Addr → Bool
may_settle_at m earlier y None = false
may_settle_at m earlier y (Some a) = is_ready m earlier a y

abbrev pub may_settle : Model → List Queued → Queued → Bool
may_settle m earlier y = (is_load y.kind && (y.bound && not y.placed)) && may_settle_at m earlier y y.addr

-- the access at place k is a load that is bound and ready to place, and has no place yet
abbrev pub settles_now : QueueView → ℕ → Bool
settles_now q k = option_map_or (may_settle q.model (take k q.accesses)) (slice_get q.accesses k) false

-- ---- at first

abbrev pub first_queue : Config → QueueView
first_queue config = record { accesses = []; size = config.active_list; model = config.model; speculates = config.speculate }
