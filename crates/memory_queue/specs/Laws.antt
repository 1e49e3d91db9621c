-- What is forwarded, byte by byte, and what a load that binds meets.
use Rattle.std.specs.Prelude.{◌≡◌, ℕ, ◌+◌, ◌%◌, ◌^◌, ◌<◌, ◌↔◌, true, All, List, None, Option, Some, IsSome, take, slice_get}
use Rattle.std.specs.Option.{ForSome}
use Rattle.rsim_base.specs.Bytes.{Covers, FitsIn, byte_of, count_of}
use Rattle.rsim_base.specs.declared.memory.Addr.{Addr}
use Rattle.rsim_base.specs.declared.memory.Kind.{Kind}
use Rattle.rsim_base.specs.declared.memory.Kind.TheVariants.{Store}
use Rattle.rsim_base.specs.declared.memory.Size.{Size}
use Rattle.memory_queue.specs.Queues.{QueueView, binds_now, byte_seen, forwarded_to, given, last_writer, met_by}
use Rattle.memory_queue.specs.declared.queued.Queued.{Queued}

-- each address that is known has 64 bits
abbrev pub AreAddresses : List Queued → Type 0
AreAddresses accesses = All (λ x. ForSome x.addr (λ a. a.0 < 2 ^ 64)) accesses

-- a store gives a value exactly where it is plain, covers the load and has its value
abbrev pub GivesWhereItCovers : Type 0
GivesWhereItCovers =
    (kind : Kind) (b a : Addr) (m n : Size) (value : Option ℕ)
    → b.0 < 2 ^ 64 → a.0 < 2 ^ 64
    → IsSome (given kind b m a n value) ↔ ((kind ≡ Store) × IsSome value × Covers b.0 (count_of m) a.0 (count_of n))

-- each byte of a forwarded value is what the accesses before the load show of it, and there are no more bytes than the load has
abbrev pub ForwardIsSeen : Type 0
ForwardIsSeen =
    (accesses : List Queued) (k : ℕ) (y : Queued) (a : Addr) (v : ℕ)
    → AreAddresses accesses → slice_get accesses k ≡ Some y → y.addr ≡ Some a
    → forwarded_to k accesses ≡ Some v
    → FitsIn y.size v × ((b : ℕ) → b < count_of y.size → byte_seen (take k accesses) ((a.0 + b) % 2 ^ 64) ≡ Some (byte_of v (count_of y.size) b))

-- where a load meets nothing, no access before it stores at a byte of it
abbrev pub UnmetIsUnwritten : Type 0
UnmetIsUnwritten =
    (accesses : List Queued) (k : ℕ) (y : Queued) (a : Addr)
    → AreAddresses accesses → slice_get accesses k ≡ Some y → y.addr ≡ Some a
    → met_by (take k accesses) a y.size ≡ None
    → (b : ℕ) → b < count_of y.size → last_writer (take k accesses) ((a.0 + b) % 2 ^ 64) ≡ None

-- a load that may bind and is given nothing meets nothing
abbrev pub UngivenMeetsNone : Type 0
UngivenMeetsNone =
    (q : QueueView) (k : ℕ) (y : Queued) (a : Addr)
    → slice_get q.accesses k ≡ Some y → y.addr ≡ Some a
    → binds_now q k ≡ true → forwarded_to k q.accesses ≡ None → met_by (take k q.accesses) a y.size ≡ None
