-- What is true of each act of a step.
use Rattle.std.specs.Prelude.{◌≡◌, ℕ, ◌%◌, ◌^◌, ◌<◌, ⊤}
use Rattle.rsim_base.specs.Bytes.{count_of, FitsIn}
use Rattle.rsim_base.specs.declared.memory.Addr.{Addr}
use Rattle.rsim_base.specs.declared.memory.Kind.{Kind}
use Rattle.rsim_base.specs.declared.memory.Kind.TheVariants as kind
use Rattle.rsim_base.specs.declared.memory.Size.{Size}
use Rattle.sparc_meaning.specs.declared.acts.Act.{Act}
use Rattle.sparc_meaning.specs.declared.acts.Want.{Want}
use Rattle.sparc_meaning.specs.declared.acts.Want.TheVariants as want
use Rattle.sparc_meaning.specs.Accesses.{OfAccess, by_access}

-- an access is at a multiple of its size
abbrev pub IsAligned : Act → Type 0
IsAligned act = OfAccess (λ a. a.addr.0 % count_of a.size ≡ 0) act

-- what is loaded is the value that was given
abbrev pub IsFound : ℕ → Kind → ℕ → Type 0
IsFound value kind.Load loaded = loaded ≡ value
IsFound value kind.Atomic loaded = loaded ≡ value
IsFound value kind.Store loaded = ⊤

abbrev pub HasFound : ℕ → Act → Type 0
HasFound value act = OfAccess (λ a. IsFound value a.kind a.loaded) act

-- what is stored has no more bytes than the access: of a store as far as it has no more than 64 bits, of an atomic
-- where what it has loaded has no more
abbrev pub HasSize : Kind → Size → ℕ → ℕ → Type 0
HasSize kind.Store size loaded stored = stored < 2 ^ 64 → FitsIn size stored
HasSize kind.Atomic size loaded stored = FitsIn size loaded → FitsIn size stored
HasSize kind.Load size loaded stored = ⊤

abbrev pub IsSized : Act → Type 0
IsSized act = OfAccess (λ a. HasSize a.kind a.size a.loaded a.stored) act

-- the access that an act reads memory by
abbrev pub read_by : Kind → Addr → Size → Want
read_by kind.Load addr size = want.Load addr size
read_by kind.Atomic addr size = want.Atomic addr size
read_by kind.Store addr size = want.None

abbrev pub reads : Act → Want
reads act = by_access want.None (λ a. read_by a.kind a.addr a.size) act

-- a wanted access is at a multiple of its size
abbrev pub IsAlignedWant : Want → Type 0
IsAlignedWant want.None = ⊤
IsAlignedWant (want.Load addr size) = addr.0 % count_of size ≡ 0
IsAlignedWant (want.Atomic addr size) = addr.0 % count_of size ≡ 0
IsAlignedWant want.Ended = ⊤
