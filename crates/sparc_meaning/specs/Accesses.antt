-- The access that a step makes.
use Rattle.std.specs.Prelude.{ℕ, ◌^◌, ◌<◌, Option, Some, None, IfSome, option_map, unwrap_or}
use Rattle.rsim_base.specs.declared.memory.Access.{Access}
use Rattle.rsim_base.specs.declared.memory.Kind.TheVariants as kind
use Rattle.sparc_meaning.specs.declared.acts.Act.{Act}
use Rattle.sparc_meaning.specs.declared.acts.Act.TheVariants.{Nothing, Load, Store, Atomic, Fence, Out, End as Ended}

-- the access of processor p with this number that a step makes, if it makes one; the value that its kind lacks is 0
abbrev pub access_of : ℕ → ℕ → Act → Option Access
access_of p i (Load addr size loaded) =
    Some (record { node = record { 0 = p }; index = i; kind = kind.Load; addr = addr; size = size; loaded = loaded; stored = 0 })
access_of p i (Store addr size stored) =
    Some (record { node = record { 0 = p }; index = i; kind = kind.Store; addr = addr; size = size; loaded = 0; stored = stored })
access_of p i (Atomic addr size loaded stored) =
    Some (record { node = record { 0 = p }; index = i; kind = kind.Atomic; addr = addr; size = size; loaded = loaded; stored = stored })
access_of p i Nothing = None
access_of p i (Fence mask) = None
access_of p i (Out spoken) = None
access_of p i Ended = None

-- Facts and values that go by the access of an act alone: whose it is and its number are not looked at. So the acts are
-- told apart here, and nowhere else.

-- this is so of the access, if the act makes one
abbrev pub OfAccess : (Access → Type 0) → Act → Type 0
OfAccess P act = IfSome (access_of 0 0 act) P

-- what is told of the access, and this of an act that makes none
abbrev pub by_access : {T : Type 0} → T → (Access → T) → Act → T
by_access none told act = unwrap_or (option_map told (access_of 0 0 act)) none

-- its address and the value that it stores have 64 bits
pub record HasNumbers (e : Access) : Type 0 where
  pub addr : e.addr.0 < 2 ^ 64
  pub stored : e.stored < 2 ^ 64
