-- The lines that accesses need.
use Rattle.std.specs.Prelude.{ℕ, Bool, false, not, ◌&&◌}
use Rattle.memory_contracts.specs.Store.{AreMapped, StoreView, line_at}
use Rattle.rsim_base.specs.Bytes.{count_of}
use Rattle.rsim_base.specs.declared.memory.Kind.{Kind}
use Rattle.rsim_base.specs.declared.memory.Kind.TheVariants.{Load, Store, Atomic}
use Rattle.sparc_meaning.specs.Accesses.{OfAccess}
use Rattle.sparc_meaning.specs.declared.acts.Act.{Act}
use Rattle.sparc_meaning.specs.declared.acts.Want.{Want}
use Rattle.sparc_meaning.specs.declared.acts.Want.TheVariants as want

-- node p lacks the line for an access of a kind: a load needs it near, a store owned, and an atomic both
abbrev pub lacks : StoreView → ℕ → ℕ → Kind → Bool
lacks v p line Load = not (v.near p line)
lacks v p line Store = not (v.owned p line)
lacks v p line Atomic = not (v.near p line && v.owned p line)

-- a wanted access lacks its line
abbrev pub wants_line : StoreView → ℕ → Want → Bool
wants_line v p (want.Load addr n) = lacks v p (line_at v addr.0) Load
wants_line v p (want.Atomic addr n) = lacks v p (line_at v addr.0) Atomic
wants_line v p want.None = false
wants_line v p want.Ended = false

-- what an act touches, and what a step will read, is mapped
abbrev pub IsActMapped : StoreView → Act → Type 0
IsActMapped v act = OfAccess (λ a. AreMapped v a.addr.0 (count_of a.size)) act

abbrev pub IsWantMapped : StoreView → Want → Type 0
IsWantMapped v (want.Load addr n) = AreMapped v addr.0 (count_of n)
IsWantMapped v (want.Atomic addr n) = AreMapped v addr.0 (count_of n)
IsWantMapped v want.None = Unit {0}
IsWantMapped v want.Ended = Unit {0}
