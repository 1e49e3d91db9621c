-- Laws of the consistency models.
use Rattle.std.specs.Prelude.{IsTrue, ◌||◌, ◌<◌, ◌^◌}
use Rattle.rsim_base.specs.Accesses.{loads, overlap, stores}
use Rattle.rsim_base.specs.declared.memory.Model.{Model}
use Rattle.rsim_base.specs.Made.{Made}
use Rattle.order_axioms.specs.Axioms.{needs}

-- whatever the weaker model needs, the stronger one needs
abbrev pub IsWeaker : Model → Model → Type 0
IsWeaker weak strong = (x y : Made) → IsTrue (needs weak x y) → IsTrue (needs strong x y)

-- an access is needed before a later one that it overlaps, but for a plain store before a plain load
abbrev pub OverlappingInOrder : Type 0
OverlappingInOrder = (m : Model) (x y : Made) → IsTrue (overlap x.access y.access) → IsTrue (loads x.access.kind || stores y.access.kind) → IsTrue (needs m x y)

-- this access, at the address of that one
abbrev pub at_address_of : Made → Made → Made
at_address_of y x = record x { access = record x.access { addr = y.access.addr } }

-- an access is no less needed where it is taken to be at the later one's address, as where its own is not known
abbrev pub NeedsAssumed : Type 0
NeedsAssumed = (m : Model) (x y : Made) → y.access.addr.0 < 2 ^ 64 → IsTrue (needs m x y) → IsTrue (needs m (at_address_of y x) y)
