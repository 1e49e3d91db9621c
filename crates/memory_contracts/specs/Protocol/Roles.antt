-- What the home's record makes of each node.
use Rattle.std.specs.Prelude.{ℕ, Bool, true, ◌==◌, if◌then◌else◌, List, is_some}
use Rattle.memory_contracts.specs.Protocol.Lines.{Phase, Idle, Collecting, Recalling, Granting, HomeRecord}
use Rattle.memory_contracts.specs.Protocol.HomeTable.{is_owner}

pub data Role : Type 0 where
  -- not noted, or a sharer
  Free : Role
  Listed : Role
  -- a sharer that has still to give up its copy, and one that has
  Invalidated : Role
  Answered : Role
  -- the owner
  Owning : Role
  -- the node whose request is served: whether it asks to own, and whether it is a sharer
  Served : Bool → Bool → Role
  -- the owner from whom the line is called back: whether the whole of it
  Recalled : Bool → Role
  -- the node to which the line is on its way: whether to own, and the memory that it is given
  Granted : Bool → List ℕ → Role

abbrev pub listed : Bool → Role
listed sharer = if sharer then Listed else Free

abbrev pub role_in : Phase → HomeRecord → ℕ → Role
role_in Idle h x = if is_owner h.owner x then Owning else listed (h.sharers x)
role_in (Collecting p left) h x =
    if p == x then Served true (h.sharers x) else if left x then Invalidated else if h.sharers x then Answered else Free
role_in (Recalling q p own) h x = if q == x then Recalled own else if p == x then Served own (h.sharers x) else listed (h.sharers x)
role_in (Granting p) h x = if p == x then Granted (is_some h.owner) h.memory else listed (h.sharers x)

abbrev pub role : HomeRecord → ℕ → Role
role h x = role_in h.phase h x
