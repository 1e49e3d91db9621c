-- What the watch has, where it is seen beside the loads in flight.
use Rattle.std.specs.Prelude.{◌≡◌, ◌<◌, ◌∷◌, ◌++◌, List, All}
use Rattle.settle_watch.specs.declared.watch.Watched.{Watched}
use Rattle.settle_watch.specs.Watches.{AreInOrder, placed}

-- A load that is bound stands between those before it in the program and those behind.
abbrev pub PlacedBetween : Type 0
PlacedBetween =
    (older younger : List Watched) (x : Watched) → All (λ y. y.seq < x.seq) older → All (λ y. x.seq < y.seq) younger → placed x (older ++ younger) ≡ older ++ x ∷ younger

-- Where numbers do not fall, they do not once a load is placed.
abbrev pub PlacedInOrder : Type 0
PlacedInOrder = (x : Watched) (loads : List Watched) → AreInOrder loads → AreInOrder (placed x loads)
