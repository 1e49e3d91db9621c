-- What the list ends as, once a `&mut` into it has ended.
use Rattle.std.specs.Prelude.{ℕ, slice_set, Option}
use Rattle.std.specs.Borrow.{Fml, MutBor, LendsIf}
use Rattle.active_list.specs.Lists.{ListView}
use Rattle.active_list.specs.declared.flight.Flight.{Flight}
use Rattle.active_list.specs.contracts.list.ActiveList.{the_row as list_row}
use Rattle.active_list.specs.contracts.flight.Flight.{the_row as flight_row}

-- entry k is the last one left behind r; where there is none, the list stays as it is
abbrev pub LendsEntry : MutBor ListView → ℕ → Option (MutBor Flight) → Fml
LendsEntry l k r = LendsIf list_row flight_row l r (λ f. record l.now { entries = slice_set l.now.entries k f }) l.now
