-- The lines so far are no strays, and the tables have them.
use Rattle.std.proofs.Common.{◌≡◌, None}
use Rattle.order_checker.specs.Faults.{stray}
use Rattle.order_checker.specs.Firsts.{first}
use Rattle.order_checker.specs.Tables.{AreTables}
use Rattle.order_checker.proofs.places.find_places.Given as goal

abbrev pub invariant-loop-place : goal.invariant-loop-place
invariant-loop-place l = record {
  none : first (stray l.processors l.lines) l.place ≡ None;
  tables : AreTables l.lines l.processors l.place l.tables.items;
}
