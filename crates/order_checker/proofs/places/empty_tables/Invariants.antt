-- The tables so far have no line.
use Rattle.order_checker.specs.Tables.{AreTables}
use Rattle.order_checker.proofs.places.empty_tables.Given as goal

abbrev pub invariant-loop-p : goal.invariant-loop-p
invariant-loop-p l = AreTables l.lines l.p 0 l.tables.items
