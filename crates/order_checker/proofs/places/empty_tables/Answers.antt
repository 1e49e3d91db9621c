-- One table more without a line.
use Rattle.std.proofs.Common.{◌≡◌, ◌+◌, ◌++◌, ◌∷◌, [], subst, sym, arith}
use Rattle.std.proofs.lemmas.Grind.{common_steps}
use Rattle.order_checker.specs.Tables.{AreTables}
use Rattle.order_checker.proofs.TableLines.{tables_push}
use Rattle.order_checker.proofs.places.empty_tables.Goals as goal

pub loop-p-preserved : goal.loop-p-preserved
loop-p-preserved c =
    let put : c.push.new.self.items ≡ c.loop-p.tables.items ++ c.in_ok-table.table ∷ [] = grind (arith, common_steps) in
    subst (AreTables c.args.lines.now (c.loop-p.p + 1) 0) (sym put)
    (tables_push c.args.lines.now c.loop-p.p c.loop-p.tables.items c.in_ok-table.table c.loop-p.invariant c.in_ok-table.ensures)
