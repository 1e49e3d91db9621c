use Rattle.std.proofs.Common.{arith}
use Rattle.std.proofs.lemmas.Bool.Decides.{nat_tests}
use Rattle.miss_registers.proofs.LineMaps.{len-lines_of}
use Rattle.miss_registers.proofs.line_table.LineTable.is_full.Goals as goal

pub returns : goal.returns
returns g c = rw (← c.self.view_is, len-lines_of c.self.inside.entries c.self.invariant.apart) (grind (arith, nat_tests))
