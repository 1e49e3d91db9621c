use Rattle.std.proofs.Common.{length}
use Rattle.order_certificate.specs.Fields.{HasLines}
use Rattle.order_certificate.proofs.reading.read_lines.Given as goal

abbrev pub invariant-loop-access : goal.invariant-loop-access
invariant-loop-access l = HasLines l.text l.lines.items l.rest

abbrev pub decreases-loop-access : goal.decreases-loop-access
decreases-loop-access l = length l.rest
