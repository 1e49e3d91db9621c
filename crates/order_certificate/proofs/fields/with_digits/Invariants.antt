use Rattle.std.proofs.Common.{◌≡◌, length}
use Rattle.order_certificate.specs.Fields.{with_digits}
use Rattle.order_certificate.proofs.fields.with_digits.Given as goal

-- what is read in the end stays the same
abbrev pub invariant-loop-longer : goal.invariant-loop-longer
invariant-loop-longer l = with_digits l.limit l.number l.rest ≡ with_digits l.limit l.first l.text

abbrev pub decreases-loop-longer : goal.decreases-loop-longer
decreases-loop-longer l = length l.rest
