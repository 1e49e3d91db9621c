use Rattle.std.proofs.Common.{◌≡◌, ◌-◌, []}
use Rattle.order_certificate.specs.Fields.{counts_from}
use Rattle.order_certificate.proofs.lines.counts_at.Given as goal

-- what is read in the end stays the same
abbrev pub invariant-loop : goal.invariant-loop
invariant-loop l = counts_from (l.processors - l.counter) l.counts.items l.rest ≡ counts_from l.processors [] l.text
