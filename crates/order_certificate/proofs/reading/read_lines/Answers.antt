use Rattle.std.proofs.Common.{sym, subst}
use Rattle.order_certificate.specs.Fields.{HasLines}
use Rattle.order_certificate.proofs.Orders.{has_lines_more, shorter}
use Rattle.order_certificate.proofs.reading.read_lines.Goals as goal

pub loop-access-smaller : goal.loop-access-smaller
loop-access-smaller c = shorter c.loop-access.rest.now c.in-Some.access c.in-Some.behind.now (sym c.in-Some.ensures)

pub loop-access-preserved : goal.loop-access-preserved
loop-access-preserved c =
    subst (λ lines. HasLines c.args.text.now lines c.in-Some.behind.now) (sym c.in_ok-keep.ensures.kept)
    (has_lines_more c.args.text.now c.loop-access.lines.items c.loop-access.rest.now c.in-Some.access c.in-Some.behind.now c.loop-access.invariant (sym c.in-Some.ensures) c.in_ok-keep.ensures.room)
