use Rattle.std.proofs.Common.{◌≡◌, Err, sym, subst, rules}
use Rattle.order_certificate.specs.Reading.{pieces, IsOrder, IsRead, Reads}
use Rattle.order_certificate.proofs.Orders.{reads_of, reads_map, read_behind}
use Rattle.order_certificate.proofs.Wholes.{reads_whole, reads_front, found_of}
use Rattle.order_certificate.proofs.reading.read.Goals as goal

-- what a call for the heading answers in place of it
heading_read : (c : goal.After-from_residual) → Reads (IsRead c.args.text.now) c.from_residual.result
heading_read c =
    let is : c.from_residual.result ≡ Err c.in_err-model.field-0.0 = search rules in
    reads_of (IsRead c.args.text.now) c.from_residual.result (subst (IsRead c.args.text.now) (sym is) c.in_err-model.ensures.fault)

pub returns-in_err-model-clause-only : goal.returns-in_err-model-clause-only
returns-in_err-model-clause-only c = reads_whole c.args.text.now c.from_residual.result (heading_read c)

pub returns-in_err-model-clause-cut : goal.returns-in_err-model-clause-cut
returns-in_err-model-clause-cut c = reads_front c.args.text.now c.from_residual.result (heading_read c)

-- what stands behind the heading
order_read : (c : goal.After-read_order) → Reads (IsRead c.args.text.now) c.read_order.result
order_read c =
    reads_map (IsOrder c.in_ok-model.model c.in_ok-model.processors (pieces c.in_ok-model.rest.now)) (IsRead c.args.text.now) c.read_order.result
    (λ r. read_behind c.args.text.now c.in_ok-model.model c.in_ok-model.processors c.in_ok-model.rest.now r c.in_ok-model.ensures.heading) c.read_order.ensures

pub returns-clause-found : goal.returns-clause-found
returns-clause-found c = found_of c.args.text.now c.read_order.result (order_read c)

pub returns-clause-only : goal.returns-clause-only
returns-clause-only c = reads_whole c.args.text.now c.read_order.result (order_read c)

pub returns-clause-cut : goal.returns-clause-cut
returns-clause-cut c = reads_front c.args.text.now c.read_order.result (order_read c)

pub returns-clause-exact : goal.returns-clause-exact
returns-clause-exact c = order_read c
