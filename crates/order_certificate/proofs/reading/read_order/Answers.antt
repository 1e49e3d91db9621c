use Rattle.std.proofs.Common.{◌≡◌, ◌+◌, ◌<◌, ◌≤◌, length, sum, Some, None, Err, sym, ap, ◌∙◌, subst, arith, rules}
use Rattle.std.proofs.lemmas.Bool.Decides.{nat_tests}
use Rattle.rsim_base.specs.Limits.{max_steps}
use Rattle.order_certificate.specs.declared.fault.TextFault.TheVariants.{BadLine}
use Rattle.order_certificate.specs.Fields.{ending_at, fault_at}
use Rattle.order_certificate.specs.Reading.{pieces, IsOrder, order_of, Reads}
use Rattle.order_certificate.proofs.Counts.{ending_written}
use Rattle.order_certificate.proofs.Orders.{reads_of, reads_fault, order_none, order_end, ended_many, ended_all, ended_more}
use Rattle.order_certificate.proofs.reading.read_order.Goals as goal

pub returns-in_err-lines : goal.returns-in_err-lines
returns-in_err-lines c =
    let is : c.from_residual.result ≡ Err c.in_err-lines.field-0.0 = search rules in
    subst (Reads (IsOrder c.args.model c.args.processors (pieces c.args.text.now))) (sym is)
    (reads_fault c.args.model c.args.processors c.args.text.now c.in_err-lines.field-0.0 c.in_err-lines.ensures.fault)

pub returns-in_default-ending : goal.returns-in_default-ending
returns-in_default-ending c =
    let end : ending_at c.args.processors c.in_ok-lines.rest.now ≡ None = search rules in
    let none = order_none c.args.model c.args.processors c.args.text.now c.in_ok-lines.lines.items c.in_ok-lines.rest.now c.in_ok-lines.ensures.lines c.in_ok-lines.ensures.all end in
    let is : c.fault_at.result ≡ fault_at (4 + length c.in_ok-lines.lines.items) c.in_ok-lines.rest.now = search rules in
    reads_of (IsOrder c.args.model c.args.processors (pieces c.args.text.now)) _ (subst (λ f. IsOrder c.args.model c.args.processors (pieces c.args.text.now) (Err f)) (sym is) none)

pub steps-requires : goal.steps-requires
steps-requires c =
    let end : ending_at c.args.processors c.in_ok-lines.rest.now ≡ Some (c.in-Some.counts.items, c.in-Some.left.now) = search rules in
    let told = (ending_written c.args.processors).takes c.in_ok-lines.rest.now c.in-Some.counts.items c.in-Some.left.now end in
    omega (arith, told.1.0, c.requires)

pub returns-then-steps-from : goal.returns-then-steps-from
returns-then-steps-from c =
    let end : ending_at c.args.processors c.in_ok-lines.rest.now ≡ Some (c.in-Some.counts.items, c.in-Some.left.now) = search rules in
    let is = order_end c.args.model c.args.processors c.args.text.now c.in_ok-lines.lines.items c.in_ok-lines.rest.now c.in-Some.counts.items c.in-Some.left.now c.in_ok-lines.ensures.lines end in
    subst (IsOrder c.args.model c.args.processors (pieces c.args.text.now)) (ended_many c.in-Some.counts.items _ _ c.in-Some.left.now (omega arith)) is

pub returns-then-not-is_empty : goal.returns-then-not-is_empty
returns-then-not-is_empty c =
    let end : ending_at c.args.processors c.in_ok-lines.rest.now ≡ Some (c.in-Some.counts.items, c.in-Some.left.now) = search rules in
    let is = order_end c.args.model c.args.processors c.args.text.now c.in_ok-lines.lines.items c.in_ok-lines.rest.now c.in-Some.counts.items c.in-Some.left.now c.in_ok-lines.ensures.lines end in
    let few : sum c.in-Some.counts.items ≤ max_steps = omega arith in
    let some : 0 < length c.in-Some.left.now = grind (arith, nat_tests) in
    let line : 4 + length c.in_ok-lines.lines.items + 1 ≡ 4 + c.len.result + 1 = search rules in
    subst (IsOrder c.args.model c.args.processors (pieces c.args.text.now))
    (ended_more c.in-Some.counts.items (order_of c.args.model c.args.processors c.in_ok-lines.lines.items c.in-Some.counts.items) (4 + length c.in_ok-lines.lines.items + 1) c.in-Some.left.now few some ∙ ap (λ k. Err (BadLine k)) line) is

pub returns : goal.returns
returns c =
    let end : ending_at c.args.processors c.in_ok-lines.rest.now ≡ Some (c.in-Some.counts.items, c.in-Some.left.now) = search rules in
    let is = order_end c.args.model c.args.processors c.args.text.now c.in_ok-lines.lines.items c.in_ok-lines.rest.now c.in-Some.counts.items c.in-Some.left.now c.in_ok-lines.ensures.lines end in
    let few : sum c.in-Some.counts.items ≤ max_steps = omega arith in
    let none : length c.in-Some.left.now ≡ 0 = grind (arith, nat_tests) in
    subst (IsOrder c.args.model c.args.processors (pieces c.args.text.now))
    (ended_all c.in-Some.counts.items (order_of c.args.model c.args.processors c.in_ok-lines.lines.items c.in-Some.counts.items) (4 + length c.in_ok-lines.lines.items + 1) c.in-Some.left.now few none) is
