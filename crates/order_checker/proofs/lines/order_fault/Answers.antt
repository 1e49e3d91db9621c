-- What the walk finds, as the fault that it is.
use Rattle.std.proofs.Common.{◌≡◌, nat_lt, ℕ, List, Option, None, Some, find, option_map, sym, ap, ◌∙◌}
use Rattle.std.specs.List.{take_while}
use Rattle.rsim_base.specs.declared.memory.Access.{Access}
use Rattle.order_certificate.specs.Certificate.{CertificateView}
use Rattle.order_checker.specs.declared.verdict.Rejected.TheVariants.{OutOfOrder}
use Rattle.order_checker.specs.declared.walk.Walk.{Walk}
use Rattle.order_checker.specs.Faults.{file_line}
use Rattle.order_checker.specs.Walking.{is_needed_by}
use Rattle.order_checker.proofs.Late.{late_found}
use Rattle.order_checker.proofs.lines.order_fault.Goals as goal

abbrev found : CertificateView → Access → Walk → Option ℕ
found order e w = find (is_needed_by order.model order.lines w.program e) (take_while (λ k. nat_lt k e.index) w.left.items)

-- what is found in the order as the code has it
same_found : (order inside : CertificateView) (lines : List Access) (e : Access) (w : Walk) (o : Option ℕ) → inside ≡ order → lines ≡ inside.lines →
    find (is_needed_by inside.model lines w.program e) (take_while (λ k. nat_lt k e.index) w.left.items) ≡ o → found order e w ≡ o
same_found order inside lines e w o is lines_are sought =
    sym (ap (λ ls. find (is_needed_by inside.model ls w.program e) (take_while (λ k. nat_lt k e.index) w.left.items)) lines_are ∙ ap (λ c. found c e w) is) ∙ sought

pub returns-in-Ok-clause-none : goal.returns-in-Ok-clause-none
returns-in-Ok-clause-none c =
    let e = c.args.line.now in
    let w = c.args.walk.now in
    late_found c.args.image.now c.args.order.now c.args.place e w c.requires.at
    ∙ ap (option_map (OutOfOrder (file_line c.args.place) e.node)) (same_found c.args.order.now _ c.deref.result.now e w None c.order.view_is c.deref.ensures.value c.in-Ok.ensures.none)

pub returns-in-Err-clause-fault : goal.returns-in-Err-clause-fault
returns-in-Err-clause-fault c =
    let e = c.args.line.now in
    let w = c.args.walk.now in
    late_found c.args.image.now c.args.order.now c.args.place e w c.requires.at
    ∙ ap (option_map (OutOfOrder (file_line c.args.place) e.node)) (same_found c.args.order.now _ c.deref.result.now e w (Some c.in-Err.i) c.order.view_is c.deref.ensures.value c.in-Err.ensures.needed)
