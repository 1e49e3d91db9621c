use Rattle.std.proofs.Common.{◌∙◌, arith}
use Rattle.issue_queue.specs.Numbered.{stays_selected}
use Rattle.core_tests.proofs.issues.Tested.select.Goals as goal

pub invariant_of-self : goal.invariant_of-self
invariant_of-self g c =
    let old = c.args.self.now in
    let registers = old.registers in
    let stays = stays_selected old.base old.next old.queue _ _ c.select.ensures old.numbers in
    record { numbers = stays.numbers; order = old.order; registers = omega (arith, stays.registers, registers); now = stays.now ∙ old.now }
