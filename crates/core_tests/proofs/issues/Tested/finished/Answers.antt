use Rattle.std.proofs.Common.{◌∙◌, arith}
use Rattle.issue_queue.specs.Numbered.{stays_finished}
use Rattle.core_tests.proofs.issues.Tested.finished.Goals as goal

pub invariant_of-self : goal.invariant_of-self
invariant_of-self c =
    let old = c.args.self.now in
    let registers = old.registers in
    let stays = stays_finished old.base old.next old.queue _ _ c.finished.ensures old.numbers in
    record { numbers = stays.numbers; order = old.order; registers = omega (arith, stays.registers, registers); now = stays.now ∙ old.now }
