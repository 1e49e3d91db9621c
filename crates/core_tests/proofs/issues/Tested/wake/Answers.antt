use Rattle.std.proofs.Common.{◌∙◌, arith, sym, subst}
use Rattle.issue_queue.specs.Queues.{QueueView}
use Rattle.issue_queue.specs.Numbered.{Stays, stays_woken}
use Rattle.core_tests.proofs.issues.Tested.wake.Goals as goal

pub invariant_of-self : goal.invariant_of-self
invariant_of-self c =
    let old = c.args.self.now in
    let registers = old.registers in
    let stays = subst (λ (q : QueueView). Stays old.base old.next old.queue q) (sym c.wake.ensures) (stays_woken old.base old.next c.register.result.0 old.queue old.numbers) in
    record { numbers = stays.numbers; order = old.order; registers = omega (arith, stays.registers, registers); now = stays.now ∙ old.now }
