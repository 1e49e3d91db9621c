-- A squash leaves of a numbered stack a numbered one.
use Rattle.std.proofs.Common.{nat_lt}
use Rattle.branch_predict.specs.declared.return_stack.Pushed.{Pushed}
use Rattle.branch_predict.proofs.Squashes.{AreNumbered-filter}
use Rattle.branch_predict.proofs.return_stack.ReturnStack.back_to.Goals as goal

pub invariant_of-self : goal.invariant_of-self
invariant_of-self c = rw c.drop_from.ensures (AreNumbered-filter (λ (p : Pushed). nat_lt p.number c.args.mark) _ _ c.self.invariant)
