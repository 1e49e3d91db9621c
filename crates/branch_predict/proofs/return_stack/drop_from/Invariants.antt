-- What went would not have stayed anyway.
use Rattle.std.proofs.Common.{◌≡◌, filter, nat_lt, length}
use Rattle.std.specs.List.Sorted.{IsNonDecreasingBy}
use Rattle.branch_predict.specs.declared.return_stack.Pushed.{Pushed}
use Rattle.branch_predict.proofs.return_stack.drop_from.Given as goal

abbrev pub invariant-loop-stack : goal.invariant-loop-stack
invariant-loop-stack l = record {
  rising : IsNonDecreasingBy (λ (p : Pushed). p.number) l.stack.items;
  left : filter (λ (p : Pushed). nat_lt p.number l.mark) l.stack.items ≡ filter (λ (p : Pushed). nat_lt p.number l.mark) l.initial.stack.items;
  places : l.stack.capacity ≡ l.initial.stack.capacity;
}

abbrev pub decreases-loop-stack : goal.decreases-loop-stack
decreases-loop-stack l = length l.stack.items
