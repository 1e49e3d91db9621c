use Rattle.std.proofs.Common.{◌≡◌, [], length}
use Rattle.std.specs.List.{All}
use Rattle.arrayvec.specs.ArrayVec.{ArrayVec}
use Rattle.memory_contracts.specs.declared.wishes.Wanted.{Wanted}
use Rattle.memory_contracts.proofs.wishes.Wishes.make.Given as goal

abbrev pub invariant-loop-node : goal.invariant-loop-node
invariant-loop-node l = record {
  nodes : length l.lists.items ≡ l._node;
  none : All (λ (ws : ArrayVec Wanted). ws.items ≡ []) l.lists.items;
}
