use Rattle.std.proofs.Common.{◌≡◌, ◌≤◌, length}
use Rattle.memory_contracts.specs.Flat.{first_moves, turns}
use Rattle.memory_contracts.specs.Parts.{AreFew, AreKnown, has_line, moves_of, nodes_in, owner_in, wishes_in}
use Rattle.memory_contracts.proofs.exchange.take_turns.Given as goal

abbrev pub invariant-loop-p : goal.invariant-loop-p
invariant-loop-p l = record {
  rule : moves_of l.owners l.wishes l.moved l.lost ≡ turns l.p (first_moves (owner_in l.fn.owners) (wishes_in l.fn.wishes));
  nodes : nodes_in l.wishes ≡ nodes_in l.fn.wishes;
  end : l.p-end ≡ nodes_in l.fn.wishes;
  lines : has_line l.owners ≡ has_line l.fn.owners;
  known : AreKnown l.owners l.wishes;
  few : AreFew l.wishes;
  moved : length l.moved.items ≤ l.p;
  lost : length l.lost.items ≤ l.p;
}
