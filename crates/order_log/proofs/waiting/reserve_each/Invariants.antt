-- The lists so far have room, and the others have what they had.
use Rattle.std.proofs.Common.{◌≡◌, ℕ, take, vec_len}
use Rattle.order_log.specs.Entries.{items_of, HaveRoom}
use Rattle.order_log.proofs.waiting.reserve_each.Given as goal

abbrev pub invariant-loop-at : goal.invariant-loop-at
invariant-loop-at l = record {
  len : vec_len l.lists ≡ l.at-end;
  items : items_of l.lists.items ≡ items_of l.initial.lists.items;
  room : HaveRoom l.n (take l.at l.lists.items);
  kept : (s : ℕ) → HaveRoom s l.initial.lists.items → HaveRoom s l.lists.items;
}
