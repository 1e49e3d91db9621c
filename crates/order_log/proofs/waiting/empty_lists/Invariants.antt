use Rattle.std.proofs.Common.{◌≡◌, [], replicate}
use Rattle.order_log.specs.Entries.{items_of, HaveRoom}
use Rattle.order_log.proofs.waiting.empty_lists.Given as goal

abbrev pub invariant-loop : goal.invariant-loop
invariant-loop l = record {
  lists : items_of l.lists.items ≡ replicate l.counter [];
  room : HaveRoom 0 l.lists.items;
}
