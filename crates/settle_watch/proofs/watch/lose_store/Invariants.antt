use Rattle.std.proofs.Common.{◌≡◌, ◌++◌, map, take, drop}
use Rattle.settle_watch.specs.Watches.{store_performed}
use Rattle.settle_watch.proofs.watch.lose_store.Given as goal

abbrev pub invariant-loop-load : goal.invariant-loop-load
invariant-loop-load l = l.loads ≡ map (store_performed l.seq) (take l.load-index l.initial.loads) ++ drop l.load-index l.initial.loads
