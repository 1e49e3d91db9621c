-- The laws are lemmas on the definitions.
use Rattle.settle_watch.proofs.InOrder.{placed_between, placed_in_order}
use Rattle.settle_watch.proofs.laws.loads_stand_in_order.Goals as goal

pub returns : goal.returns
returns c = record { between = placed_between; order = placed_in_order }
