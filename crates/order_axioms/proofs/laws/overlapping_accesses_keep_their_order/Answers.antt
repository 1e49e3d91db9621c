-- The laws are lemmas on the definitions.
use Rattle.order_axioms.proofs.Needed.{needs_assumed, overlapping_in_order}
use Rattle.order_axioms.proofs.laws.overlapping_accesses_keep_their_order.Goals as goal

pub returns : goal.returns
returns c = record { overlapping = overlapping_in_order; assumed = needs_assumed }
