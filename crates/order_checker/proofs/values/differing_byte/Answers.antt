use Rattle.order_checker.proofs.Covered.{covered_gap}
use Rattle.order_checker.proofs.values.differing_byte.Goals as goal

pub stored_byte-written-requires : goal.stored_byte-written-requires
stored_byte-written-requires c = covered_gap c.args.line.now c.args.store.now c.args.b c.requires.covers c.requires.addr c.requires.among
