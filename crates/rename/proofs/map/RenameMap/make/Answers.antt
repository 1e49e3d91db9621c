-- The three parts are those of the first registers.
use Rattle.std.proofs.Common.{rules}
use Rattle.rename.proofs.Insides.{AreInside-first, view_of_first}
use Rattle.rename.proofs.map.RenameMap.make.Goals as goal

pub invariant_of-result : goal.invariant_of-result
invariant_of-result c = AreInside-first c.args.extra _ _ _ c.requires c.first_registers.ensures (search rules) (search rules)

pub returns-clause-value : goal.returns-clause-value
returns-clause-value c = view_of_first c.args.extra c.args.state.now _ c.in_ok-map_err.field-0 _ c.first_registers.ensures (search rules) (search rules)
