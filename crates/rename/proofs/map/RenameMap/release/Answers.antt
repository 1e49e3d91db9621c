-- The old register is pushed.
use Rattle.std.proofs.Common.{arith}
use Rattle.std.proofs.lemmas.Grind.{common_steps}
use Rattle.rename.proofs.Insides.{AreInside-push}
use Rattle.rename.proofs.map.RenameMap.release.Goals as goal

pub invariant_of-self : goal.invariant_of-self
invariant_of-self c = rw c.push.ensures (AreInside-push _ _ _ c.args.old c.self.invariant (grind (arith, common_steps)) (grind (arith, common_steps)))
