-- The old register is mapped, and the new one pushed.
use Rattle.std.proofs.Common.{◌∷◌, ◌++◌, [], ◌∙◌, ap, arith, slice_set}
use Rattle.std.proofs.lemmas.Grind.{common_steps}
use Rattle.rename.specs.Names.{NamesView}
use Rattle.rename.proofs.Insides.{AreInside-push, AreInside-set, view_of_undone}
use Rattle.rename.proofs.map.RenameMap.back_to.Goals as goal

pub invariant_of-self : goal.invariant_of-self
invariant_of-self c =
    let mapped = AreInside-set _ _ _ c.from.result c.args.u.old c.self.invariant (grind (arith, common_steps)) in
    rw c.push.ensures (AreInside-push _ _ _ c.args.u.new mapped (grind (arith, common_steps)) (grind (arith, common_steps)))

pub returns : goal.returns
returns c =
    let undone : NamesView → NamesView = λ v. record v { current = slice_set v.current c.args.u.reg.0 c.args.u.old.0; free = v.free ++ c.args.u.new.0 ∷ [] } in
    rw (c.from.ensures, c.push.ensures) (view_of_undone c.self.inside.current c.self.inside.free.items c.self.inside.values.items c.args.u.reg.0 c.args.u.old c.args.u.new ∙ ap undone c.self.view_is)
