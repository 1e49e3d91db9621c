-- One number more.
use Rattle.std.proofs.Common.{◌≡◌, ◌++◌, ◌∷◌, [], suc, subst, sym, add-one, arith, rules}
use Rattle.order_checker.specs.Standing.{IsWalked}
use Rattle.order_checker.proofs.StillStanding.{walked_on}
use Rattle.order_checker.proofs.walk.Walk.reach.Goals as goal

pub loop-self-preserved : goal.loop-self-preserved
loop-self-preserved c =
    let items : c.push_back.new.self.items ≡ c.loop-self.self.left.items ++ c.loop-self.self.next ∷ [] = search rules in (
      λ places j within was.
          let next = c.loop-self.self.next in
          subst (λ n. IsWalked places j n c.push_back.new.self.items) (sym (add-one next))
          (subst (IsWalked places j (suc next)) (sym items) (walked_on places j next c.loop-self.self.left.items (c.loop-self.invariant.0 places j within was) (omega arith))),
      c.loop-self.invariant.1,
    )
