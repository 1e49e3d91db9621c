use Rattle.std.proofs.Common.{nat_le, refl, rules, arith}
use Rattle.std.proofs.lemmas.Fn.{filter_same}
use borrow.Author.Tests.{tests}
use Rattle.settle_watch.proofs.InOrder.{filter_in_order}
use Rattle.settle_watch.proofs.watch.SettleWatch.cut_after.Goals as goal

pub invariant_of-self : goal.invariant_of-self
invariant_of-self c =
    let left = filter_same _ (λ x. nat_le x.seq c.args.seq) _ (λ x b f' k. search (rules, tests)) _ _ c.retain.ensures.filtered in
    (omega arith, rw left (filter_in_order (λ x. nat_le x.seq c.args.seq) c.self.inside.loads.items c.self.invariant.1))

pub returns : goal.returns
returns c =
    let left = filter_same _ (λ x. nat_le x.seq c.args.seq) _ (λ x b f' k. search (rules, tests)) _ _ c.retain.ensures.filtered in
    rw (← c.self.view_is) (rw left refl)
