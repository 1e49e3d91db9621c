use Rattle.std.proofs.Common.{◌==◌, rules, sym, ◌∙◌}
use Rattle.std.proofs.lemmas.Iterator.{YieldsList-from_slice}
use borrow.Author.Tests.{tests}
use Rattle.std.proofs.lemmas.Iterator.Search.{any_from_yields_List}
use Rattle.settle_watch.proofs.InOrder.{first_is_least}
use Rattle.settle_watch.proofs.NoVictims.{first_victim-none, oldest_victim-none}
use Rattle.settle_watch.specs.Watches.{is_victim}
use Rattle.settle_watch.proofs.watch.SettleWatch.victims.Goals as goal

pub returns-then-not-any-clause-oldest : goal.returns-then-not-any-clause-oldest
returns-then-not-any-clause-oldest c =
    let found = any_from_yields_List (λ x. x.0.0 == c.args.p.0) _ _ c.any.result c.any.ensures.ran (YieldsList-from_slice c.as_slice-lost.result.now cc) (λ x b q k. search (rules, tests)) in
    rw (← c.as_slice-lost.ensures.value) (sym (oldest_victim-none c.args.p.0 c.as_slice-lost.result.now c.args.self.now.loads (sym found ∙ c.if-not-any.true)))

pub returns-then-not-any-clause-first : goal.returns-then-not-any-clause-first
returns-then-not-any-clause-first c =
    let found = any_from_yields_List (λ x. x.0.0 == c.args.p.0) _ _ c.any.result c.any.ensures.ran (YieldsList-from_slice c.as_slice-lost.result.now cc) (λ x b q k. search (rules, tests)) in
    rw (← c.as_slice-lost.ensures.value) (sym (first_victim-none c.args.p.0 c.as_slice-lost.result.now c.args.self.now.loads (sym found ∙ c.if-not-any.true)))

pub returns-clause-oldest : goal.returns-clause-oldest
returns-clause-oldest c =
    let is = first_is_least (is_victim c.args.p.0 c.as_slice-lost.result.now) c.self.inside.loads.items c.self.invariant.1 in
    c.first_of.ensures ∙ rw (← c.self.view_is, ← c.as_slice-lost.ensures.value, c.as_slice.ensures.value) is
