use Rattle.std.proofs.Common.{◌&&◌, ◌==◌, rules}
use Rattle.std.proofs.lemmas.Iterator.{YieldsList-from_slice}
use Rattle.std.proofs.lemmas.Iterator.Search.{any_from_yields_List}
use borrow.Author.Tests.{tests}
use Rattle.settle_watch.proofs.watch.Watched.is_victim.Goals as goal

pub returns-then-not-self : goal.returns-then-not-self
returns-then-not-self c =
    let found = any_from_yields_List (λ x. (x.0.0 == c.args.p.0) && (x.1.0 == c.args.self.now.line.0)) _ _ _ c.any.ensures.ran (YieldsList-from_slice c.args.lost.now cc) (λ x b q k. search (rules, tests)) in
    rw c.if-not-self.true found
