use Rattle.std.proofs.Common.{◌≡◌, nat_lt, insert, rules, ◌∙◌}
use Rattle.std.proofs.lemmas.Iterator.{YieldsList-from_slice}
use Rattle.std.proofs.lemmas.Iterator.Consumers.{YieldsList-from_filter, YieldsList-at, count_from_yields_List}
use borrow.Author.Tests.{tests}
use Rattle.settle_watch.proofs.InOrder.{insert_is_placed}
use Rattle.settle_watch.proofs.watch.place.Goals as goal

pub returns-clause-items : goal.returns-clause-items
returns-clause-items c =
    let count = count_from_yields_List c.filter.result c.count-at.result c.count-at.ensures.ran (YieldsList-from_filter _ (λ y. nat_lt y.seq c.args.load.seq) (YieldsList-at c.filter.ensures.source (YieldsList-from_slice c.deref.result.now cc)) c.filter.ensures.closure (λ x b q k. search (rules, tests))) in
    let is : c.insert.new.self.items ≡ insert c.args.loads.now.items c.count-at.result c.args.load = search rules in
    is ∙ rw (count, c.deref.ensures.value) (insert_is_placed c.args.load c.args.loads.now.items c.requires.order)
