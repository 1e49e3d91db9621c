use Rattle.std.proofs.Common.{[], ◌∷◌, ◌++◌}
use Rattle.order_log.proofs.Lists.{list_written}
use Rattle.order_log.proofs.waiting.WaitingLists.push.Goals as goal

pub returns-clause-lists : goal.returns-clause-lists
returns-clause-lists c =
    list_written c.self.inside.lists.items c.self.inside.spare c.args.self.now c.number_of-at.result c.args.entry.node.0 c.index_mut.result.now c.push_entry.new.list (λ es. es ++ c.args.entry ∷ []) c.self.view_is c.number_of-at.ensures.number c.number_of-at.ensures.within c.index_mut.ensures.value c.push_entry.ensures.items
