use Rattle.order_log.specs.Entries.{without}
use Rattle.order_log.proofs.Lists.{list_written}
use Rattle.order_log.proofs.waiting.WaitingLists.remove.Goals as goal

pub returns-clause-lists : goal.returns-clause-lists
returns-clause-lists c =
    list_written c.self.inside.lists.items c.self.inside.spare c.args.self.now c.number_of-at.result c.args.node.0 c.index_mut.result.now c.remove_entries.new.list (without c.args.node.0 c.args.span) c.self.view_is c.number_of-at.ensures.number c.number_of-at.ensures.within c.index_mut.ensures.value c.remove_entries.ensures.items
