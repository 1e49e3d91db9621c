use Rattle.std.proofs.Common.{not, rules}
use Rattle.std.proofs.lemmas.Fn.{filter_same}
use Rattle.order_log.specs.Entries.{is_meant}
use Rattle.order_log.proofs.waiting.remove_entries.Goals as goal

pub returns-clause-items : goal.returns-clause-items
returns-clause-items c =
    filter_same _ (λ e. not (is_meant c.args.node.0 c.args.span e.node.0 e.index)) _ (λ x b f' t. search rules) _ _ c.retain.ensures.filtered
