use Rattle.std.proofs.Common.{ℕ, sym, subst}
use Rattle.issue_queue.specs.Words.{IsFirst}
use Rattle.issue_queue.proofs.Entries.{ends_first, ends_none}
use Rattle.issue_queue.proofs.table.Table.finish.Goals as goal

pub returns-in_err-age : goal.returns-in_err-age
returns-in_err-age c = rw (← c.self.view_is) (ends_none c.self.inside c.self.invariant _ c.in_err-age.ensures c.from_residual.ensures)

pub returns : goal.returns
returns c =
    let first = subst (λ (age : ℕ). IsFirst c.self.inside.done c.self.inside.low age) (sym c.from.ensures) c.in_ok-age.ensures in
    rw (← c.self.view_is) (ends_first c.self.inside c.self.invariant c.from.result c.place_of-place.result _ _ first c.place_of-place.ensures.value c.without-self-inside.ensures.has)
