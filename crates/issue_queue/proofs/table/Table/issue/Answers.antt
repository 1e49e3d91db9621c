use Rattle.std.proofs.Common.{ℕ, ◌+◌, ◌∙◌, sym, ap, subst, set}
use Rattle.issue_queue.specs.Words.{IsFirst}
use Rattle.issue_queue.proofs.Entries.{issues_first, issues_none}
use Rattle.issue_queue.proofs.table.Table.issue.Goals as goal

pub returns-in_err-age-clause-issues : goal.returns-in_err-age-clause-issues
returns-in_err-age-clause-issues c = rw (← c.self.view_is) (issues_none c.self.inside c.self.invariant c.args.able.now c.args.ticks.now c.with_able-able.result _ c.with_able-able.ensures c.in_err-age.ensures c.from_residual.ensures)

pub returns-clause-issues : goal.returns-clause-issues
returns-clause-issues c =
    let t = c.self.inside in
    let place = c.place_of-place.result in
    let end : ℕ = t.tick + c.from-2.result in
    let first = subst (λ (age : ℕ). IsFirst c.with_able-able.result t.low age) (sym c.from.ensures) c.in_ok-age.ensures in
    rw (← c.self.view_is) (issues_first t c.self.invariant c.args.able.now c.args.ticks.now c.with_able-able.result c.from.result place end c.unit_of-unit.result _ _ _
    c.with_able-able.ensures first c.place_of-place.ensures.value c.with-self-inside.ensures
    (ap (λ (i : ℕ). set t.until.items i end) c.from-3.ensures)
    c.unit_of-unit.ensures (ap (λ (n : ℕ). t.tick + n) (c.from-2.ensures ∙ c.of.ensures)))
