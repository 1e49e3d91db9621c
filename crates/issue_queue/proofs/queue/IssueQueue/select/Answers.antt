use Rattle.std.proofs.Common.{◌≡◌, ℕ, ◌+◌, Some, length, arith, sym, ap, ◌∙◌, subst, set}
use Rattle.rsim_base.specs.declared.processor.Unit.{Unit}
use Rattle.issue_queue.specs.Queues.{QueueView, Selects, free_divider, takes_unit}
use Rattle.issue_queue.specs.Views.{view_of}
use Rattle.issue_queue.proofs.Selects.{selects_by, with_held}
use Rattle.issue_queue.proofs.queue.IssueQueue.select.Goals as goal

pub returns-in-Alu : goal.returns-in-Alu
returns-in-Alu c =
    let q : QueueView = view_of c.self.inside in
    let first : c.free_divider-divider.result ≡ free_divider q.now q.dividers = c.free_divider-divider.ensures.value ∙ ap (λ (n : ℕ). free_divider n q.dividers) c.tick-tick.ensures in
    let all : c.len.result ≡ length q.dividers = omega (arith, c.len.ensures, c.self.inside.dividers.ok.0) in
    let selects = selects_by q c.free_divider-divider.result c.len.result c.in_ok-seq.seq c.in_ok-seq.unit c.issue.new.self first all c.in_ok-seq.ensures.issues in
    let now = subst (λ (u : Unit). Selects q (Some c.in_ok-seq.seq) (takes_unit u (with_held q c.issue.new.self))) c.in-Alu.is selects.0 in
    rw (← c.self.view_is) now

pub returns-in-Mul : goal.returns-in-Mul
returns-in-Mul c =
    let q : QueueView = view_of c.self.inside in
    let first : c.free_divider-divider.result ≡ free_divider q.now q.dividers = c.free_divider-divider.ensures.value ∙ ap (λ (n : ℕ). free_divider n q.dividers) c.tick-tick.ensures in
    let all : c.len.result ≡ length q.dividers = omega (arith, c.len.ensures, c.self.inside.dividers.ok.0) in
    let selects = selects_by q c.free_divider-divider.result c.len.result c.in_ok-seq.seq c.in_ok-seq.unit c.issue.new.self first all c.in_ok-seq.ensures.issues in
    let now = subst (λ (u : Unit). Selects q (Some c.in_ok-seq.seq) (takes_unit u (with_held q c.issue.new.self))) c.in-Mul.is selects.0 in
    rw (← c.self.view_is) now

pub returns-in-Div : goal.returns-in-Div
returns-in-Div c =
    let q : QueueView = view_of c.self.inside in
    let first : c.free_divider-divider.result ≡ free_divider q.now q.dividers = c.free_divider-divider.ensures.value ∙ ap (λ (n : ℕ). free_divider n q.dividers) c.tick-tick.ensures in
    let all : c.len.result ≡ length q.dividers = omega (arith, c.len.ensures, c.self.inside.dividers.ok.0) in
    let selects = selects_by q c.free_divider-divider.result c.len.result c.in_ok-seq.seq c.in_ok-seq.unit c.issue.new.self first all c.in_ok-seq.ensures.issues in
    let now = subst (λ (u : Unit). Selects q (Some c.in_ok-seq.seq) (takes_unit u (with_held q c.issue.new.self))) c.in-Div.is selects.0 in
    let at : free_divider c.issue.new.self.tick q.dividers ≡ c.free_divider-divider.result = ap (λ (n : ℕ). free_divider n q.dividers) selects.1 ∙ sym first in
    let end : c.issue.new.self.tick + c.self.inside.ticks.div ≡ c.tick-tick.result + c.from.result = omega (arith, selects.1, c.tick-tick.ensures, c.from.ensures) in
    rw (← c.self.view_is) (subst (λ (v : QueueView). Selects q (Some c.in_ok-seq.seq) v) (λ i. record (with_held q c.issue.new.self) { dividers = set q.dividers (at i) (end i) }) now)
