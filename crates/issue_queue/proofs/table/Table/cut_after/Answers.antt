use Rattle.std.proofs.Common.{◌≡◌, ℕ, ◌+◌, ◌%◌, ◌<◌, ◌&&◌, nat_le, ap, ◌∙◌, arith}
use Rattle.ring_set.specs.Sets.{has, place_at}
use Rattle.issue_queue.specs.Tables.{held_of}
use Rattle.issue_queue.proofs.Entries.{entries-cut}
use Rattle.issue_queue.proofs.table.Table.cut_after.Goals as goal

pub returns : goal.returns
unfolding place_at
returns c =
    let t = c.self.inside in
    let kept : (k : ℕ) → k < 128 → has c.run-kept.result ((t.low + k) % 128) ≡ nat_le (t.low + k) c.args.seq = λ k lt.
    let e : (t.low + k) % 128 ≡ (c.place_of.result + k) % 128 = omega (arith, c.place_of.ensures.value) in
    ap (has c.run-kept.result) e ∙ c.run-kept.ensures k lt ∙ c.ages_to.ensures.ages k lt in
    let entries = entries-cut t c.self.invariant c.args.seq c.and-self-inside.result c.and-self-inside-2.result c.and-self-inside-3.result (λ k lt. c.and-self-inside.ensures _ ∙ ap (λ b. has t.live ((t.low + k) % 128) && b) (kept k lt)) in
    rw (← c.self.view_is) (λ i. record (held_of t) { entries = entries i })
