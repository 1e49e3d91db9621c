use Rattle.std.proofs.Common.{ℕ, ◌%◌, ◌*◌, arith, ap, ◌∙◌}
use Rattle.cache_sets.proofs.Calls.{home_is, home_ends, slot_count_is}
use Rattle.cache_sets.proofs.sets.CacheSets.start_of.Goals as goal

pub returns-clause-start : goal.returns-clause-start
returns-clause-start c =
    let s = c.self.inside in
    rw (← c.self.view_is) (ap (λ (n : ℕ). n * s.ways) (ap (λ (m : ℕ). c.args.line.0 % m) c.from.ensures ∙ home_is s.sets s.ways c.args.line.0 s.lines.items s.reserved.items s.recency.items))

pub returns-clause-within : goal.returns-clause-within
returns-clause-within c =
    let s = c.self.inside in
    let home = ap (λ (m : ℕ). c.args.line.0 % m) c.from.ensures ∙ home_is s.sets s.ways c.args.line.0 s.lines.items s.reserved.items s.recency.items in
    rw (← c.self.view_is, home) (omega (arith, home_ends s.sets s.ways c.args.line.0 s.lines.items s.reserved.items s.recency.items c.self.invariant, slot_count_is s.sets s.ways s.lines.items s.reserved.items s.recency.items))

pub returns-clause-small : goal.returns-clause-small
returns-clause-small c =
    let s = c.self.inside in
    rw (← c.self.view_is) (omega (arith, c.self.invariant.small, slot_count_is s.sets s.ways s.lines.items s.reserved.items s.recency.items))
