use Rattle.std.proofs.Common.{refl}
use Rattle.miss_registers.proofs.LineMaps.{get-HasLineAt, get-LacksLine, IsSound-rewritten, lines_of-rewritten}
use Rattle.miss_registers.proofs.line_table.LineTable.set.Goals as goal

pub invariant_of-self : goal.invariant_of-self
invariant_of-self g c = IsSound-rewritten c.self.inside.entries c.args.line.0 c.in-Some.key c.index_mut.result.now c.args.value c.in-Some.ensures.found c.index_mut.ensures.value c.self.inside.places c.self.invariant

pub returns-in-Some-clause-found : goal.returns-in-Some-clause-found
returns-in-Some-clause-found g c = rw (← c.self.view_is, get-HasLineAt c.self.inside.entries c.args.line.0 c.in-Some.key c.self.invariant.apart c.in-Some.ensures.found) refl

pub returns-in-Some-clause-after : goal.returns-in-Some-clause-after
returns-in-Some-clause-after g c =
    let lines = lines_of-rewritten c.self.inside.entries c.args.line.0 c.in-Some.key c.index_mut.result.now c.args.value c.in-Some.ensures.found c.index_mut.ensures.value c.self.invariant.apart in
    rw (← c.self.view_is) (λ i. record { places = c.self.inside.places; lines = lines i })

pub returns-in-None-clause-found : goal.returns-in-None-clause-found
returns-in-None-clause-found g c = rw (← c.self.view_is, get-LacksLine c.self.inside.entries c.args.line.0 c.self.invariant.apart c.in-None.ensures.absent) refl
