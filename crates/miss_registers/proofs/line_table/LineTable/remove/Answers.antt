use Rattle.std.proofs.Common.{refl, sym}
use Rattle.miss_registers.specs.LineMap.{lines_of}
use Rattle.miss_registers.proofs.LineMaps.{get-HasLineAt, get-LacksLine, IsKeyOf-held, lines_of-freed, remove-absent}
use Rattle.miss_registers.proofs.line_table.LineTable.remove.Goals as goal

pub returns-in-Some-clause-found : goal.returns-in-Some-clause-found
returns-in-Some-clause-found g c = rw (← c.self.view_is, get-HasLineAt c.self.inside.entries c.args.line.0 c.in-Some.key c.self.invariant.apart c.in-Some.ensures.found) refl

pub returns-in-Some-clause-after : goal.returns-in-Some-clause-after
returns-in-Some-clause-after g c =
    let old = c.self.inside.entries in
    let line = c.args.line.0 in
    let key = c.in-Some.key in
    let lines = lines_of-freed old c.remove.new.self line key c.self.invariant.apart (IsKeyOf-held old line key c.self.invariant.apart c.in-Some.ensures.found) c.remove.ensures.updates in
    rw (← c.self.view_is) (λ i. record { places = c.self.inside.places; lines = lines i })

pub returns-in-None-clause-found : goal.returns-in-None-clause-found
returns-in-None-clause-found g c = rw (← c.self.view_is, get-LacksLine c.self.inside.entries c.args.line.0 c.self.invariant.apart c.in-None.ensures.absent) refl

pub returns-in-None-clause-after : goal.returns-in-None-clause-after
returns-in-None-clause-after g c =
    let old = c.self.inside.entries in
    let lines = remove-absent (lines_of old) c.args.line.0 (get-LacksLine old c.args.line.0 c.self.invariant.apart c.in-None.ensures.absent) in
    rw (← c.self.view_is) (λ i. record { places = c.self.inside.places; lines = sym lines i })
