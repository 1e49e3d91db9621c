use Rattle.std.proofs.Common.{◌≡◌, Some, None, arith}
use Rattle.std.specs.FinMap as finite
use Rattle.std.proofs.lemmas.Bool.Decides.{nat_tests}
use Rattle.miss_registers.specs.LineMap.{lines_of}
use Rattle.miss_registers.proofs.Entries.{AreApart-update}
use Rattle.miss_registers.proofs.LineMaps.{IsKeyOf-vacant, lines_of-put, len-lines_of}
use Rattle.miss_registers.proofs.line_table.LineTable.insert.Goals as goal

pub returns-then-len-self-clause-full : goal.returns-then-len-self-clause-full
returns-then-len-self-clause-full g c = rw (← c.self.view_is, len-lines_of c.self.inside.entries c.self.invariant.apart) (grind (arith, nat_tests))

pub invariant_of-self : goal.invariant_of-self
invariant_of-self g c =
    let old = c.self.inside.entries in
    let key = c.insert_reserved.result in
    let none : finite.get (lines_of old) c.args.line.0 ≡ None = rw (← c.self.view_is) at c.requires in
    record {
      apart = AreApart-update old _ c.args.line.0 key (Some c.args.value) (IsKeyOf-vacant old c.args.line.0 key none c.insert_reserved.ensures.was_vacant) c.insert_reserved.ensures.updates c.self.invariant.apart;
      within = let within = c.self.invariant.within in omega (arith, c.insert_reserved.ensures.len, c.len.ensures, c.if-len-self.false);
      room = rw c.insert_reserved.ensures.capacity c.self.invariant.room;
    }

pub returns-clause-full : goal.returns-clause-full
returns-clause-full g c = rw (← c.self.view_is, len-lines_of c.self.inside.entries c.self.invariant.apart) (grind (arith, nat_tests))

pub returns-clause-ok : goal.returns-clause-ok
returns-clause-ok g c =
    let old = c.self.inside.entries in
    let line = c.args.line.0 in
    let key = c.insert_reserved.result in
    let none : finite.get (lines_of old) line ≡ None = rw (← c.self.view_is) at c.requires in
    let lines = lines_of-put old c.insert_reserved.new.self line key c.self.invariant.apart (IsKeyOf-vacant old line key none c.insert_reserved.ensures.was_vacant) c.args.value c.insert_reserved.ensures.updates in
    rw (← c.self.view_is) (λ i. record { places = c.self.inside.places; lines = lines i })
