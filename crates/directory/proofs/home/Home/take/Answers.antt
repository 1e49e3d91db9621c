use Rattle.std.proofs.Common.{ℕ, List, sym, subst, ◌∙◌}
use Rattle.memory_contracts.specs.Protocol.Lines.{HomeRecord}
use Rattle.memory_contracts.specs.Protocol.HomeTable.{HomeStep}
use Rattle.memory_contracts.specs.Letters.{Letter, letter_of}
use Rattle.directory.specs.HomeParts.{AreFrom, AreKnown, letters_in, records_in}
use Rattle.directory.specs.Bounds.{IsKnown}
use Rattle.directory.specs.Meanings.{record_of}
use Rattle.memory_contracts.specs.Letters.{said}
use Rattle.directory.proofs.Letters.{from-push_if}
use Rattle.directory.proofs.Within.{IsWithin, known-with, takes-within}
use Rattle.directory.proofs.home.Home.take.Goals as goal

pub send-requires-clause-known : goal.send-requires-clause-known
send-requires-clause-known c =
    let s = c.args.self.now in
    let n = s.table.nodes in
    let m = c.args.m.now in
    let known : IsKnown n (record_of c.get-noted.result) = subst (λ (h : HomeRecord). IsKnown n h) (sym c.get-noted.ensures) (s.known m.line.0) in
    let within = subst (λ (t : HomeStep). IsWithin n t) (sym c.step-step.ensures) (takes-within s.table.protocol n m.from.0 (said m) (record_of c.get-noted.result) c.requires.from known) in
    within.sent

pub invariant_of-self : goal.invariant_of-self
invariant_of-self c =
    let s = c.args.self.now in
    let n = s.table.nodes in
    let m = c.args.m.now in
    let known : IsKnown n (record_of c.get-noted.result) = subst (λ (h : HomeRecord). IsKnown n h) (sym c.get-noted.ensures) (s.known m.line.0) in
    let within = subst (λ (t : HomeStep). IsWithin n t) (sym c.step-step.ensures) (takes-within s.table.protocol n m.from.0 (said m) (record_of c.get-noted.result) c.requires.from known) in
    record {
      few = s.few;
      known = subst (λ (records : ℕ → HomeRecord). AreKnown n records) (sym c.set.ensures.noted) (known-with n (records_in s.records) m.line.0 (record_of c.step-step.result.after) s.known within.after);
      asked = subst (λ (letters : List Letter). AreFrom n letters) (sym c.push_if.ensures.letters) (from-push_if n (letters_in s.waiting) (letter_of m) s.asked c.requires.from c.step-step.result.waits);
      places = c.push_if.ensures.most ∙ s.places;
    }
