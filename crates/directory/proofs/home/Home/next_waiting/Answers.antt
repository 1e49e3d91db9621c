use Rattle.std.proofs.Common.{List, sym, ap, subst, ◌∙◌}
use Rattle.memory_contracts.specs.Letters.{Letter, letter_of}
use Rattle.directory.specs.HomeParts.{AreFrom, has_line, letters_in}
use Rattle.directory.proofs.Letters.{first_for-line, from-remove}
use Rattle.directory.proofs.home.Home.next_waiting.Goals as goal

pub invariant_of-self : goal.invariant_of-self
invariant_of-self c =
    let s = c.args.self.now in
    record {
      few = s.few;
      known = s.known;
      asked = subst (λ (letters : List Letter). AreFrom s.table.nodes letters) (sym c.remove-request.ensures.rest) (from-remove s.table.nodes (letters_in s.waiting) c.in-Some.place s.asked);
      places = c.remove-request.ensures.most ∙ s.places;
    }

pub take-requires-clause-line : goal.take-requires-clause-line
take-requires-clause-line c =
    let s = c.args.self.now in
    let line = first_for-line c.args.line.0 (letters_in s.waiting) c.in-Some.place (letter_of c.remove-request.result) (sym c.in-Some.ensures.first) c.remove-request.ensures.stood in
    ap (has_line s.records) line ∙ c.requires.line
