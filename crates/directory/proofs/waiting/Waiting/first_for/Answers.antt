use Rattle.std.proofs.Common.{◌==◌, sym, ◌∙◌, ap}
use Rattle.std.specs.List.{position}
use Rattle.memory_contracts.specs.declared.message.Message.{Message}
use Rattle.memory_contracts.specs.Letters.{Letter, letter_of}
use Rattle.list_facts.specs.Tests.{position-map}
use Rattle.directory.proofs.waiting.Waiting.first_for.Goals as goal

pub returns-clause-first : goal.returns-clause-first
returns-clause-first c =
    c.place_of.ensures.first
    ∙ ap (position (λ (m : Message). m.line.0 == c.args.line.0)) c.as_slice.ensures.value
    ∙ sym (position-map (λ (w : Letter). w.line == c.args.line.0) letter_of c.args.self.now.requests.items)
