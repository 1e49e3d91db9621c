use Rattle.std.proofs.Common.{map, ap, ◌∙◌}
use Rattle.memory_contracts.specs.Letters.{letter_of}
use Rattle.list_facts.specs.Places.{map-remove}
use Rattle.directory.proofs.waiting.Waiting.remove.Goals as goal

pub returns-clause-rest : goal.returns-clause-rest
returns-clause-rest c = ap (map letter_of) c.remove.ensures.items ∙ map-remove letter_of c.args.self.now.requests.items c.args.place
