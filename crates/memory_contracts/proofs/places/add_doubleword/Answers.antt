use Rattle.memory_contracts.proofs.Added.{AreMore-added, IsAdded, has_place-added}
use Rattle.memory_contracts.proofs.places.add_doubleword.Goals as goal

pub returns-clause-more : goal.returns-clause-more
returns-clause-more c =
    let is : IsAdded c.args.image.now c.args.per_line c.args.number c.args.memory.now c.args.owners.now c.add.new.self c.add-2.new.self = record {
      value = c.in_ok-add.ensures.bytes.0;
      first = c.in_ok-add.ensures.bytes.1;
      doublewords = c.in_ok-add.ensures.bytes.2;
      kept = c.in_ok-add.ensures.kept;
      owner = c.in_ok-add-2.ensures.owner;
      lines = c.in_ok-add-2.ensures.kept;
    } in
    AreMore-added c.args.image.now c.args.per_line c.args.number c.args.memory.now c.args.owners.now c.add.new.self c.add-2.new.self is c.requires.fresh

pub returns-clause-there : goal.returns-clause-there
returns-clause-there c =
    let is : IsAdded c.args.image.now c.args.per_line c.args.number c.args.memory.now c.args.owners.now c.add.new.self c.add-2.new.self = record {
      value = c.in_ok-add.ensures.bytes.0;
      first = c.in_ok-add.ensures.bytes.1;
      doublewords = c.in_ok-add.ensures.bytes.2;
      kept = c.in_ok-add.ensures.kept;
      owner = c.in_ok-add-2.ensures.owner;
      lines = c.in_ok-add-2.ensures.kept;
    } in
    has_place-added c.args.image.now c.args.per_line c.args.number c.args.memory.now c.args.owners.now c.add.new.self c.add-2.new.self is
