use Rattle.std.proofs.Common.{sym, ◌∙◌}
use Rattle.std.proofs.lemmas.Bool.{eqb-true}
use Rattle.directory.specs.Meanings.{record_of}
use Rattle.directory.proofs.Added.{AreMore-added, IsAdded, there-added}
use Rattle.directory.proofs.share.Share.add_line.Goals as goal

pub returns-clause-more : goal.returns-clause-more
returns-clause-more c =
    let h = record_of c.first_record.result in
    let is : IsAdded c.args.number h c.args.records.now c.add.new.self = record { lines = c.in_ok-add.ensures.lines; noted = c.in_ok-add.ensures.noted } in
    AreMore-added c.args.image.now c.args.self.now c.args.number h c.args.records.now c.add.new.self is c.first_record.ensures (eqb-true _ _ (sym c.has.ensures ∙ c.if-not-has.false), c.requires.mapped) c.requires.fresh

pub returns-clause-there : goal.returns-clause-there
returns-clause-there c =
    let h = record_of c.first_record.result in
    let is : IsAdded c.args.number h c.args.records.now c.add.new.self = record { lines = c.in_ok-add.ensures.lines; noted = c.in_ok-add.ensures.noted } in
    λ share. there-added c.args.number h c.args.records.now c.add.new.self is
