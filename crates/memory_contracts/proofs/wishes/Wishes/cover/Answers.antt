use Rattle.std.proofs.Common.{◌≡◌, sym, ap, ◌∙◌, arith}
use Rattle.std.proofs.lemmas.Grind.{common_steps}
use Rattle.std.specs.List.{list_any}
use Rattle.memory_contracts.specs.Store.{covers}
use Rattle.memory_contracts.specs.Parts.{wanted_in, wish_of}
use Rattle.list_facts.specs.Tests.{any-map}
use Rattle.memory_contracts.proofs.wishes.Wishes.cover.Goals as goal

pub returns : goal.returns
returns c =
    let wanted = wanted_in c.args.self.now c.args.p.0 in
    let same : c.as_slice.result.now ≡ wanted = grind (arith, common_steps) in
    c.covered.ensures ∙ ap (list_any (λ w. covers c.args.line.0 c.args.own (wish_of w))) same ∙ sym (any-map (covers c.args.line.0 c.args.own) wish_of wanted)
