use Rattle.std.proofs.Common.{◌≡◌, length, refl, rules, ◌∙◌}
use Rattle.issue_queue.proofs.Empty.{entries-empty, length_made, sound-empty}
use Rattle.issue_queue.proofs.table.Table.make.Goals as goal

pub invariant_of-result : goal.invariant_of-result
invariant_of-result c =
    let needs : length c.in_ok-needs.needs.items ≡ 128 = length_made c.vec.result c.map_err.result _ c.from-places.result c.in_ok-needs.needs c.vec.ensures.len c.map_err.ensures.cases c.map_err.ensures.variant c.in_ok-needs.was ∙ c.from-places.ensures in
    let until : length c.in_ok-until.until.items ≡ 128 = length_made c.vec-2.result c.map_err-2.result _ c.from-places.result c.in_ok-until.until c.vec-2.ensures.len c.map_err-2.ensures.cases c.map_err-2.ensures.variant c.in_ok-until.was ∙ c.from-places.ensures in
    sound-empty _ refl c.none-2.ensures c.none-3.ensures c.none-5.ensures needs until

pub returns : goal.returns
returns c =
    let readers : length c.in_ok-readers.readers.items ≡ c.args.registers = search rules in
    let entries = entries-empty _ c.none-2.ensures in
    λ i. record { entries = entries i; tick = 0; registers = readers i }
