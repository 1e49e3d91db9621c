use Rattle.std.proofs.Common.{◌≡◌, ◌==◌, ℕ, position, rules, tests, sym, ◌∙◌}
use Rattle.std.proofs.lemmas.Iterator.{YieldsList-from_slice}
use Rattle.std.proofs.lemmas.Iterator.Search.{position_from_yields_List}
use Rattle.cache_sets.proofs.Places.{passes_at_place, count_by_no_place, slot_first-turned, slot_first-none}
use Rattle.cache_sets.proofs.slots.put_first.Goals as goal

pub returns-in-Some : goal.returns-in-Some
returns-in-Some c =
    let test = λ (s : ℕ). s == c.args.slot in
    let slots = c.args.slots.now in
    let found : c.position.result ≡ position test slots =
    position_from_yields_List test _ _ c.position.result c.position.ensures.ran (YieldsList-from_slice slots cc) (λ x b q k. search (rules, tests)) in
    let (below, is) = passes_at_place test slots c.in-Some.at 0 (sym found ∙ c.in-Some.is) in
    slot_first-turned slots c.rotate_right.new.self c.args.slot c.in-Some.at below is c.requires c.rotate_right.ensures.after

pub returns-in_default : goal.returns-in_default
returns-in_default c =
    let test = λ (s : ℕ). s == c.args.slot in
    let slots = c.args.slots.now in
    let found : c.position.result ≡ position test slots =
    position_from_yields_List test _ _ c.position.result c.position.ensures.ran (YieldsList-from_slice slots cc) (λ x b q k. search (rules, tests)) in
    slot_first-none slots c.args.slot (count_by_no_place test slots (sym found ∙ c.in_default.is))
