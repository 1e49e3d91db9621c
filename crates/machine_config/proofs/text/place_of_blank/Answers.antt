use Rattle.std.specs.Prelude.{position}
use Rattle.std.proofs.Common.{◌≡◌, ℕ, ◌∙◌, refl, rules, tests}
use Rattle.std.proofs.lemmas.Iterator.{YieldsList-from_slice}
use Rattle.std.proofs.lemmas.Iterator.Search.{position_from_yields_List}
use Rattle.machine_config.specs.Text.{is_blank}
use Rattle.machine_config.proofs.Places.{first_place}
use Rattle.machine_config.proofs.text.place_of_blank.Goals as goal

pub returns-clause-place : goal.returns-clause-place
returns-clause-place c =
    let test = λ (b : ℕ). is_blank b in
    let found : c.position-place.result ≡ position test c.args.bytes.now =
    position_from_yields_List test _ _ c.position-place.result c.position-place.ensures.ran (YieldsList-from_slice c.args.bytes.now cc) (λ x b q k. search (rules, tests)) in
    c.unwrap_or.ensures ∙ first_place test c.args.bytes.now c.position-place.result _ found refl
