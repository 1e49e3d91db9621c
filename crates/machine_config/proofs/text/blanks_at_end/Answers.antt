use Rattle.std.specs.Prelude.{position, reverse}
use Rattle.std.proofs.Common.{◌≡◌, ℕ, ◌∙◌, not, sym, rules, tests}
use Rattle.std.proofs.lemmas.Iterator.Adapters.{YieldsList-from_rev_slice}
use Rattle.std.proofs.lemmas.Iterator.Search.{position_from_yields_List}
use Rattle.std.proofs.lemmas.List.{length-reverse}
use Rattle.machine_config.specs.Text.{is_blank}
use Rattle.machine_config.proofs.Places.{first_place}
use Rattle.machine_config.proofs.text.blanks_at_end.Goals as goal

pub returns-clause-place : goal.returns-clause-place
returns-clause-place c =
    let test = λ (b : ℕ). not (is_blank b) in
    let found : c.position-place.result ≡ position test (reverse c.args.bytes.now) =
    position_from_yields_List test _ _ c.position-place.result c.position-place.ensures.ran (YieldsList-from_rev_slice c.args.bytes.now cc) (λ x b q k. search (rules, tests)) in
    c.unwrap_or.ensures ∙ first_place test (reverse c.args.bytes.now) c.position-place.result _ found (sym (length-reverse c.args.bytes.now))
