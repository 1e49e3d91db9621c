use Rattle.std.specs.Prelude.{position}
use Rattle.std.specs.Str.{bytes_eq}
use Rattle.std.proofs.Common.{◌≡◌, sym, ap, ◌∙◌, rules, tests}
use Rattle.std.proofs.lemmas.Iterator.{YieldsList-from_slice}
use Rattle.std.proofs.lemmas.Iterator.Search.{position_from_yields_List}
use Rattle.machine_config.specs.Keys.{keys}
use Rattle.machine_config.specs.Reading.{Row, row_of, row_of_code}
use Rattle.machine_config.proofs.Places.{position-map}
use Rattle.machine_config.proofs.keys.place_of.Goals as goal

pub returns : goal.returns
returns c =
    let named = λ (row : Row). bytes_eq row.name c.args.name.now in
    let found : c.position.result ≡ position (λ row. named (row_of_code row)) c.table.result.now =
    position_from_yields_List (λ row. named (row_of_code row)) _ _ c.position.result c.position.ensures.ran (YieldsList-from_slice c.table.result.now cc) (λ x b q k. search (rules, tests)) in
    found ∙ sym (position-map row_of_code named c.table.result.now) ∙ ap (position named) c.table.ensures.rows ∙ position-map row_of named keys
