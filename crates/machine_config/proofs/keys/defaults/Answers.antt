use Rattle.std.proofs.Common.{◌≡◌, ◌≢◌, ◌<◌, List, map, length, sym, ap, ◌∙◌, arith, below_more, length-set, get_or-set_same, get_or-set_other}
use Rattle.std.proofs.lemmas.List.{ext_get_or, get_or-map, length-map}
use Rattle.std.proofs.lemmas.Simd.{map-map}
use Rattle.machine_config.specs.Keys.{keys}
use Rattle.machine_config.specs.Reading.{Row, row_of, row_of_code}
use Rattle.machine_config.proofs.keys.defaults.Goals as goal

pub loop-place-preserved : goal.loop-place-preserved
loop-place-preserved c = (
  rw length-set c.loop-place.invariant.0,
  below_more _ _
      (λ k h. let ne : k ≢ c.loop-place.place = omega arith in rw get_or-set_other (c.loop-place.invariant.1 k h))
      (let lt : c.loop-place.place < length c.loop-place.numbers = omega (arith, c.table-keys.ensures.count) in
      rw get_or-set_same (sym (get_or-map (λ row. row.default) c.table-keys.result.now c.loop-place.place _ 0 c.loop-place-test.true))),
)

pub returns : goal.returns
returns c =
    let defaults = λ (rows : List Row). map (λ row. row.default) rows in
    let table = c.table-keys.result.now in
    let here : c.loop-place.numbers ≡ map (λ row. row.default) table =
    ext_get_or 0 _ _ (omega (arith, c.table-keys.ensures.count, length-map table (λ row. row.default)))
    (λ k below. c.loop-place.invariant.1 k (omega (arith, below, c.table-keys.ensures.count))) in
    here ∙ sym (map-map (λ row. row.default) row_of_code table) ∙ ap defaults c.table-keys.ensures.rows ∙ map-map (λ row. row.default) row_of keys
