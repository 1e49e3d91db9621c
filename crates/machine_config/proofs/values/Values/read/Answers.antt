use Rattle.std.specs.Prelude.{position}
use Rattle.std.specs.Str.{bytes_eq}
use Rattle.std.proofs.Common.{◌≡◌, [], map, sym, ◌∙◌, refl, rules, tests}
use Rattle.std.proofs.lemmas.Iterator.{YieldsList-from_slice}
use Rattle.std.proofs.lemmas.Iterator.Search.{position_from_yields_List}
use Rattle.machine_config.proofs.Places.{position-map, position-first, list_any-Some, list_any-None}
use Rattle.machine_config.proofs.values.Values.read.Goals as goal

pub returns-in-Some : goal.returns-in-Some
returns-in-Some c =
    let test = bytes_eq c.args.value.now in
    let found : c.position.result ≡ position (λ (w : _). test w.now) c.in-Word.words.now =
    position_from_yields_List (λ w. test w.now) _ _ c.position.result c.position.ensures.ran (YieldsList-from_slice c.in-Word.words.now cc) (λ x b q k. search (rules, tests)) in
    let at = position-map (λ w. w.now) test c.in-Word.words.now ∙ sym found ∙ c.in-Some.is in
    rw (c.in-Word.is, list_any-Some test (map (λ w. w.now) c.in-Word.words.now) c.in-Some.place [] at)
    (refl, sym (position-first test (map (λ w. w.now) c.in-Word.words.now) c.in-Some.place at))

pub returns-in-None : goal.returns-in-None
returns-in-None c =
    let test = bytes_eq c.args.value.now in
    let found : c.position.result ≡ position (λ (w : _). test w.now) c.in-Word.words.now =
    position_from_yields_List (λ w. test w.now) _ _ c.position.result c.position.ensures.ran (YieldsList-from_slice c.in-Word.words.now cc) (λ x b q k. search (rules, tests)) in
    let none = position-map (λ w. w.now) test c.in-Word.words.now ∙ sym found ∙ c.in-None.is in
    rw (c.in-Word.is, list_any-None test (map (λ w. w.now) c.in-Word.words.now) [] none) refl
