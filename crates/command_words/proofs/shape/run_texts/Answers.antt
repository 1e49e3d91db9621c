use Rattle.std.proofs.Common.{◌≡◌, ◌∙◌, refl, Some, None, map, string_bytes, codes, rules}
use Rattle.command_words.specs.Words.{said}
use Rattle.command_words.specs.Reading.{read_at}
use Rattle.command_words.proofs.Shapes.{run_shape_told}
use Rattle.command_words.proofs.shape.run_texts.Goals as goal
use Rattle.command_words.proofs.shape.run_texts.Goals.{in_default-2-via-in-Some+in_default, in_default-2-via-in-None+in_default}

pub returns-in-Some-None : goal.returns-in-Some-None
returns-in-Some-None c =
    let m = c.in_ok-matches.matches in
    let names = c.in-Some-Some-Some in
    let first : read_at m (codes "first") ≡ Some names.first.now = search rules in
    let second : read_at m (codes "second") ≡ Some names.second.now = search rules in
    let third : read_at m (codes "third") ≡ Some names.third.now = search rules in
    let fourth : read_at m (codes "fourth") ≡ Some c.in-Some-None.fourth.now = search rules in
    let seed : read_at m (codes "generate") ≡ None = search rules in
    run_shape_told (said (map string_bytes c.args.words.now)) m c.in_ok-matches.ensures ∙ rw (first, second, third, fourth, seed) refl

pub returns-in-None-Some : goal.returns-in-None-Some
returns-in-None-Some c =
    let m = c.in_ok-matches.matches in
    let names = c.in-Some-Some-Some in
    let first : read_at m (codes "first") ≡ Some names.first.now = search rules in
    let second : read_at m (codes "second") ≡ Some names.second.now = search rules in
    let third : read_at m (codes "third") ≡ Some names.third.now = search rules in
    let fourth : read_at m (codes "fourth") ≡ None = search rules in
    let seed : read_at m (codes "generate") ≡ Some c.in-None-Some.seed.now = search rules in
    run_shape_told (said (map string_bytes c.args.words.now)) m c.in_ok-matches.ensures ∙ rw (first, second, third, fourth, seed) refl

pub returns : goal.returns
returns c =
    let m = c.in_ok-matches.matches in
    let names = c.in-Some-Some-Some in
    let first : read_at m (codes "first") ≡ Some names.first.now = search rules in
    let second : read_at m (codes "second") ≡ Some names.second.now = search rules in
    let third : read_at m (codes "third") ≡ Some names.third.now = search rules in
    let found = run_shape_told (said (map string_bytes c.args.words.now)) m c.in_ok-matches.ensures in
    elim c.in_default-2.branch [
      | in_default-2-via-in-Some+in_default w ↦
          let fourth : read_at m (codes "fourth") ≡ Some w.in_default-2.field-0-0.now = search rules in
          let seed : read_at m (codes "generate") ≡ Some w.in_default-2.field-0-1.now = search rules in
          found ∙ rw (first, second, third, fourth, seed) refl
      | in_default-2-via-in-None+in_default w ↦
          let fourth : read_at m (codes "fourth") ≡ None = search rules in
          let seed : read_at m (codes "generate") ≡ None = search rules in
          found ∙ rw (first, second, third, fourth, seed) refl
    ]
