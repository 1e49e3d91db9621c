use Rattle.std.proofs.Common.{◌≡◌, ◌≢◌, ℕ, ◌<◌, ◌≤◌, min, true, false, cond, length, get_or, inl, inr, ap, subst, sym, ◌∙◌, arith}
use Rattle.std.proofs.lemmas.Bool.{cases_Bool, cases_lt, cond-true, cond-false}
use Rattle.std.proofs.lemmas.List.{get_or_default}
use Rattle.elf64_load.specs.Layout.{last_block, meet, touches, MeetsAnother}
use Rattle.elf64_load.specs.declared.span.Span.{Span}
use Rattle.elf64_load.proofs.Orders.{no_span, meets_none, touched, untouched}
use Rattle.elf64_load.proofs.shared.least_meeting.Goals as goal

pub loop-k-preserved : goal.loop-k-preserved
loop-k-preserved c =
    let order = c.args.order.now in
    let at : ℕ = c.loop-k.k in
    let within : at < length order = omega arith in
    let least : ℕ = c.loop-k.least in
    let last : (d : Span) → last_block (get_or order at d) ≡ c.last_block.result =
    λ d. ap last_block (get_or_default order at d no_span within) ∙ sym c.last_block.ensures.value in
    let new : (d : Span) → c.least_with-least.result ≡ cond (touches order at c.loop-k.reach d) (min least (get_or order at d).place) least =
    c.least_with-least.ensures in
    let falls : (d : Span) → (touches order at c.loop-k.reach d ≡ true) → c.least_with-least.result ≡ min least (get_or order at d).place =
    λ d e. new d ∙ cond-true (touches order at c.loop-k.reach d) (min least (get_or order at d).place) least e in
    let stays : (d : Span) → (touches order at c.loop-k.reach d ≡ false) → c.least_with-least.result ≡ least =
    λ d e. new d ∙ cond-false (touches order at c.loop-k.reach d) (min least (get_or order at d).place) least e in
    let no_more : c.least_with-least.result ≤ least = elim (cases_Bool (touches order at c.loop-k.reach no_span)) [
      | inl touch ↦ let f = falls no_span touch in omega (arith, f)
      | inr apart ↦ let s = stays no_span apart in omega (arith, s)
    ] in
    record {
      bound = omega (arith, no_more);
      small = omega arith;
      reached = λ j d below. elim (cases_lt j at) [
        | inl before ↦ let low = c.loop-k.invariant.reached j d before in omega (arith, low)
        | inr after ↦ let same : j ≡ at = omega arith in
            let here = ap (λ k. last_block (get_or order k d)) same ∙ last d in
            omega (arith, here)
      ];
      reached_by = λ some. elim (cases_lt c.last_block.result c.loop-k.reach) [
        | inl lower ↦ let r = c.loop-k.invariant.reached_by (omega (arith, lower)) in
            let before = r.before in
            record {
              at = r.at;
              before = omega (arith, before);
              is = λ d. let is = r.is d in omega (arith, is, lower);
            }
        | inr higher ↦ record {
          at = at;
          before = omega arith;
          is = λ d. let is = last d in omega (arith, is, higher);
        }
      ];
      below = λ k j d before j_in differ low. elim (cases_lt k at) [
        | inl earlier ↦ c.loop-k.invariant.below k j d earlier j_in differ (omega (arith, low, no_more))
        | inr later ↦ let same : at ≡ k = omega arith in
            let P : ℕ → Type 0 = λ k. j ≢ k → (get_or order k d).place < c.least_with-least.result → meet (get_or order k d) (get_or order j d) ≡ false in
            subst P same (λ other place. elim (cases_Bool (touches order at c.loop-k.reach d)) [
              | inl touch ↦ let f = falls d touch in absurd (omega (arith, f, place))
              | inr apart ↦ meets_none order at j d c.loop-k.reach c.requires.rising within j_in other c.loop-k.invariant.reached (untouched order at c.loop-k.reach d apart)
            ]) differ low
      ];
      found = λ less. elim (cases_Bool (touches order at c.loop-k.reach no_span)) [
        | inl touch ↦ let f = falls no_span touch in
            elim (cases_lt (get_or order at no_span).place least) [
              | inl lower ↦ let is : (get_or order at no_span).place ≡ c.least_with-least.result = omega (arith, f, lower) in
                  let P : ℕ → Type 0 = λ place. MeetsAnother order place in
                  subst P is (touched order at c.loop-k.reach no_span c.requires.rising c.requires.some within c.loop-k.invariant.reached_by touch)
              | inr higher ↦ let is : least ≡ c.least_with-least.result = omega (arith, f, higher) in
                  let P : ℕ → Type 0 = λ place. MeetsAnother order place in
                  subst P is (c.loop-k.invariant.found (omega (arith, is, less)))
            ]
        | inr apart ↦ let s = stays no_span apart in
            let P : ℕ → Type 0 = λ place. MeetsAnother order place in
            subst P (sym s) (c.loop-k.invariant.found (omega (arith, s, less)))
      ];
    }
