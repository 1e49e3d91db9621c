-- Numbers that rise along a list.
use Rattle.std.proofs.Common.{◌≡◌, ℕ, zero, suc, ◌-◌, ◌<◌, ◌≤◌, All, List, [], ◌∷◌, ◌++◌, length, get_or, set, take, drop, Some, slice_get, refl, ap, ⊎_elim, subst, arith, ◌∙◌}
use Rattle.std.specs.List.{AllPairs}
use Rattle.std.proofs.lemmas.Bool.{cases_lt}
use Rattle.std.proofs.lemmas.List.{length-set, get_or-take}
use Rattle.std.proofs.lemmas.List.Quantifiers.{all_pairs_push}
use Rattle.std.proofs.lemmas.Option.{get_or_from_slice_get}
use Rattle.list_facts.specs.Places.{length-take}

-- each element has a greater number than those before it
abbrev pub AreRisingBy : {X : Type 0} → (X → ℕ) → List X → Type 0
AreRisingBy number xs = AllPairs (λ x y. number x < number y) xs

module _ {X : Type 0} (number : X → ℕ) where
  pub rising-rest : (x : X) (xs : List X) → AreRisingBy number (x ∷ xs) → AreRisingBy number xs
  rising-rest x xs rising i k d below within = rising (suc i) (suc k) d (omega (arith, below)) (omega (arith, within))

  -- the first is below all others
  pub rising-first : (x : X) (xs : List X) → AreRisingBy number (x ∷ xs) → All (λ y. number x < number y) xs
  rising-first x xs rising k d within = rising zero (suc k) d (omega arith) (omega (arith, within))

  pub rising-drop : (xs : List X) → AreRisingBy number xs → AreRisingBy number (drop 1 xs)
  rising-drop [] rising = rising
  rising-drop (x ∷ xs) rising = rising-rest x xs rising

  pub rising-push : (xs : List X) (y : X) → AreRisingBy number xs → All (λ x. number x < number y) xs → AreRisingBy number (xs ++ y ∷ [])
  rising-push xs y rising below = all_pairs_push (λ (x z : X). number x < number z) xs y rising (λ k d within. below k d within)

  -- the first ones of rising numbers rise
  pub rising-without_last : (xs : List X) → AreRisingBy number xs → AreRisingBy number (take (length xs - 1) xs)
  rising-without_last xs rising i k d below within =
      let n = length xs - 1 in
      let long : length (take n xs) ≡ n = length-take xs n (omega arith) in
      let low : number (get_or xs i d) < number (get_or xs k d) = rising i k d below (omega (arith, within, long)) in
      let first = ap number (get_or-take n xs i d (omega (arith, below, within, long))) in
      let second = ap number (get_or-take n xs k d (omega (arith, within, long))) in
      omega (arith, low, first, second)

  -- another with the same number in the place of one
  pub number-set : (xs : List X) (k : ℕ) (x y : X) → slice_get xs k ≡ Some x → number y ≡ number x → (i : ℕ) (d : X) → number (get_or (set xs k y) i d) ≡ number (get_or xs i d)
  number-set [] k x y at same i d = absurd cc
  number-set (z ∷ zs) zero x y at same zero d = let here : x ≡ z = cc in same ∙ ap number here
  number-set (z ∷ zs) zero x y at same (suc i) d = refl
  number-set (z ∷ zs) (suc k) x y at same zero d = refl
  number-set (z ∷ zs) (suc k) x y at same (suc i) d = number-set zs k x y at same i d

  pub rising-set : (xs : List X) (k : ℕ) (x y : X) → AreRisingBy number xs → slice_get xs k ≡ Some x → number y ≡ number x → AreRisingBy number (set xs k y)
  rising-set xs k x y rising at same i j d below within =
      let long : length (set xs k y) ≡ length xs = length-set xs k y in
      let low : number (get_or xs i d) < number (get_or xs j d) = rising i j d below (omega (arith, within, long)) in
      omega (arith, low, number-set xs k x y at same i d, number-set xs k x y at same j d)

  -- none has a greater number than the last
  pub last_is_greatest : (xs : List X) (y : X) → AreRisingBy number xs → slice_get xs (length xs - 1) ≡ Some y → All (λ x. number x ≤ number y) xs
  last_is_greatest xs y rising last k d within =
      let n = length xs - 1 in
      let e : get_or xs n d ≡ y = get_or_from_slice_get xs n y d last in
      ⊎_elim (λ (before : k < n). omega (arith, subst (λ (z : X). number (get_or xs k d) < number z) e (rising k n d before (omega arith))))
      (λ (past : n ≤ k). let here : k ≡ n = omega (arith, past, within) in omega (arith, ap number (ap (λ j. get_or xs j d) here ∙ e)))
      (cases_lt k n)
