-- Walks along a queue, from the oldest on and back.
use Rattle.std.proofs.Common.{◌≡◌, ℕ, zero, suc, ◌+◌, ◌<◌, ◌≤◌, Bool, true, false, ◌||◌, List, [], ◌∷◌, ◌++◌, length, take, drop, reverse, Some, slice_get, refl, ap, ◌∙◌, arith}
use Rattle.std.specs.List.{list_any}
use Rattle.std.proofs.lemmas.List.{reverse-append}
use Rattle.std.proofs.lemmas.List.Folds.{list_any-append}

module _ {X : Type 0} where
  -- what stands at a place is the first behind those before it
  pub drop-at : (xs : List X) (k : ℕ) (x : X) → slice_get xs k ≡ Some x → drop k xs ≡ x ∷ drop (suc k) xs
  drop-at [] k x at = absurd cc
  drop-at (y ∷ xs) zero x at = let same : y ≡ x = cc in ap (λ z. z ∷ xs) same
  drop-at (y ∷ xs) (suc k) x at = drop-at xs k x at

  -- and the last of those up to it
  pub take-at : (xs : List X) (k : ℕ) (x : X) → slice_get xs k ≡ Some x → take (suc k) xs ≡ take k xs ++ x ∷ []
  take-at [] k x at = absurd cc
  take-at (y ∷ xs) zero x at = let same : y ≡ x = cc in ap (λ z. z ∷ []) same
  take-at (y ∷ xs) (suc k) x at = ap (λ ys. y ∷ ys) (take-at xs k x at)

  pub take-next : (xs : List X) (k : ℕ) (x : X) → slice_get xs k ≡ Some x → take (k + 1) xs ≡ take k xs ++ x ∷ []
  take-next xs k x at = let next : k + 1 ≡ suc k = omega arith in ap (λ j. take j xs) next ∙ take-at xs k x at

  pub length-take : (xs : List X) (k : ℕ) → k ≤ length xs → length (take k xs) ≡ k
  length-take xs zero within = refl
  length-take [] (suc k) within = absurd (omega (arith, within))
  length-take (y ∷ xs) (suc k) within = ap suc (length-take xs k (omega (arith, within)))

  -- one of the first ones passes where one of those before the last of them does, or that one
  pub any-more : (p : X → Bool) (xs : List X) (k : ℕ) (x : X) → slice_get xs k ≡ Some x → list_any p (take k xs) ≡ false → p x ≡ false → list_any p (take (k + 1) xs) ≡ false
  any-more p xs k x at none other =
      ap (list_any p) (take-next xs k x at) ∙ (list_any-append p (take k xs) (x ∷ []) ∙ (ap (λ b. b || list_any p (x ∷ [])) none ∙ ap (λ b. b || false) other))

  pub any-at : (p : X → Bool) (xs : List X) (k n : ℕ) (x : X) → slice_get xs k ≡ Some x → k < n → p x ≡ true → list_any p (take n xs) ≡ true
  any-at p [] k n x at below is = absurd cc
  any-at p (y ∷ xs) zero zero x at below is = absurd (omega (arith, below))
  any-at p (y ∷ xs) zero (suc n) x at below is = let same : y ≡ x = cc in ap (λ b. b || list_any p (take n xs)) (ap p same ∙ is)
  any-at p (y ∷ xs) (suc k) zero x at below is = absurd (omega (arith, below))
  any-at p (y ∷ xs) (suc k) (suc n) x at below is = ap (λ b. p y || b) (any-at p xs k n x at (omega (arith, below)) is) ∙ either (p y)
    where
      either : (b : Bool) → (b || true) ≡ true
      either true = refl
      either false = refl

  -- back from a place: what stands before it comes first
  pub back-at : (xs : List X) (k : ℕ) (x : X) → slice_get xs k ≡ Some x → reverse (take (suc k) xs) ≡ x ∷ reverse (take k xs)
  back-at xs k x at = ap reverse (take-at xs k x at) ∙ reverse-append (take k xs) (x ∷ [])
