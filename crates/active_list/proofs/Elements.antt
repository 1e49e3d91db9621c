-- Where an element stands once a list has lost some or has one more.
use Rattle.std.proofs.Common.{◌≡◌, ℕ, zero, suc, ◌+◌, ◌⊎◌, List, [], ◌∷◌, ◌++◌, length, take, drop, slice_get, slice_set, Some, ap, inl, inr, refl, zero-add, arith}

module _ {X : Type 0} where
  -- what is taken stood at the same place
  pub take_stands : (n : ℕ) (xs : List X) (i : ℕ) (x : X) → slice_get (take n xs) i ≡ Some x → slice_get xs i ≡ Some x
  take_stands zero xs i x at = absurd cc
  take_stands (suc n) [] i x at = at
  take_stands (suc n) (y ∷ xs) zero x at = at
  take_stands (suc n) (y ∷ xs) (suc i) x at = take_stands n xs i x at

  -- what is left behind the first n stood n places further
  pub drop_stands : (n : ℕ) (xs : List X) (i : ℕ) (x : X) → slice_get (drop n xs) i ≡ Some x → slice_get xs (n + i) ≡ Some x
  drop_stands zero xs i x at = rw zero-add at
  drop_stands (suc n) [] i x at = absurd cc
  drop_stands (suc n) (y ∷ xs) i x at = let e : suc n + i ≡ suc (n + i) = omega arith in rw e (drop_stands n xs i x at)

  -- an element stood there before, or is the one that joined
  pub push_stands : (xs : List X) (y : X) (i : ℕ) (x : X) → slice_get (xs ++ y ∷ []) i ≡ Some x → (slice_get xs i ≡ Some x) ⊎ ((i ≡ length xs) × (y ≡ x))
  push_stands [] y zero x at = inr (refl, cc)
  push_stands [] y (suc i) x at = absurd cc
  push_stands (z ∷ xs) y zero x at = inl at
  push_stands (z ∷ xs) y (suc i) x at = elim (push_stands xs y i x at) [ inl before ↦ inl before | inr last ↦ inr (omega (arith, last.0), last.1) ]

  -- an element stood there before, or is the one that was set there
  pub set_stands : (xs : List X) (k : ℕ) (y : X) (i : ℕ) (x : X) → slice_get (slice_set xs k y) i ≡ Some x → (slice_get xs i ≡ Some x) ⊎ ((i ≡ k) × (y ≡ x))
  set_stands [] k y i x at = inl at
  set_stands (z ∷ xs) zero y zero x at = inr (refl, cc)
  set_stands (z ∷ xs) zero y (suc i) x at = inl at
  set_stands (z ∷ xs) (suc k) y zero x at = inl at
  set_stands (z ∷ xs) (suc k) y (suc i) x at = elim (set_stands xs k y i x at) [ inl before ↦ inl before | inr here ↦ inr (ap (λ n. suc n) here.0, here.1) ]
