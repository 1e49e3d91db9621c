-- What stands at the places of a list, of its image, and of a list that has grown, shrunk or changed.
use Rattle.std.proofs.Common.{◌≡◌, ◌⊎◌, ◌+◌, ◌<◌, ◌≤◌, ℕ, zero, suc, List, [], ◌∷◌, ◌++◌, length, map, set, take, drop, None, Some, slice_get, option_map, refl, ap, inl, inr, ⊎_elim, ◌∙◌, zero-add, arith}
use Rattle.std.specs.List.{range_with_len, remove}
use Rattle.std.proofs.lemmas.Option.{slice_get-map}

module _ {A : Type 0} where
  -- ---- any list

  -- there is something at each place
  pub slice_get_below : (xs : List A) (i : ℕ) → i < length xs → (x : A) × (slice_get xs i ≡ Some x)
  slice_get_below [] i below = absurd (omega arith)
  slice_get_below (x ∷ xs) zero below = (x, refl)
  slice_get_below (x ∷ xs) (suc i) below = slice_get_below xs i (omega arith)

  -- ---- more behind it

  pub slice_get-append_left : (xs ys : List A) (i : ℕ) (x : A) → slice_get xs i ≡ Some x → slice_get (xs ++ ys) i ≡ Some x
  slice_get-append_left [] ys i x at = absurd cc
  slice_get-append_left (y ∷ xs) ys zero x at = at
  slice_get-append_left (y ∷ xs) ys (suc i) x at = slice_get-append_left xs ys i x at

  -- what stands in front stays
  pub slice_get-append_front : (xs ys : List A) (i : ℕ) → i < length xs → slice_get (xs ++ ys) i ≡ slice_get xs i
  slice_get-append_front [] ys i within = absurd (omega arith)
  slice_get-append_front (x ∷ xs) ys zero within = refl
  slice_get-append_front (x ∷ xs) ys (suc i) within = slice_get-append_front xs ys i (omega arith)

  pub slice_get_middle : (xs : List A) (x : A) (ys : List A) → slice_get (xs ++ x ∷ ys) (length xs) ≡ Some x
  slice_get_middle [] x ys = refl
  slice_get_middle (y ∷ xs) x ys = slice_get_middle xs x ys

  pub slice_get_last : (xs : List A) (x : A) → slice_get (xs ++ x ∷ []) (length xs) ≡ Some x
  slice_get_last xs x = slice_get_middle xs x []

  -- what is at a place was there before, or is the last
  pub slice_get_more : (xs : List A) (y : A) (i : ℕ) (x : A) → slice_get (xs ++ y ∷ []) i ≡ Some x → (slice_get xs i ≡ Some x) ⊎ ((i ≡ length xs) × (x ≡ y))
  slice_get_more [] y zero x at = inr (refl, cc)
  slice_get_more [] y (suc i) x at = absurd cc
  slice_get_more (z ∷ xs) y zero x at = inl at
  slice_get_more (z ∷ xs) y (suc i) x at = ⊎_elim inl (λ last. inr (ap suc last.0, last.1)) (slice_get_more xs y i x at)

  pub length_more : (xs : List A) (y : A) → length (xs ++ y ∷ []) ≡ suc (length xs)
  length_more [] y = refl
  length_more (x ∷ xs) y = ap suc (length_more xs y)

  pub length-middle : (xs : List A) (x : A) (ys : List A) → length xs < length (xs ++ x ∷ ys)
  length-middle [] x ys = omega arith
  length-middle (y ∷ xs) x ys = let within = length-middle xs x ys in omega arith

  -- ---- fewer

  -- what is left without a place stood there before
  pub slice_get-remove : (xs : List A) (k i : ℕ) (x : A) → slice_get (remove xs k) i ≡ Some x → (j : ℕ) × (slice_get xs j ≡ Some x)
  slice_get-remove [] zero i x at = (i, at)
  slice_get-remove [] (suc k) i x at = (i, at)
  slice_get-remove (y ∷ xs) zero i x at = (suc i, at)
  slice_get-remove (y ∷ xs) (suc k) zero x at = (zero, at)
  slice_get-remove (y ∷ xs) (suc k) (suc i) x at = let (j, was) = slice_get-remove xs k i x at in (suc j, was)

  -- what is taken stood at the same place
  pub slice_get-take : (n : ℕ) (xs : List A) (i : ℕ) (x : A) → slice_get (take n xs) i ≡ Some x → slice_get xs i ≡ Some x
  slice_get-take zero xs i x at = absurd cc
  slice_get-take (suc n) [] i x at = at
  slice_get-take (suc n) (y ∷ xs) zero x at = at
  slice_get-take (suc n) (y ∷ xs) (suc i) x at = slice_get-take n xs i x at

  -- what is left behind the first n stood n places further
  pub slice_get-drop : (n : ℕ) (xs : List A) (i : ℕ) (x : A) → slice_get (drop n xs) i ≡ Some x → slice_get xs (n + i) ≡ Some x
  slice_get-drop zero xs i x at = rw zero-add at
  slice_get-drop (suc n) [] i x at = absurd cc
  slice_get-drop (suc n) (y ∷ xs) i x at = let e : suc n + i ≡ suc (n + i) = omega arith in rw e (slice_get-drop n xs i x at)

  -- what stands at a place is the first behind those before it
  pub drop-at : (xs : List A) (k : ℕ) (x : A) → slice_get xs k ≡ Some x → drop k xs ≡ x ∷ drop (suc k) xs
  drop-at [] k x at = absurd cc
  drop-at (y ∷ xs) zero x at = let same : y ≡ x = cc in ap (λ z. z ∷ xs) same
  drop-at (y ∷ xs) (suc k) x at = drop-at xs k x at

  -- and the last of those up to it
  pub take-at : (xs : List A) (k : ℕ) (x : A) → slice_get xs k ≡ Some x → take (suc k) xs ≡ take k xs ++ x ∷ []
  take-at [] k x at = absurd cc
  take-at (y ∷ xs) zero x at = let same : y ≡ x = cc in ap (λ z. z ∷ []) same
  take-at (y ∷ xs) (suc k) x at = ap (λ ys. y ∷ ys) (take-at xs k x at)

  pub length-take : (xs : List A) (k : ℕ) → k ≤ length xs → length (take k xs) ≡ k
  length-take xs zero within = refl
  length-take [] (suc k) within = absurd (omega (arith, within))
  length-take (y ∷ xs) (suc k) within = ap suc (length-take xs k (omega (arith, within)))

  -- ---- another in the place of one

  pub slice_get-set_same : (xs : List A) (i : ℕ) (x : A) → i < length xs → slice_get (set xs i x) i ≡ Some x
  slice_get-set_same [] i x within = absurd (omega arith)
  slice_get-set_same (y ∷ ys) zero x within = refl
  slice_get-set_same (y ∷ ys) (suc i) x within = slice_get-set_same ys i x (omega arith)

  pub slice_get-set_other : (xs : List A) (i j : ℕ) (x : A) → (j ≡ i → ⊥) → slice_get (set xs i x) j ≡ slice_get xs j
  slice_get-set_other [] i j x other = refl
  slice_get-set_other (y ∷ ys) zero zero x other = absurd (other refl)
  slice_get-set_other (y ∷ ys) zero (suc j) x other = refl
  slice_get-set_other (y ∷ ys) (suc i) zero x other = refl
  slice_get-set_other (y ∷ ys) (suc i) (suc j) x other = slice_get-set_other ys i j x (λ e. other (ap suc e))

  pub length-changed : (xs : List A) (x y : A) (ys : List A) → length (xs ++ y ∷ ys) ≡ length (xs ++ x ∷ ys)
  length-changed [] x y ys = refl
  length-changed (z ∷ xs) x y ys = ap suc (length-changed xs x y ys)

  pub slice_get_changed : (xs : List A) (x y : A) (ys : List A) (i : ℕ) (z : A) → slice_get (xs ++ y ∷ ys) i ≡ Some z →
      ((i ≡ length xs) × (z ≡ y)) ⊎ ((i ≡ length xs → ⊥) × (slice_get (xs ++ x ∷ ys) i ≡ Some z))
  slice_get_changed [] x y ys zero z at = inl (refl, cc)
  slice_get_changed [] x y ys (suc i) z at = inr (λ e. absurd (omega arith), at)
  slice_get_changed (w ∷ xs) x y ys zero z at = inr (λ e. absurd (omega arith), at)
  slice_get_changed (w ∷ xs) x y ys (suc i) z at = ⊎_elim (λ here. inl (ap suc here.0, here.1)) (λ there. inr (λ e. there.0 (omega arith), there.1)) (slice_get_changed xs x y ys i z at)

module _ {A B : Type 0} (f : A → B) where
  -- ---- the image of a list

  pub slice_get_mapped : (xs : List A) (i : ℕ) (x : A) → slice_get xs i ≡ Some x → slice_get (map f xs) i ≡ Some (f x)
  slice_get_mapped xs i x at = slice_get-map f xs i ∙ ap (option_map f) at

  -- what is at a place of the images is one
  pub slice_get_unmapped : (xs : List A) (i : ℕ) (y : B) → slice_get (map f xs) i ≡ Some y → (x : A) × (slice_get xs i ≡ Some x) × (y ≡ f x)
  slice_get_unmapped [] i y at = absurd cc
  slice_get_unmapped (x ∷ xs) zero y at = (x, refl, cc)
  slice_get_unmapped (x ∷ xs) (suc i) y at = slice_get_unmapped xs i y at

  pub map-append_one : (xs : List A) (x : A) → map f (xs ++ x ∷ []) ≡ map f xs ++ f x ∷ []
  map-append_one [] x = refl
  map-append_one (y ∷ xs) x = ap (λ ys. f y ∷ ys) (map-append_one xs x)

  pub map-remove : (xs : List A) (k : ℕ) → map f (remove xs k) ≡ remove (map f xs) k
  map-remove [] zero = refl
  map-remove [] (suc k) = refl
  map-remove (x ∷ xs) zero = refl
  map-remove (x ∷ xs) (suc k) = ap (λ ys. f x ∷ ys) (map-remove xs k)

-- ---- the images of numbers in a row

module _ {A : Type 0} (f : ℕ → A) where
  pub slice_get-range : (a n i : ℕ) → i < n → slice_get (map f (range_with_len a n)) i ≡ Some (f (a + i))
  slice_get-range a zero i below = absurd (omega arith)
  slice_get-range a (suc n) zero below = let e : a ≡ a + 0 = omega arith in ap (λ k. Some (f k)) e
  slice_get-range a (suc n) (suc i) below = let e : a + 1 + i ≡ a + suc i = omega arith in slice_get-range (a + 1) n i (omega arith) ∙ ap (λ k. Some (f k)) e

  pub slice_get-range_past : (a n i : ℕ) → n ≤ i → slice_get (map f (range_with_len a n)) i ≡ None
  slice_get-range_past a zero i past = refl
  slice_get-range_past a (suc n) zero past = absurd (omega arith)
  slice_get-range_past a (suc n) (suc i) past = slice_get-range_past (a + 1) n i (omega arith)
