-- What a test leaves of a list.
use Rattle.std.proofs.Common.{◌≡◌, zero, suc, ◌+◌, ◌-◌, ◌<◌, Bool, true, false, All, List, [], ◌∷◌, ◌++◌, length, take, filter, Some, slice_get, refl, sym, ap, ◌∙◌, arith}
use Rattle.std.proofs.lemmas.List.{take_more, take_all, append-nil}
use Rattle.std.proofs.lemmas.List.Elements.{filter-append}
use Rattle.std.proofs.lemmas.Option.{slice_get_within, get_or_from_slice_get}

module _ {X : Type 0} (p : X → Bool) where
  pub filter-all : (xs : List X) → All (λ x. p x ≡ true) xs → filter p xs ≡ xs
  filter-all [] all = refl
  filter-all (x ∷ xs) all =
      let here : p x ≡ true = all zero x (omega arith) in
      rw here (ap (λ (ys : List X). x ∷ ys) (filter-all xs (λ k d within. all (suc k) d (omega arith))))

  -- the last one goes
  pub filter-without_last : (xs : List X) (x : X) → slice_get xs (length xs - 1) ≡ Some x → p x ≡ false →
      filter p (take (length xs - 1) xs) ≡ filter p xs
  filter-without_last xs x last gone =
      let n = length xs - 1 in
      let within : n < length xs = slice_get_within xs n x last in
      let whole : take (n + 1) xs ≡ xs = take_all (n + 1) xs (omega arith) in
      let parts : xs ≡ take n xs ++ x ∷ [] = sym whole ∙ take_more xs n x within ∙ ap (λ (y : X). take n xs ++ y ∷ []) (get_or_from_slice_get xs n x x last) in
      let none : filter p (x ∷ []) ≡ [] = rw gone refl in
      sym (ap (filter p) parts ∙ filter-append p (take n xs) (x ∷ []) ∙ ap (λ (ys : List X). filter p (take n xs) ++ ys) none ∙ append-nil (filter p (take n xs)))
