-- The least of a list of numbers.
use Rattle.std.proofs.Common.{◌≡◌, ℕ, min, List, [], ◌∷◌, Some, refl, sym, ap, ◌∙◌, arith}
use Rattle.std.specs.List.{fold}
use Rattle.settle_watch.specs.Watches.{least}

fold-min : (x y : ℕ) (xs : List ℕ) → fold min (min x y) xs ≡ min x (fold min y xs)
fold-min x y [] = refl
fold-min x y (z ∷ xs) = ap (λ w. fold min w xs) (omega arith) ∙ fold-min x (min y z) xs

pub least-cons : (x : ℕ) (xs : List ℕ) → least (x ∷ xs) ≡ Some (fold min x xs)
least-cons x [] = refl
least-cons x (y ∷ xs) = rw (least-cons y xs) (ap Some (sym (fold-min x y xs)))
