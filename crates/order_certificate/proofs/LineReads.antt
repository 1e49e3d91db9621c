-- A kind of line: what it tells, how it is printed, and how it is read from the front of a text.
use Rattle.std.proofs.Common.{◌≡◌, ℕ, List, [], ◌∷◌, ◌++◌, Option, Some, sym, ap, ◌∙◌}
use Rattle.order_certificate.proofs.Feedless.{IsFeedless}
use Rattle.order_certificate.proofs.Words.{some_parts}

-- a piece that tells a value is the body of its line, and a text is read as this line and its rest just where it begins so
pub record IsWritten {A : Type 0} (Is : List ℕ → A → Type 0) (P : A → Type 0) (body : A → List ℕ) (at : List ℕ → Option (A × List ℕ)) : Type 0 where
  pub is : (a : A) → P a → Is (body a) a
  pub back : (piece : List ℕ) (a : A) → Is piece a → (piece ≡ body a) × P a
  pub free : (a : A) → P a → IsFeedless (body a)
  pub takes : (text : List ℕ) (a : A) (rest : List ℕ) → at text ≡ Some (a, rest) → (text ≡ body a ++ 10 ∷ rest) × P a
  pub again : (a : A) (rest : List ℕ) → P a → at (body a ++ 10 ∷ rest) ≡ Some (a, rest)

module _ {A : Type 0} {Is : List ℕ → A → Type 0} {P : A → Type 0} {body : A → List ℕ} {at : List ℕ → Option (A × List ℕ)} (w : IsWritten Is P body at) where
  pub written_piece : (piece : List ℕ) (a : A) (rest : List ℕ) → Is piece a → at (piece ++ 10 ∷ rest) ≡ Some (a, rest)
  written_piece piece a rest is =
      let told = w.back piece a is in
      ap (λ p. at (p ++ 10 ∷ rest)) told.0 ∙ w.again a rest told.1

  -- a piece tells one value
  pub written_once : (piece : List ℕ) (a b : A) → Is piece a → Is piece b → a ≡ b
  written_once piece a b is other = (some_parts a [] b [] (sym (written_piece piece a [] is) ∙ written_piece piece b [] other)).0
