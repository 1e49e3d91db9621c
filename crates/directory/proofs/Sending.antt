-- What is sent, to one node after the other.
use Rattle.std.proofs.Common.{◌≡◌, ℕ, zero, suc, ◌<◌, ◌≤◌, ◌==◌, Bool, true, false, cond, [], ◌∷◌, ◌++◌, map, refl, ap, sym, ◌∙◌, arith}
use Rattle.std.proofs.Math.Nat.{lt_of_not-le}
use Rattle.std.proofs.lemmas.Bool.{eqb-true, eq-eqb}
use Rattle.std.proofs.lemmas.Bool.Decides.{nat_tests}
use Rattle.memory_contracts.specs.Protocol.Messages.{Message}
use Rattle.memory_contracts.specs.Protocol.HomeTable.{to_none, to_one}
use Rattle.directory.specs.Homes.{post_to, posts}

pub posts-none : (n line now : ℕ) → posts n line now to_none ≡ []
posts-none zero line now = refl
posts-none (suc n) line now = ap (λ ps. ps ++ []) (posts-none n line now)

other : (x y : ℕ) → y < x → (x == y) ≡ false
other x y below = grind (arith, nat_tests)

posts-above : (n line now x : ℕ) (m : Message) → n ≤ x → posts n line now (to_one x m) ≡ []
posts-above zero line now x m above = refl
posts-above (suc n) line now x m above =
    ap (λ ps. ps ++ map (post_to line now n) (to_one x m n)) (posts-above n line now x m (omega (arith, above)))
    ∙ ap (λ b. map (post_to line now n) (cond b (m ∷ []) [])) (other x n (omega (arith, above)))

pub posts-one : (n line now x : ℕ) (m : Message) → x < n → posts n line now (to_one x m) ≡ post_to line now x m ∷ []
posts-one zero line now x m below = absurd (omega (arith, below))
posts-one (suc n) line now x m below = by (x == n) refl (posts-one n line now x m)
  where
    by : (b : Bool) → (x == n) ≡ b → (x < n → posts n line now (to_one x m) ≡ post_to line now x m ∷ []) → posts n line now (to_one x m) ++ map (post_to line now n) (cond b (m ∷ []) []) ≡ post_to line now x m ∷ []
    by true e lower =
        let same : x ≡ n = eqb-true x n e in
        ap (λ ps. ps ++ post_to line now n m ∷ []) (posts-above n line now x m (omega (arith, same))) ∙ ap (λ y. post_to line now y m ∷ []) (sym same)
    by false e lower = ap (λ ps. ps ++ []) (lower (grind (arith, nat_tests, below, e)))

-- what is sent to one node goes to a node that there is, where nothing goes to any other
pub one-is-below : (n x : ℕ) (m : Message) → ((y : ℕ) → n ≤ y → to_one x m y ≡ []) → x < n
one-is-below n x m few = lt_of_not-le (λ above. by (x == x) (eq-eqb x x refl) (few x above))
  where
    by : (b : Bool) → b ≡ true → cond b (m ∷ []) [] ≡ [] → ⊥
    by true e none = cc
    by false e none = cc
