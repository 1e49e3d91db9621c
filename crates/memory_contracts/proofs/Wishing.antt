-- A wish that is taken.
use Rattle.std.proofs.Common.{◌≡◌, ℕ, ◌<◌, ◌==◌, Bool, true, false, cond, List, [], ◌∷◌, ◌++◌, length, refl, sym, ap, ◌∙◌}
use Rattle.std.proofs.lemmas.Bool.{eqb-true, lt-ltb}
use Rattle.memory_contracts.specs.Store.{StoreView, after_wish, is_covered, with_wish}
use Rattle.memory_contracts.specs.Parts.{wish_of, wishes_of}
use Rattle.memory_contracts.specs.Updates.{with_at}
use Rattle.memory_contracts.specs.declared.wishes.Wanted.{Wanted}
use Rattle.memory_contracts.proofs.Turns.{wishes-with}

pub after_wish-new : (v : StoreView) (p line : ℕ) (own : Bool) → is_covered v p line own ≡ false → length (v.wishes p) < 16 → after_wish v p line own ≡ with_wish v p (record { line = line; own = own })
after_wish-new v p line own none room = rw (none, lt-ltb (length (v.wishes p)) 16 room) refl

wishes_of-append : (xs : List Wanted) (w : Wanted) → wishes_of (xs ++ w ∷ []) ≡ wishes_of xs ++ wish_of w ∷ []
wishes_of-append [] w = refl
wishes_of-append (x ∷ xs) w = ap (λ ws. wish_of x ∷ ws) (wishes_of-append xs w)

-- the wishes with one more of node p
pub wishes-pushed : (wanted : ℕ → List Wanted) (p : ℕ) (w : Wanted) (q : ℕ) → wishes_of (with_at wanted p (wanted p ++ w ∷ []) q) ≡ cond (q == p) (wishes_of (wanted q) ++ wish_of w ∷ []) (wishes_of (wanted q))
wishes-pushed wanted p w q = wishes-with wanted p (wanted p ++ w ∷ []) q ∙ by_node (q == p) refl
  where
    by_node : (b : Bool) → (q == p) ≡ b → cond b (wishes_of (wanted p ++ w ∷ [])) (wishes_of (wanted q)) ≡ cond b (wishes_of (wanted q) ++ wish_of w ∷ []) (wishes_of (wanted q))
    by_node true e = wishes_of-append (wanted p) w ∙ ap (λ n. wishes_of (wanted n) ++ wish_of w ∷ []) (sym (eqb-true q p e))
    by_node false e = refl
