-- Parts of a list as functions of their numbers: one part read, one changed, and one added.
use Rattle.std.proofs.Common.{◌≡◌, ℕ, zero, suc, ◌<◌, ◌==◌, Bool, true, false, cond, List, [], ◌∷◌, ◌++◌, get_or, set, length, Option, length-append, refl, sym, ap, subst, ◌∙◌, arith}
use Rattle.std.specs.Option.{option_map_or}
use Rattle.std.proofs.lemmas.Bool.{eqb-true}
use Rattle.std.proofs.lemmas.Bool.Decides.{nat_tests}
use Rattle.std.proofs.lemmas.Option.{slice_get-get_or}
use Rattle.list_facts.specs.Places.{slice_get-append_front, slice_get-set_other, slice_get-set_same, slice_get_last}
use Rattle.memory_contracts.specs.Updates.{with_at}
use Rattle.coherent_memory.specs.Rows.{rows_of}

module _ {A B : Type 0} (view : A → B) (none : B) where
  abbrev seen : Option A → B
  seen o = option_map_or view o none

  pub rows_of-at : (xs : List A) (p : ℕ) (d : A) → p < length xs → rows_of view none xs p ≡ view (get_or xs p d)
  rows_of-at xs p d below = ap seen (slice_get-get_or xs p d below)

  set-at : (xs : List A) (p q : ℕ) (x : A) → p < length xs → (b : Bool) → (q == p) ≡ b → rows_of view none (set xs p x) q ≡ cond b (view x) (rows_of view none xs q)
  set-at xs p q x below true same = subst (λ (j : ℕ). rows_of view none (set xs p x) j ≡ view x) (sym (eqb-true q p same)) (ap seen (slice_get-set_same xs p x below))
  set-at xs p q x below false other = ap seen (slice_get-set_other xs p q x (λ same. grind (arith, nat_tests, same, other)))

  pub rows_of-set : (xs : List A) (p : ℕ) (x : A) → p < length xs → rows_of view none (set xs p x) ≡ with_at (rows_of view none xs) p (view x)
  rows_of-set xs p x below = λ i q. set-at xs p q x below (q == p) refl i

  -- the part that a call was given, and what the call made of it
  pub rows_of-given : (xs : List A) (p : ℕ) (d : A) → p < length xs → d ≡ get_or xs p d → rows_of view none xs p ≡ view d
  rows_of-given xs p d below given = rows_of-at xs p d below ∙ ap view (sym given)

  pub rows_of-changed : (xs : List A) (p : ℕ) (d x : A) (f : B → B) → p < length xs → d ≡ get_or xs p d → view x ≡ f (view d) →
      rows_of view none (set xs p x) ≡ with_at (rows_of view none xs) p (f (rows_of view none xs p))
  rows_of-changed xs p d x f below given is =
      rows_of-set xs p x below ∙ ap (λ (y : B). with_at (rows_of view none xs) p y) (is ∙ ap f (sym (rows_of-given xs p d below given)))

  -- what is true of each part is true of each number that there is
  pub rows_of-each : (P : B → Type 0) (xs : List A) (p : ℕ) → ((x : A) → P (view x)) → p < length xs → P (rows_of view none xs p)
  rows_of-each P [] p each below = absurd (omega (arith, below))
  rows_of-each P (x ∷ xs) zero each below = each x
  rows_of-each P (x ∷ xs) (suc p) each below = rows_of-each P xs p each (omega (arith, below))

  pub rows_of-pushed : (xs : List A) (x : A) → rows_of view none (xs ++ x ∷ []) (length xs) ≡ view x
  rows_of-pushed xs x = ap seen (slice_get_last xs x)

  pub rows_of-before : (xs : List A) (x : A) (q : ℕ) → q < length xs → rows_of view none (xs ++ x ∷ []) q ≡ rows_of view none xs q
  rows_of-before xs x q below = ap seen (slice_get-append_front xs (x ∷ []) q below)

  -- a property of all parts, with one more
  pub rows_of-more : (P : ℕ → B → Type 0) (xs : List A) (x : A) → ((q : ℕ) → q < length xs → P q (rows_of view none xs q)) → P (length xs) (view x) → (q : ℕ) → q < length (xs ++ x ∷ []) → P q (rows_of view none (xs ++ x ∷ []) q)
  rows_of-more P xs x each last q below = by (q == length xs) refl
    where
      by : (b : Bool) → (q == length xs) ≡ b → P q (rows_of view none (xs ++ x ∷ []) q)
      by true same =
          let e = eqb-true q (length xs) same in
          subst (λ (j : ℕ). P j (rows_of view none (xs ++ x ∷ []) j)) (sym e) (subst (λ (y : B). P (length xs) y) (sym (rows_of-pushed xs x)) last)
      by false other =
          let under : q < length xs = let n = length-append xs (x ∷ []) in grind (arith, nat_tests, below, other, n) in
          subst (λ (y : B). P q y) (sym (rows_of-before xs x q under)) (each q under)
