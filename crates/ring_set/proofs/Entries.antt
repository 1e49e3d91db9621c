-- Tests of the entries of a ring.
use Rattle.std.proofs.Common.{◌≡◌, ◌≢◌, ℕ, zero, suc, ◌+◌, ◌<◌, ◌≤◌, ◌==◌, ◌&&◌, ◌||◌, not, nat_lt, Bool, true, false, List, [], ◌∷◌, ◌++◌, length, take, get_or, set, if◌then◌else◌, Option, Some, None, ⊎_elim, refl, sym, ap, ◌∙◌, arith, length-append, length-set, get_or-set_same, get_or-set_other}
use Rattle.std.proofs.Math.Bool.{and-false, and-true, or-false}
use Rattle.std.proofs.Math.ListN.{get_or-append}
use Rattle.std.proofs.Math.Seq.{get_or-append_seam}
use Rattle.std.proofs.lemmas.Bool.{cases_eq, cases_lt, eq-eqb, ne_eqb, le-ltb}
use Rattle.std.proofs.lemmas.Bool.Decides.{nat_tests}
use Rattle.std.proofs.lemmas.List.{get_or-take, get_or_past, length-take}
use Rattle.std.specs.List.{position_or_len}
use Rattle.ring_set.specs.RowLaws.{RowAnd, RowCut, RowFirst, RowNone, RowPop, RowPush, RowSet}
use Rattle.ring_set.specs.Rows.{both}
use Rattle.ring_set.specs.Sets.{aged, has, least, place_at}
use Rattle.ring_set.proofs.Ages.{least_none}

lt-true : (a b : ℕ) → a < b → nat_lt a b ≡ true
lt-true a b h = grind (arith, nat_tests)

-- two ages have two places
place_other : (head j k : ℕ) → j < 128 → k < 128 → j ≢ k → place_at head j ≢ place_at head k
unfolding place_at
place_other head j k hj hk d e = d (omega arith)

place_next : (head k : ℕ) → place_at (place_at head 1) k ≡ place_at head (k + 1)
unfolding place_at
place_next head k = omega arith

place_head : (head : ℕ) → head < 128 → place_at head 0 ≡ head
unfolding place_at
place_head head h = omega arith

place_round : (head : ℕ) → head < 128 → place_at head 128 ≡ head
unfolding place_at
place_round head h = omega arith

pub row_none : RowNone
row_none w head none = record { fits = omega arith; at = λ k low. none (place_at head k) }

-- ---- the first

first_by : (bs : List Bool) (p : ℕ → Bool) (n : ℕ) → length bs ≤ n → ((k : ℕ) → k < n → p k ≡ get_or bs k false) → let k = position_or_len (λ (b : Bool). b) bs in
    (k < length bs → least p n ≡ k) × (length bs ≤ k → least p n ≡ n)
unfolding least
first_by [] p n fits at = (λ low. absurd (omega arith), λ _. least_none p n at)
first_by (b ∷ bs) p zero fits at = (λ low. absurd (omega arith), λ _. absurd (omega arith))
first_by (true ∷ bs) p (suc n) fits at = (λ low. rw (at 0 (omega arith)) refl, λ high. absurd (omega arith))
first_by (false ∷ bs) p (suc n) fits at =
    let k = position_or_len (λ (c : Bool). c) bs in
    let rest = first_by bs (λ j. p (suc j)) n (omega arith) (λ j low. at (suc j) (omega arith)) in
    let e : 1 + k ≡ suc k = omega arith in
    (λ low. rw (at 0 (omega arith)) (ap (λ m. suc m) (rest.0 (omega arith)) ∙ sym e), λ high. rw (at 0 (omega arith)) (ap (λ m. suc m) (rest.1 (omega arith))))

pub row_first : RowFirst
row_first w head bs row =
    let k = position_or_len (λ (b : Bool). b) bs in
    let found = first_by bs (aged w head) 128 row.fits row.at in
    let at : ℕ → Option ℕ = λ m. if nat_lt m 128 then Some m else None in
    let fits = row.fits in
    ⊎_elim
    (λ (low : k < length bs). rw (lt-true k (length bs) low) (sym (ap at (found.0 low) ∙ rw (lt-true k 128 (omega arith)) refl)))
    (λ (high : length bs ≤ k). rw (le-ltb k (length bs) high) (sym (ap at (found.1 high))))
    (cases_lt k (length bs))

-- ---- entries join, leave and change

pub row_cut : RowCut
row_cut w run v head n bs row young is = record {
  fits = let f = row.fits in omega (arith, length-take n bs);
  at = λ k low. is (place_at head k) ∙ (ap (λ b. b && aged run head k) (row.at k low) ∙ (ap (λ b. get_or bs k false && b) (young k low) ∙ ⊎_elim
      (λ (h : k < n). rw (lt-true k n h) (and-true (get_or bs k false) ∙ sym (get_or-take n bs k false h)))
      (λ (h : n ≤ k). rw (le-ltb k n h) (and-false (get_or bs k false) ∙ sym (get_or_past (take n bs) k false (omega (arith, length-take n bs)))))
      (cases_lt k n)));
}

pub row_push : RowPush
row_push w v head b bs row place is = record {
  fits = omega (arith, length-append bs (b ∷ []));
  at = λ k low. is (place_at head k) ∙ ⊎_elim
      (λ (e : k ≡ length bs).
      let here : (place_at head k == place_at head (length bs)) ≡ true = eq-eqb (place_at head k) (place_at head (length bs)) (ap (place_at head) e) in
      let none : aged w head k ≡ false = row.at k low ∙ get_or_past bs k false (omega arith) in
      let last : get_or (bs ++ b ∷ []) k false ≡ b = ap (λ m. get_or (bs ++ b ∷ []) m false) e ∙ get_or-append_seam bs b [] false in
      rw (here, none) (or-false (b && true) ∙ (and-true b ∙ sym last)))
      (λ (d : k ≡ length bs → ⊥).
      let elsewhere : (place_at head k == place_at head (length bs)) ≡ false = ne_eqb (place_at head k) (place_at head (length bs)) (place_other head k (length bs) low place d) in
      rw elsewhere (ap (λ c. c || aged w head k) (and-false b) ∙ (row.at k low ∙ ⊎_elim
      (λ (h : k < length bs). sym (get_or-append bs (b ∷ []) false k h))
      (λ (h : length bs ≤ k). get_or_past bs k false h ∙ sym (get_or_past (bs ++ b ∷ []) k false (omega (arith, length-append bs (b ∷ [])))))
      (cases_lt k (length bs)))))
      (cases_eq k (length bs));
}

pub row_pop : RowPop
row_pop w v head b bs row low_head is = record {
  fits = let f = row.fits in omega arith;
  at = λ k low.
      let f = row.fits in
      let p = place_at head (k + 1) in
      ap (has v) (place_next head k) ∙ (is p ∙ ⊎_elim
      (λ (h : k + 1 < 128).
      let other : p ≢ head = λ e. place_other head (k + 1) 0 h (omega arith) (λ z. absurd (omega arith)) (e ∙ sym (place_head head low_head)) in
      let next : suc k ≡ k + 1 = omega arith in
      rw (ne_eqb p head other) (row.at (k + 1) h ∙ ap (λ m. get_or (b ∷ bs) m false) (sym next)))
      (λ (h : 128 ≤ k + 1).
      let e : k + 1 ≡ 128 = omega arith in
      let back : p ≡ head = ap (place_at head) e ∙ place_round head low_head in
      rw (eq-eqb p head back) (sym (get_or_past bs k false (omega arith))))
      (cases_lt (k + 1) 128));
}

set_at : (bs : List Bool) (k : ℕ) (b : Bool) (i : ℕ) → k < length bs → get_or (set bs k b) i false ≡ (if i == k then b else get_or bs i false)
set_at bs k b i within =
    ⊎_elim
    (λ (e : i ≡ k). rw (eq-eqb i k e) (ap (λ m. get_or (set bs k b) m false) e ∙ get_or-set_same bs k b false within))
    (λ (d : i ≡ k → ⊥). rw (ne_eqb i k d) (get_or-set_other bs k i b false d))
    (cases_eq i k)

-- the places are the same where the ages are
same_test : (head i k : ℕ) → i < 128 → k < 128 → (place_at head i == place_at head k) ≡ (i == k)
same_test head i k hi hk =
    ⊎_elim
    (λ (e : i ≡ k). eq-eqb (place_at head i) (place_at head k) (ap (place_at head) e) ∙ sym (eq-eqb i k e))
    (λ (d : i ≡ k → ⊥). ne_eqb (place_at head i) (place_at head k) (place_other head i k hi hk d) ∙ sym (ne_eqb i k d))
    (cases_eq i k)

or_is : (test x : Bool) → (test || x) ≡ (if test then true else x)
or_is true x = refl
or_is false x = refl

and_is : (test x : Bool) → (not test && x) ≡ (if test then false else x)
and_is true x = refl
and_is false x = refl

pub row_set : RowSet
row_set w v head k bs row within =
    let f = row.fits in
    let few : k < 128 = omega arith in (
      λ is. record {
        fits = omega (arith, length-set bs k true);
        at = λ i low. is (place_at head i) ∙ (ap (λ t. t || aged w head i) (same_test head i k low few) ∙ (ap (λ x. (i == k) || x) (row.at i low) ∙ (or_is (i == k) (get_or bs i false) ∙ sym (set_at bs k true i within))));
      },
      λ is. record {
        fits = omega (arith, length-set bs k false);
        at = λ i low. is (place_at head i) ∙ (ap (λ t. not t && aged w head i) (same_test head i k low few) ∙ (ap (λ x. not (i == k) && x) (row.at i low) ∙ (and_is (i == k) (get_or bs i false) ∙ sym (set_at bs k false i within))));
      },
    )

-- ---- two tests

both_at : (xs ys : List Bool) (k : ℕ) → get_or (both xs ys) k false ≡ (get_or xs k false && get_or ys k false)
both_at [] ys k = refl
both_at (x ∷ xs) [] k = sym (and-false (get_or (x ∷ xs) k false))
both_at (x ∷ xs) (y ∷ ys) zero = refl
both_at (x ∷ xs) (y ∷ ys) (suc k) = both_at xs ys k

both_few : (xs ys : List Bool) → length (both xs ys) ≤ length xs
both_few [] ys = omega arith
both_few (x ∷ xs) [] = omega arith
both_few (x ∷ xs) (y ∷ ys) = let rest = both_few xs ys in omega arith

pub row_and : RowAnd
row_and w v u head xs ys first second is = record {
  fits = let f = first.fits in omega (arith, both_few xs ys);
  at = λ k low. is (place_at head k) ∙ (ap (λ b. b && aged v head k) (first.at k low) ∙ (ap (λ b. get_or xs k false && b) (second.at k low) ∙ sym (both_at xs ys k)));
}
