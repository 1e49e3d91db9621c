-- One bit of a word as a test, and what it is after each operation on words.
use Rattle.std.proofs.Common.{◌≡◌, ◌≢◌, ℕ, ◌-◌, ◌*◌, ◌%◌, ◌^◌, ◌<◌, ◌≤◌, Bool, true, false, not, ◌&&◌, ◌||◌, ◌==◌, nat_lt, min, max, bit_and, bit_or, refl, sym, ap, ◌∙◌, ⊎_elim, arith}
use Rattle.std.specs.Int.{bit_at, bit_not, w128}
use Rattle.std.proofs.lemmas.Bool.{cases_eq, cases_lt, eq-eqb, ne_eqb, eqb-true, eqb-false, lt-ltb, le-ltb}
use Rattle.std.proofs.lemmas.Bool.Decides.{nat_tests}
use Rattle.std.proofs.lemmas.Nat.{and_le_l}
use Rattle.std.proofs.lemmas.Nat.Bits.{bit_at-lt, bit_at-zero, bit_at_and, bit_at_or, bit_at_not, bit_at_above, bit_at_ones, bit_at_ones_above, bit_at_set_same, bit_at_set_other, bit_at_clear_same, bit_at_clear_other, same_from_bits}

-- bit j of the word is 1
abbrev pub test : ℕ → ℕ → Bool
test w j = bit_at w j == 1

pub test-false : (w j : ℕ) → test w j ≡ false → bit_at w j ≡ 0
test-false w j h = let lt = bit_at-lt w j in let ne : bit_at w j ≢ 1 = eqb-false _ _ h in omega arith

or_bits : (a b : ℕ) → a < 2 → b < 2 → (max a b == 1) ≡ (a == 1 || b == 1)
or_bits a b la lb = grind (arith, nat_tests)

and_bits : (a b : ℕ) → a < 2 → b < 2 → (min a b == 1) ≡ (a == 1 && b == 1)
and_bits a b la lb = grind (arith, nat_tests)

outside_bits : (a b : ℕ) → a < 2 → b < 2 → (min a (1 - b) == 1) ≡ (a == 1 && not (b == 1))
outside_bits a b la lb = grind (arith, nat_tests)

pub test_or : (a b j : ℕ) → test (bit_or a b) j ≡ (test a j || test b j)
test_or a b j = ap (λ x. x == 1) (bit_at_or a b j) ∙ or_bits (bit_at a j) (bit_at b j) (bit_at-lt a j) (bit_at-lt b j)

pub test_and : (a b j : ℕ) → test (bit_and a b) j ≡ (test a j && test b j)
test_and a b j = ap (λ x. x == 1) (bit_at_and a b j) ∙ and_bits (bit_at a j) (bit_at b j) (bit_at-lt a j) (bit_at-lt b j)

-- the word of one place, and that of all others
abbrev pub one : ℕ → ℕ
one place = 1 * 2 ^ place % 2 ^ 128

pub test_with : (w place j : ℕ) → place < 128 → test (bit_or w (one place)) j ≡ (j == place || test w j)
test_with w place j lt =
    ⊎_elim
    (λ (e : j ≡ place). rw (eq-eqb j place e) (eq-eqb _ _ (ap (bit_at (bit_or w (one place))) e ∙ bit_at_set_same w128 w place lt)))
    (λ (ne : j ≡ place → ⊥). rw (ne_eqb j place ne) (ap (λ x. x == 1) (bit_at_set_other w128 w place lt j ne)))
    (cases_eq j place)

-- no word of 128 bits has a place past them
pub test_above : (w j : ℕ) → w < 2 ^ 128 → 128 ≤ j → test w j ≡ false
test_above w j fits le = ap (λ x. x == 1) (bit_at_above w 128 j fits le)

and_false : (a b : Bool) → b ≡ false → (a && b) ≡ false
and_false true b e = e
and_false false b e = refl

pub test_without : (w place j : ℕ) → w < 2 ^ 128 → place < 128 → test (bit_and w (bit_not w128 (one place))) j ≡ (not (j == place) && test w j)
test_without w place j fits lt =
    let other : (j ≡ place → ⊥) → test (bit_and w (bit_not w128 (one place))) j ≡ test w j = λ ne.
    ⊎_elim
    (λ (within : j < 128). ap (λ x. x == 1) (bit_at_clear_other w128 w place lt j within ne))
    (λ (past : 128 ≤ j). let none = test_above w j fits past in test_and w _ j ∙ rw none refl ∙ sym none)
    (cases_lt j 128) in
    ⊎_elim
    (λ (e : j ≡ place). rw (eq-eqb j place e) (ne_eqb _ _ (λ one. omega (arith, sym (ap (bit_at (bit_and w (bit_not w128 (1 * 2 ^ place % 2 ^ 128)))) e) ∙ one, bit_at_clear_same w128 w place lt))))
    (λ (ne : j ≡ place → ⊥). rw (ne_eqb j place ne) (other ne))
    (cases_eq j place)

pub test_outside : (a b j : ℕ) → a < 2 ^ 128 → b < 2 ^ 128 → test (bit_and a (bit_not w128 b)) j ≡ (test a j && not (test b j))
test_outside a b j fa fb =
    ⊎_elim
    (λ (within : j < 128). ap (λ x. x == 1) (bit_at_and a _ j ∙ ap (min (bit_at a j)) (bit_at_not w128 b j fb within)) ∙ outside_bits (bit_at a j) (bit_at b j) (bit_at-lt a j) (bit_at-lt b j))
    (λ (past : 128 ≤ j). let none = test_above a j fa past in test_and a _ j ∙ rw none refl)
    (cases_lt j 128)

-- a word that loses a place is less
pub without_less : (w place : ℕ) → place < 128 → test w place ≡ true → bit_and w (bit_not w128 (one place)) < w
without_less w place lt has =
    let le : bit_and w (bit_not w128 (one place)) ≤ w = and_le_l w _ in
    let gone : bit_at (bit_and w (bit_not w128 (one place))) place ≡ 0 = bit_at_clear_same w128 w place lt in
    let there : bit_at w place ≡ 1 = eqb-true _ _ has in
    let other : bit_and w (bit_not w128 (one place)) ≢ w = λ e. omega (arith, sym (ap (λ x. bit_at x place) e) ∙ gone) in
    omega arith

pub zero_from_tests : (w : ℕ) → ((j : ℕ) → test w j ≡ false) → w ≡ 0
zero_from_tests w none = same_from_bits w 0 (λ j. test-false w j (none j) ∙ sym (bit_at-zero j))

pub test_zero : (j : ℕ) → test 0 j ≡ false
test_zero j = ap (λ x. x == 1) (bit_at-zero j)

-- the lowest bits
pub test_ones : (count j : ℕ) → test (2 ^ count - 1) j ≡ nat_lt j count
test_ones count j =
    ⊎_elim
    (λ (lt : j < count). rw (lt-ltb j count lt) (eq-eqb _ _ (bit_at_ones count j lt)))
    (λ (le : count ≤ j). rw (le-ltb j count le) (ap (λ x. x == 1) (bit_at_ones_above count j le)))
    (cases_lt j count)
