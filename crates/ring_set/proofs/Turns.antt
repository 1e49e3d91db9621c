-- A word turned round: where each bit comes to lie, and which is the lowest and the highest.
use Rattle.std.proofs.Common.{le-div_iff_mul-le, pow-suc, div-lt_iff_lt-mul, ◌≡◌, ℕ, suc, ◌+◌, ◌-◌, ◌*◌, ◌/◌, ◌%◌, ◌^◌, ◌<◌, ◌≤◌, Bool, true, false, ◌==◌, ◌&&◌, max, bit_and, refl, sym, ap, ◌∙◌, ⊎_elim, arith, add-zero, pow_pos}
use Rattle.std.specs.Int.{bit_at, w128, rotate_left, rotate_right}
use Rattle.std.specs.Int.Count.{count_trailing_zeros, count_leading_zeros, trailing_of_zero, leading_of_zero}
use Rattle.std.proofs.lemmas.Bool.{cases_eq, cases_lt, eq-eqb, lt-ltb}
use Rattle.std.proofs.lemmas.Nat.{and_le_l, shr-shr, shr_split, leading_top}
use Rattle.std.proofs.lemmas.Nat.Bits.{bit_at-zero, bit_at_and, bit_at_or, bit_at_above, bit_at_ones_above, bit_at_cat_low, bit_at_cat_high, bit_at-trailing_zeros}
use Rattle.ring_set.specs.Sets.{least, greatest}
use Rattle.ring_set.proofs.Bits.{test, test_and, test_ones}
use Rattle.ring_set.proofs.Ages.{least_is, least_none, greatest_is, greatest_none}

bit_at_mod : (n w i : ℕ) → i < w → bit_at (n % 2 ^ w) i ≡ bit_at n i
bit_at_mod n w i h = sym (bit_at_cat_low (n / 2 ^ w) w (n % 2 ^ w) i h) ∙ ap (λ x. bit_at x i) (shr_split n w)

bit_at_shl_low : (n m k : ℕ) → k < m → bit_at (n * 2 ^ m) k ≡ 0
bit_at_shl_low n m k h = ap (λ x. bit_at x k) (sym (add-zero (n * 2 ^ m))) ∙ bit_at_cat_low n m 0 k h ∙ bit_at-zero k

bit_at_shl_high : (n m k : ℕ) → m ≤ k → bit_at (n * 2 ^ m) k ≡ bit_at n (k - m)
bit_at_shl_high n m k h = ap (λ x. bit_at x k) (sym (add-zero (n * 2 ^ m))) ∙ bit_at_cat_high n m 0 k (pow_pos m) h

-- the two parts of a word of 128 bits that is turned right by h
abbrev down : ℕ → ℕ → ℕ
down w h = w / 2 ^ h

abbrev up : ℕ → ℕ → ℕ
up w h = w * 2 ^ ((128 - h) % 128) % 2 ^ 128

module _ (w h k : ℕ) (fits : w < 2 ^ 128) (turn : h < 128) (within : k < 128) where
  low_part : bit_at (down w h) k ≡ bit_at w (h + k)
  low_part = ap (λ x. x % 2) (shr-shr w h k)

  high_part : bit_at (up w h) k ≡ bit_at (w * 2 ^ ((128 - h) % 128)) k
  high_part = bit_at_mod (w * 2 ^ ((128 - h) % 128)) 128 k within

  not_turned : h ≡ 0 → max (bit_at (down w h) k) (bit_at (up w h) k) ≡ bit_at w ((h + k) % 128)
  not_turned none =
      let same : (128 - h) % 128 ≤ k = omega arith in
      let at : (h + k) % 128 ≡ h + k = omega arith in
      let at' : k - (128 - h) % 128 ≡ h + k = omega arith in
      let high : bit_at (up w h) k ≡ bit_at w (h + k) = high_part ∙ bit_at_shl_high w ((128 - h) % 128) k same ∙ ap (bit_at w) at' in
      rw (at, low_part, high) (omega arith)

  stays : (h ≡ 0 → ⊥) → h + k < 128 → max (bit_at (down w h) k) (bit_at (up w h) k) ≡ bit_at w ((h + k) % 128)
  stays some lt =
      let below : k < (128 - h) % 128 = omega arith in
      let at : (h + k) % 128 ≡ h + k = omega arith in
      let high : bit_at (up w h) k ≡ 0 = high_part ∙ bit_at_shl_low w ((128 - h) % 128) k below in
      rw (at, low_part, high) (omega arith)

  wraps : 128 ≤ h + k → max (bit_at (down w h) k) (bit_at (up w h) k) ≡ bit_at w ((h + k) % 128)
  wraps le =
      let above : (128 - h) % 128 ≤ k = omega arith in
      let at : k - (128 - h) % 128 ≡ (h + k) % 128 = omega arith in
      let low : bit_at (down w h) k ≡ 0 = low_part ∙ bit_at_above w 128 (h + k) fits le in
      let high : bit_at (up w h) k ≡ bit_at w ((h + k) % 128) = high_part ∙ bit_at_shl_high w ((128 - h) % 128) k above ∙ ap (bit_at w) at in
      rw (low, high) (omega arith)

  turned : max (bit_at (down w h) k) (bit_at (up w h) k) ≡ bit_at w ((h + k) % 128)
  turned =
      ⊎_elim not_turned (λ (ne : h ≡ 0 → ⊥). ⊎_elim (stays ne) wraps (cases_lt (h + k) 128)) (cases_eq h 0)

-- after a turn to the right by the head, the bit of each age is that of its place
pub bit_at-turned_right : (w h k : ℕ) → w < 2 ^ 128 → h < 128 → k < 128 → bit_at (rotate_right w128 w h) k ≡ bit_at w ((h + k) % 128)
bit_at-turned_right w h k fits turn within =
    let e : h % 128 ≡ h = omega arith in
    bit_at_or (w / 2 ^ (h % 128)) (w * 2 ^ ((128 - h % 128) % 128) % 2 ^ 128) k
    ∙ rw e (turned w h k fits turn within)

pub bit_at-turned_left : (w h k : ℕ) → w < 2 ^ 128 → h < 128 → k < 128 → bit_at (rotate_left w128 w h) ((h + k) % 128) ≡ bit_at w k
bit_at-turned_left w h k fits turn within =
    let back : ℕ = (128 - h) % 128 in
    let at : ℕ = (h + k) % 128 in
    let small : h % 128 ≡ h = omega arith in
    let twice : (128 - back) % 128 ≡ h = omega arith in
    let place : (back + at) % 128 ≡ k = omega arith in
    let or : bit_at (rotate_left w128 w h) at ≡ max (bit_at (w * 2 ^ (h % 128) % 2 ^ 128) at) (bit_at (w / 2 ^ ((128 - h % 128) % 128)) at) =
    bit_at_or (w * 2 ^ (h % 128) % 2 ^ 128) (w / 2 ^ ((128 - h % 128) % 128)) at in
    let right : max (bit_at (w / 2 ^ back) at) (bit_at (w * 2 ^ ((128 - back) % 128) % 2 ^ 128) at) ≡ bit_at w ((back + at) % 128) =
    turned w back at fits (omega arith) (omega arith) in
    let right' : max (bit_at (w / 2 ^ back) at) (bit_at (w * 2 ^ h % 2 ^ 128) at) ≡ bit_at w k = rw (twice, place) at right in
    or ∙ rw small (omega (arith, right'))

-- the same of a call's result, whose argument is the head in another type
pub test-turned_right : (w h k from got : ℕ) → w < 2 ^ 128 → h < 128 → k < 128 → from ≡ h → got ≡ rotate_right w128 w from → test got k ≡ test w ((h + k) % 128)
test-turned_right w h k from got fits turn within same is =
    ap (λ x. test x k) (is ∙ ap (rotate_right w128 w) same) ∙ ap (λ b. b == 1) (bit_at-turned_right w h k fits turn within)

pub test-turned_left : (w h k from got : ℕ) → w < 2 ^ 128 → h < 128 → k < 128 → from ≡ h → got ≡ rotate_left w128 w from → test got ((h + k) % 128) ≡ test w k
test-turned_left w h k from got fits turn within same is =
    ap (λ x. test x ((h + k) % 128)) (is ∙ ap (rotate_left w128 w) same) ∙ ap (λ b. b == 1) (bit_at-turned_left w h k fits turn within)

-- ---- the lowest and the highest bit

bit_at-top : (y j : ℕ) → 2 ^ j ≤ y → y < 2 ^ suc j → bit_at y j ≡ 1
bit_at-top y j le lt =
    let low : 1 ≤ y / 2 ^ j = (le-div_iff_mul-le (pow_pos j)).1 (omega arith) in
    let high : y / 2 ^ j < 2 = (div-lt_iff_lt-mul (pow_pos j)).1 (omega (arith, pow-suc 2 j)) in
    omega arith

-- how many zeros stand below the lowest bit
pub trailing-least : (p : ℕ → Bool) (w : ℕ) → w < 2 ^ 128 → ((k : ℕ) → k < 128 → p k ≡ test w k) → count_trailing_zeros 128 w ≡ least p 128
trailing-least p w fits is =
    ⊎_elim
    (λ (e : w ≡ 0). rw e (trailing_of_zero 128) ∙ sym (least_none p 128 (λ i h. is i h ∙ ap (λ x. test x i) e ∙ ap (λ x. x == 1) (bit_at-zero i))))
    (λ (ne : w ≡ 0 → ⊥).
    let low = bit_at-trailing_zeros w128 w (omega arith) fits in
    sym (least_is p 128 (count_trailing_zeros 128 w) low.0 (is _ low.0 ∙ eq-eqb _ _ low.1) (λ i h. let lt : i < 128 = omega (arith, low.0) in is i lt ∙ ap (λ x. x == 1) (low.2 i h))))
    (cases_eq w 0)

and-true : (b : Bool) → (b && true) ≡ b
and-true true = refl
and-true false = refl

-- where the word has no bit from the count on, the zeros above its highest bit give its place
leading-greatest : (p : ℕ → Bool) (y count : ℕ) → y < 2 ^ 128 → count ≤ 128 → ((k : ℕ) → k < count → p k ≡ test y k) → ((k : ℕ) → count ≤ k → bit_at y k ≡ 0) → 128 - count_leading_zeros 128 y ≡ greatest p count
leading-greatest p y count fits le is past =
    ⊎_elim
    (λ (e : y ≡ 0). rw (e, leading_of_zero 128) (sym (greatest_none p count (λ i h. is i h ∙ ap (λ x. test x i) e ∙ ap (λ x. x == 1) (bit_at-zero i)))))
    (λ (ne : y ≡ 0 → ⊥).
    let top = leading_top 128 y (omega arith) fits in
    let j : ℕ = top.0 in
    let at : bit_at y j ≡ 1 = bit_at-top y j top.2 top.3 in
    let lt : j < count = ⊎_elim (λ (l : j < count). l) (λ (l : count ≤ j). absurd (omega (arith, past j l))) (cases_lt j count) in
    let e : 128 - count_leading_zeros 128 y ≡ suc j = omega (arith, top.1) in
    e ∙ sym (greatest_is p count j lt (is j lt ∙ eq-eqb _ _ at) (λ i h k. is i k ∙ ap (λ x. x == 1) (bit_at_above y (suc j) i top.3 (omega arith)))))
    (cases_eq y 0)

-- the same of the lowest bits of a word
pub leading-greatest_low : (p : ℕ → Bool) (x low count : ℕ) → x < 2 ^ 128 → count ≤ 128 → low ≡ 2 ^ count - 1 → ((k : ℕ) → k < 128 → p k ≡ test x k) → 128 - count_leading_zeros 128 (bit_and x low) ≡ greatest p count
leading-greatest_low p x low count fits le is same =
    leading-greatest p (bit_and x low) count (omega (arith, and_le_l x low)) le
    (λ k lt. same k (omega arith) ∙ sym (test_and x low k ∙ ap (λ b. test x k && b) (ap (λ w. test w k) is ∙ test_ones count k ∙ lt-ltb k count lt) ∙ and-true (test x k)))
    (λ k past. let none : bit_at low k ≡ 0 = ap (λ w. bit_at w k) is ∙ bit_at_ones_above count k past in omega (arith, bit_at_and x low k))
