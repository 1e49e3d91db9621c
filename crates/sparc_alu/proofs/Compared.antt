-- The codes of a difference compare its operands, at 32 and at 64 bits.
use Rattle.std.specs.Prelude.{◌≡◌, ℕ, ◌+◌, ◌-◌, ◌^◌, ◌<◌, ◌==◌, Bool, true, false, not, ◌||◌, pos, ◌-ℤ◌, int_lt, int_le, nat_le, nat_lt}
use mathlib.Core.Bool.{xor}
use Rattle.std.proofs.Common.{arith, refl, ◌∙◌, ap, sym, subst}
use Rattle.std.proofs.lemmas.Bool.Decides.{nat_tests}
use Rattle.std.proofs.lemmas.Int.{ints}
use Rattle.sparc_decode.specs.Fields as field
use Rattle.sparc_decode.specs.declared.instr.Op.TheVariants.{SubCc}
use Rattle.sparc_alu.specs.Codes as code
use Rattle.sparc_alu.specs.Codes.{icc, xcc}
use Rattle.sparc_alu.specs.Laws.{Compare}
use Rattle.sparc_alu.specs.Numbers.{low, signed, is_signed}
use Rattle.sparc_alu.specs.Results.{codes}
use Rattle.sparc_alu.proofs.FourCodes.{negative_of, zero_of, overflow_of, carry_of, codes_below_16, icc_of, xcc_of}

-- the number that such a difference leaves in so many bits
abbrev left : ℕ → ℕ → ℕ → ℕ
left width a b = low width a + 2 ^ width + 2 ^ width - low width b - 0

equal_32 : (a b : ℕ) → (low 32 (left 32 a b) == 0) ≡ (low 32 a == low 32 b)
equal_32 a b = grind (arith, nat_tests)

equal_64 : (a b : ℕ) → (low 64 (left 64 a b) == 0) ≡ (low 64 a == low 64 b)
equal_64 a b = grind (arith, nat_tests)

-- where the sign of the result is that of the difference, and where it is not

turned : (c a : Bool) → a ≡ not c → not a ≡ c
turned true a e = ap not e
turned false a e = ap not e

unlike : (a b c : Bool) → (b ≡ true → a ≡ c) → (b ≡ false → a ≡ not c) → xor a (not b) ≡ c
unfolding xor
unlike a true c here there = elim a as (λ x. (x ≡ c) → xor x false ≡ c) [ true ↦ λ e. e | false ↦ λ e. e ] (here refl)
unlike a false c here there = elim a as (λ x. (x ≡ not c) → xor x true ≡ c) [ true ↦ λ e. turned c true e | false ↦ λ e. turned c false e ] (there refl)

fits_32 : (x y : ℕ) → x < 2 ^ 32 → y < 2 ^ 32
    → is_signed 32 (field.signed 32 x -ℤ field.signed 32 y -ℤ pos 0) ≡ true
    → int_lt (signed 32 (x + 2 ^ 32 + 2 ^ 32 - y - 0)) (pos 0) ≡ int_lt (field.signed 32 x) (field.signed 32 y)
fits_32 x y p q h = grind (arith, nat_tests, ints)

overflows_32 : (x y : ℕ) → x < 2 ^ 32 → y < 2 ^ 32
    → is_signed 32 (field.signed 32 x -ℤ field.signed 32 y -ℤ pos 0) ≡ false
    → int_lt (signed 32 (x + 2 ^ 32 + 2 ^ 32 - y - 0)) (pos 0) ≡ not (int_lt (field.signed 32 x) (field.signed 32 y))
overflows_32 x y p q h = grind (arith, nat_tests, ints)

less_32 : (a b : ℕ) → xor (int_lt (signed 32 (left 32 a b)) (pos 0)) (not (is_signed 32 (signed 32 a -ℤ signed 32 b -ℤ pos 0)))
    ≡ int_lt (signed 32 a) (signed 32 b)
less_32 a b =
    let p : low 32 a < 2 ^ 32 = omega arith in
    let q : low 32 b < 2 ^ 32 = omega arith in
    unlike _ _ _ (fits_32 (low 32 a) (low 32 b) p q) (overflows_32 (low 32 a) (low 32 b) p q)

fits_64 : (x y : ℕ) → x < 2 ^ 64 → y < 2 ^ 64
    → is_signed 64 (field.signed 64 x -ℤ field.signed 64 y -ℤ pos 0) ≡ true
    → int_lt (signed 64 (x + 2 ^ 64 + 2 ^ 64 - y - 0)) (pos 0) ≡ int_lt (field.signed 64 x) (field.signed 64 y)
fits_64 x y p q h = grind (arith, nat_tests, ints)

overflows_64 : (x y : ℕ) → x < 2 ^ 64 → y < 2 ^ 64
    → is_signed 64 (field.signed 64 x -ℤ field.signed 64 y -ℤ pos 0) ≡ false
    → int_lt (signed 64 (x + 2 ^ 64 + 2 ^ 64 - y - 0)) (pos 0) ≡ not (int_lt (field.signed 64 x) (field.signed 64 y))
overflows_64 x y p q h = grind (arith, nat_tests, ints)

less_64 : (a b : ℕ) → xor (int_lt (signed 64 (left 64 a b)) (pos 0)) (not (is_signed 64 (signed 64 a -ℤ signed 64 b -ℤ pos 0)))
    ≡ int_lt (signed 64 a) (signed 64 b)
less_64 a b =
    let p : low 64 a < 2 ^ 64 = omega arith in
    let q : low 64 b < 2 ^ 64 = omega arith in
    unlike _ _ _ (fits_64 (low 64 a) (low 64 b) p q) (overflows_64 (low 64 a) (low 64 b) p q)

xor_same : {n v p q : Bool} → n ≡ p → v ≡ q → xor n v ≡ xor p q
xor_same e f = rw (e, f) refl

or_same : {n v p q : Bool} → n ≡ p → v ≡ q → (n || v) ≡ (p || q)
or_same e f = rw (e, f) refl

unsigned_or_equal : (x y : ℕ) → (nat_lt x (y + 0) || (x == y)) ≡ nat_le x y
unsigned_or_equal x y = grind (arith, nat_tests)

unsigned_less : (x y : ℕ) → nat_lt x (y + 0) ≡ nat_lt x y
unsigned_less x y = grind (arith, nat_tests)

or_equal_32 : (x y : ℕ) → x < 2 ^ 32 → y < 2 ^ 32 → ((x == y) || int_lt (field.signed 32 x) (field.signed 32 y)) ≡ int_le (field.signed 32 x) (field.signed 32 y)
or_equal_32 x y p q = grind (arith, nat_tests, ints)

or_equal_64 : (x y : ℕ) → x < 2 ^ 64 → y < 2 ^ 64 → ((x == y) || int_lt (field.signed 64 x) (field.signed 64 y)) ≡ int_le (field.signed 64 x) (field.signed 64 y)
or_equal_64 x y p q = grind (arith, nat_tests, ints)

-- the conditions on the codes of a difference, at any width where the operands compare
compared : (width a b : ℕ) (n z v c : Bool) → z ≡ (low width a == low width b) → xor n v ≡ int_lt (signed width a) (signed width b)
    → ((low width a == low width b) || int_lt (signed width a) (signed width b)) ≡ int_le (signed width a) (signed width b)
    → c ≡ nat_lt (low width a) (low width b + 0)
    → Compare width (code.codes n z v c) a b
compared width a b n z v c equal less or_equal borrows =
    let zero_is = zero_of n z v c ∙ equal in
    let less_is = xor_same (negative_of n z v c) (overflow_of n z v c) ∙ less in
    let carry_is = carry_of n z v c ∙ borrows in
    record {
      equal = zero_is;
      less_or_equal = or_same zero_is less_is ∙ or_equal;
      less = less_is;
      less_or_equal_unsigned = or_same carry_is zero_is ∙ unsigned_or_equal (low width a) (low width b);
      less_unsigned = carry_is ∙ unsigned_less (low width a) (low width b);
    }

compared_32 : (a b : ℕ) → Compare 32 (code.of_difference 32 a b 0) a b
compared_32 a b =
    compared 32 a b _ _ _ _ (equal_32 a b) (less_32 a b) (or_equal_32 (low 32 a) (low 32 b) (omega arith) (omega arith)) refl

compared_64 : (a b : ℕ) → Compare 64 (code.of_difference 64 a b 0) a b
compared_64 a b =
    compared 64 a b _ _ _ _ (equal_64 a b) (less_64 a b) (or_equal_64 (low 64 a) (low 64 b) (omega arith) (omega arith)) refl

difference_small : (width a b : ℕ) → code.of_difference width a b 0 < 16
difference_small width a b = codes_below_16 _ _ _ _

pub subtraction_compares : (a b cc : ℕ) → Compare 32 (icc (codes SubCc a b cc)) a b × Compare 64 (xcc (codes SubCc a b cc)) a b
unfolding codes
subtraction_compares a b cc =
    let narrow = difference_small 32 a b in
    let wide = difference_small 64 a b in
    let at_32 : ℕ → Type 0 = λ bits. Compare 32 bits a b in
    let at_64 : ℕ → Type 0 = λ bits. Compare 64 bits a b in
    (subst at_32 (sym (icc_of _ _ narrow)) (compared_32 a b), subst at_64 (sym (xcc_of _ _ wide narrow)) (compared_64 a b))
