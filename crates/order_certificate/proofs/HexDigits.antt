-- Hexadecimal numbers, read digit by digit.
use Rattle.std.proofs.Common.{◌≡◌, ℕ, zero, suc, ◌+◌, ◌*◌, ◌/◌, ◌%◌, ◌^◌, ◌<◌, ◌≤◌, Bool, true, false, nat_lt, if◌then◌else◌, List, [], ◌∷◌, ◌++◌, length, get_or, take, drop, Option, Some, None, option_and_then, refl, sym, ap, ◌∙◌, arith, add-one, drop-cons, length-append, length-take}
use Rattle.std.proofs.Math.Nat.{div-div-eq-div-mul, pow-succ', lt-div-mul-add, pow-le-pow_right, one-le-pow, mul_comm, mul_assoc, zero-mul}
use Rattle.std.proofs.Math.Seq.{take-append_seam, drop-append_seam}
use Rattle.std.proofs.lemmas.Bool.Decides.{nat_tests}
use Rattle.std.proofs.lemmas.List.{take-append-drop, drop_all}
use Rattle.std.specs.Fmt.{digit_glyph}
use Rattle.order_certificate.specs.Fields.{◌>>=◌, after, hex_digit, hex_from, hex_then}
use Rattle.order_certificate.specs.Hex.{hex}
use Rattle.order_certificate.proofs.Hex.{last_onto, hex-last}
use Rattle.order_certificate.proofs.Words.{bind_some, bind_is, some_parts, after_takes, after_again}

-- ---- one digit

hex_digit_takes : (b d : ℕ) → hex_digit b ≡ Some d → (digit_glyph false d ≡ b) × (d < 16)
hex_digit_takes b d e = (grind (arith, nat_tests), grind (arith, nat_tests))

hex_digit_again : (d : ℕ) → d < 16 → hex_digit (digit_glyph false d) ≡ Some d
hex_digit_again d small = grind (arith, nat_tests)

-- ---- the loop over the digits

pub hex_from_more : (digits : List ℕ) (i number d : ℕ) → i < length digits → hex_digit (get_or digits i 0) ≡ Some d → hex_from number (drop i digits) ≡ hex_from (16 * number + d) (drop (i + 1) digits)
unfolding hex_from
hex_from_more digits i number d below e =
    ap (hex_from number) (drop-cons digits i 0 below) ∙ bind_is (hex_digit (get_or digits i 0)) _ d e ∙ ap (λ k. hex_from (16 * number + d) (drop k digits)) (sym (add-one i))

pub hex_from_none : (digits : List ℕ) (i number : ℕ) → i < length digits → hex_digit (get_or digits i 0) ≡ None → hex_from number (drop i digits) ≡ None
unfolding hex_from
hex_from_none digits i number below e =
    ap (hex_from number) (drop-cons digits i 0 below) ∙ ap (option_and_then (λ d. hex_from (16 * number + d) (drop (suc i) digits))) e

pub hex_from_end : (digits : List ℕ) (i number : ℕ) → length digits ≤ i → hex_from number (drop i digits) ≡ Some number
unfolding hex_from
hex_from_end digits i number past = ap (hex_from number) (drop_all i digits past)

-- numbers of so many digits
pub longer_fits : (i number d : ℕ) → number < 16 ^ i → d ≤ 15 → 16 * number + d < 16 ^ (i + 1)
longer_fits i number d fits small = rw (add-one i) (omega (arith, pow-succ' 16 i))

pub fits_64 : (i number d : ℕ) → number < 16 ^ i → i < 16 → d ≤ 15 → 16 * number + d < 2 ^ 64
fits_64 i number d fits few small =
    let most : 16 ^ i ≤ 16 ^ 15 = pow-le-pow_right {n = 16} (omega arith) {i = i} {j = 15} (omega arith) in
    omega arith

-- ---- the digits of a number

last_onto-first : (k m : ℕ) (acc : List ℕ) → last_onto (suc k) m acc ≡ digit_glyph false (m / 16 ^ k % 16) ∷ last_onto k m acc
last_onto-first zero m acc = ap (λ n. digit_glyph false (n % 16) ∷ acc) (omega arith)
last_onto-first (suc k) m acc =
    last_onto-first k (m / 16) (digit_glyph false (m % 16) ∷ acc)
    ∙ ap (λ n. digit_glyph false (n % 16) ∷ last_onto k (m / 16) (digit_glyph false (m % 16) ∷ acc)) (div-div-eq-div-mul m 16 (16 ^ k) ∙ ap (λ t. m / t) (sym (pow-succ' 16 k)))

record Numeral (number m : ℕ) (ds : List ℕ) : Type 0 where
  written : last_onto (length ds) m [] ≡ ds
  front : m / 16 ^ length ds ≡ number

hex_from_takes : (number : ℕ) (ds : List ℕ) (m : ℕ) → hex_from number ds ≡ Some m → Numeral number m ds
unfolding hex_from
hex_from_takes number [] m e = record { written = refl; front = let same : number ≡ m = cc in omega arith }
hex_from_takes number (b ∷ ds) m e =
    let first = bind_some (hex_digit b) _ _ e in
    let digit = hex_digit_takes b first.value first.is in
    let more = hex_from_takes (16 * number + first.value) ds m first.more in
    let last : m / 16 ^ length ds % 16 ≡ first.value = omega (arith, more.front, digit.1) in
    record {
      written = last_onto-first (length ds) m [] ∙ (λ i. (ap (digit_glyph false) last ∙ digit.0) i ∷ more.written i);
      front = ap (λ t. m / t) (pow-succ' 16 (length ds) ∙ mul_comm 16 (16 ^ length ds)) ∙ sym (div-div-eq-div-mul m (16 ^ length ds) 16) ∙ omega (arith, more.front, digit.1);
    }

hex_from_again : (width number n : ℕ) (acc : List ℕ) → n < 16 ^ width → hex_from number (last_onto width n acc) ≡ hex_from (number * 16 ^ width + n) acc
unfolding hex_from
hex_from_again zero number n acc fits = ap (λ m. hex_from m acc) (omega arith)
hex_from_again (suc width) number n acc fits =
    hex_from_again width number (n / 16) (digit_glyph false (n % 16) ∷ acc) (omega (arith, pow-succ' 16 width))
    ∙ bind_is (hex_digit (digit_glyph false (n % 16))) _ (n % 16) (hex_digit_again (n % 16) (omega arith))
    ∙ ap (λ m. hex_from m acc) (omega (arith, ap (λ t. number * t) (pow-succ' 16 width), mul_assoc number 16 (16 ^ width)))

length-last_onto : (width n : ℕ) (acc : List ℕ) → length (last_onto width n acc) ≡ width + length acc
length-last_onto zero n acc = omega arith
length-last_onto (suc width) n acc = omega (arith, length-last_onto width (n / 16) (digit_glyph false (n % 16) ∷ acc))

-- ---- a number and the byte behind it

abbrev number_then : ℕ → Option ℕ → List ℕ → Option (ℕ × List ℕ)
number_then behind number left = number >>= λ n. after (behind ∷ []) left >>= λ rest. Some (n, rest)

pub record IsHex (width n behind : ℕ) (text rest : List ℕ) : Type 0 where
  pub is : text ≡ hex width n ++ behind ∷ rest
  pub fits : n < 16 ^ width

pub hex_takes : (width behind : ℕ) (text : List ℕ) (n : ℕ) (rest : List ℕ) → width < 64 → hex_then (suc width) behind text ≡ Some (n, rest) → IsHex (suc width) n behind text rest
unfolding hex_then
hex_takes width behind text n rest room e = by_test (nat_lt (length text) (suc width)) refl e
  where
    by_test : (short : Bool) → nat_lt (length text) (suc width) ≡ short →
        (if short then None else number_then behind (hex_from 0 (take (suc width) text)) (drop (suc width) text)) ≡ Some (n, rest) →
        IsHex (suc width) n behind text rest
    by_test true is e = absurd (let no : ⊥ = cc in no)
    by_test false is e =
        let first = bind_some (hex_from 0 (take (suc width) text)) _ _ e in
        let second = bind_some (after (behind ∷ []) (drop (suc width) text)) _ _ first.more in
        let same = some_parts first.value second.value n rest second.more in
        let value : first.value ≡ n = same.0 in
        let left : second.value ≡ rest = same.1 in
        let stands = after_takes (behind ∷ []) (drop (suc width) text) second.value second.is in
        let numeral = hex_from_takes 0 (take (suc width) text) n (first.is ∙ ap Some value) in
        let enough : suc width ≤ length text = grind (arith, nat_tests) in
        let long : length (take (suc width) text) ≡ suc width = omega (arith, length-take (suc width) text) in
        let front : n / 16 ^ suc width ≡ 0 = rw long at numeral.front in
        let written : last_onto (suc width) n [] ≡ take (suc width) text = rw long at numeral.written in
        let positive : 0 < 16 ^ suc width = one-le-pow (suc width) 16 (omega arith) in
        let fits : n < 16 ^ suc width = omega (arith, rw front at (lt-div-mul-add {a = n} {b = 16 ^ suc width} positive)) in
        record {
          is = sym (take-append-drop (suc width) text) ∙ (λ i. (sym written ∙ sym (hex-last width n fits room)) i ++ (stands ∙ ap (λ t. behind ∷ t) left) i);
          fits = fits;
        }

pub hex_again : (width behind n : ℕ) (rest : List ℕ) → width < 64 → n < 16 ^ suc width → hex_then (suc width) behind (hex (suc width) n ++ behind ∷ rest) ≡ Some (n, rest)
unfolding hex_then hex_from
hex_again width behind n rest room fits =
    let ds : List ℕ = hex (suc width) n in
    let is : ds ≡ last_onto (suc width) n [] = hex-last width n fits room in
    let long : length ds ≡ suc width = ap length is ∙ length-last_onto (suc width) n [] ∙ omega arith in
    let test : nat_lt (length (ds ++ behind ∷ rest)) (suc width) ≡ false = grind (arith, nat_tests, length-append ds (behind ∷ rest), long) in
    let front : take (suc width) (ds ++ behind ∷ rest) ≡ ds = ap (λ k. take k (ds ++ behind ∷ rest)) (sym long) ∙ take-append_seam ds (behind ∷ rest) in
    let back : drop (suc width) (ds ++ behind ∷ rest) ≡ behind ∷ rest = ap (λ k. drop k (ds ++ behind ∷ rest)) (sym long) ∙ drop-append_seam ds (behind ∷ rest) in
    let value : hex_from 0 ds ≡ Some n = ap (hex_from 0) is ∙ hex_from_again (suc width) 0 n [] fits ∙ whole n in
    ap (λ t. if t then None else number_then behind (hex_from 0 (take (suc width) (ds ++ behind ∷ rest))) (drop (suc width) (ds ++ behind ∷ rest))) test
    ∙ bind_is (hex_from 0 (take (suc width) (ds ++ behind ∷ rest))) _ n (ap (hex_from 0) front ∙ value)
    ∙ bind_is (after (behind ∷ []) (drop (suc width) (ds ++ behind ∷ rest))) _ rest (ap (after (behind ∷ [])) back ∙ after_again (behind ∷ []) rest)
  where
    whole : (m : ℕ) → hex_from (0 * 16 ^ suc width + m) [] ≡ Some m
    whole m = ap Some (omega (arith, zero-mul (16 ^ suc width)))
