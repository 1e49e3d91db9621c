-- Decimal numbers, read digit by digit.
use Rattle.std.proofs.Common.{◌≡◌, ◌≢◌, ℕ, zero, suc, ◌+◌, ◌-◌, ◌*◌, ◌^◌, ◌<◌, ◌≤◌, Bool, true, false, ◌&&◌, nat_lt, nat_le, nat_eq, if◌then◌else◌, List, [], ◌∷◌, ◌++◌, length, get_or, decimal, Option, Some, None, option_and_then, refl, sym, ap, ◌∙◌, arith}
use Rattle.std.specs.Int.{IsInRange}
use Rattle.std.specs.Char.{digit_value}
use Rattle.std.specs.Str.Parse.{AllDigits, digits_value, digits_value_after}
use Rattle.std.proofs.lemmas.Bool.Decides.{nat_tests}
use Rattle.std.proofs.lemmas.Fmt.{decimal-digits_value, digits_decimal, digits_value-decimal, decimal_nonempty, first_decimal, decimal_digit}
use Rattle.std.proofs.lemmas.Str.{digit_value_digit}
use Rattle.std.proofs.lemmas.Str.Parse.{IsNumeralModel, numerals_by_value, tells_digits, digit_from_value}
use Rattle.order_certificate.specs.Fields.{digit_at, with_digit, with_digits, digits_at, decimal_at}
use Rattle.order_certificate.proofs.Words.{bind_some, bind_is, if_some, some_parts}

pub numerals : IsNumeralModel (AllDigits 10) (digits_value 10)
numerals = numerals_by_value _ tells_digits

-- ---- one digit

pub record IsDigit (d : ℕ) (text rest : List ℕ) : Type 0 where
  pub is : text ≡ (48 + d) ∷ rest
  pub small : d ≤ 9

pub digit_takes : (text : List ℕ) (d : ℕ) (rest : List ℕ) → digit_at text ≡ Some (d, rest) → IsDigit d text rest
unfolding digit_at
digit_takes [] d rest e = absurd (let no : ⊥ = cc in no)
digit_takes (b ∷ text) d rest e =
    let found = if_some (nat_le 48 b && nat_le b 57) (b - 48, text) (d, rest) e in
    let range : IsInRange 48 57 b = grind (arith, nat_tests) in
    let value : b - 48 ≡ d = ap (λ x. x.0) found.1 in
    let left : text ≡ rest = ap (λ x. x.1) found.1 in
    let byte : b ≡ 48 + d = omega arith in
    record { is = λ i. byte i ∷ left i; small = omega arith }

pub digit_again : (d : ℕ) (rest : List ℕ) → d ≤ 9 → digit_at ((48 + d) ∷ rest) ≡ Some (d, rest)
unfolding digit_at
digit_again d rest small =
    let test : (nat_le 48 (48 + d) && nat_le (48 + d) 57) ≡ true = grind (arith, nat_tests) in
    let value : 48 + d - 48 ≡ d = omega arith in
    rw (test, value) refl

-- ---- a number with the digits behind it

abbrev longer_by : ℕ → Option (ℕ × List ℕ) → Option (ℕ × List ℕ)
longer_by number digit = option_and_then (λ x. Some (10 * number + x.0, x.1)) digit

-- a step of the loop, and its end
pub with_digits_more : (limit number : ℕ) (text : List ℕ) (longer : ℕ) (behind : List ℕ) → with_digit limit number text ≡ Some (longer, behind) →
    (with_digits limit number text ≡ with_digits limit longer behind) × (length behind < length text)
unfolding with_digit digit_at with_digits
with_digits_more limit number [] longer behind e = absurd (by_test (nat_lt number limit) e)
  where
    by_test : (below : Bool) → ◌≡◌ {A = Option (ℕ × List ℕ)} (if below then None else None) (Some (longer, behind)) → ⊥
    by_test true e = cc
    by_test false e = cc
with_digits_more limit number (b ∷ text) longer behind e = by_tests (nat_lt number limit) (nat_le 48 b && nat_le b 57) e
  where
    by_tests : (below digit : Bool) →
        (if below then longer_by number (if digit then Some (b - 48, text) else None) else None) ≡ Some (longer, behind) →
        ((if below && digit then with_digits limit (10 * number + (b - 48)) text else (number, b ∷ text)) ≡ with_digits limit longer behind) × (length behind < length (b ∷ text))
    by_tests true true e =
        let same = some_parts (10 * number + (b - 48)) text longer behind e in
        (λ i. with_digits limit (same.0 i) (same.1 i), omega (arith, ap length same.1))
    by_tests true false e = absurd (let no : ⊥ = cc in no)
    by_tests false digit e = absurd (let no : ⊥ = cc in no)

pub with_digits_end : (limit number : ℕ) (text : List ℕ) → with_digit limit number text ≡ None → with_digits limit number text ≡ (number, text)
unfolding with_digit digit_at with_digits
with_digits_end limit number [] e = refl
with_digits_end limit number (b ∷ text) e = by_tests (nat_lt number limit) (nat_le 48 b && nat_le b 57) e
  where
    by_tests : (below digit : Bool) →
        (if below then longer_by number (if digit then Some (b - 48, text) else None) else None) ≡ None →
        (if below && digit then with_digits limit (10 * number + (b - 48)) text else (number, b ∷ text)) ≡ (number, b ∷ text)
    by_tests true true e = absurd (let no : ⊥ = cc in no)
    by_tests true false e = refl
    by_tests false digit e = refl

-- what is read are digits of the text, and the number that they write behind the first one
record Digits (number : ℕ) (text : List ℕ) (read : ℕ × List ℕ) : Type 0 where
  ds : List ℕ
  split : text ≡ ds ++ read.1
  digits : AllDigits 10 ds
  value : read.0 ≡ digits_value_after 10 number ds

with_digits_takes : (limit number : ℕ) (text : List ℕ) → Digits number text (with_digits limit number text)
unfolding with_digits
with_digits_takes limit number [] = record { ds = []; split = refl; digits = tt; value = refl }
with_digits_takes limit number (b ∷ text) =
    by_test (nat_lt number limit && (nat_le 48 b && nat_le b 57)) refl (with_digits_takes limit (10 * number + (b - 48)) text)
  where
    by_test : (test : Bool) → (nat_lt number limit && (nat_le 48 b && nat_le b 57)) ≡ test → Digits (10 * number + (b - 48)) text (with_digits limit (10 * number + (b - 48)) text) →
        Digits number (b ∷ text) (if test then with_digits limit (10 * number + (b - 48)) text else (number, b ∷ text))
    by_test false is more = record { ds = []; split = refl; digits = tt; value = refl }
    by_test true is more =
        let range : IsInRange 48 57 b = grind (arith, nat_tests) in
        let value = digit_value_digit b range in
        let same : 10 * number + (b - 48) ≡ number * 10 + digit_value b = omega arith in
        record {
          ds = b ∷ more.ds;
          split = ap (λ t. b ∷ t) more.split;
          digits = (omega arith, more.digits);
          value = more.value ∙ ap (λ n. digits_value_after 10 n more.ds) same;
        }

value_grows : (number : ℕ) (ds : List ℕ) → number ≤ digits_value_after 10 number ds
value_grows number [] = omega arith
value_grows number (c ∷ ds) = omega (arith, value_grows (number * 10 + digit_value c) ds)

-- no digit stands there
with_digits_none : (limit number : ℕ) (text : List ℕ) → digit_at text ≡ None → with_digits limit number text ≡ (number, text)
unfolding with_digits digit_at
with_digits_none limit number [] e = refl
with_digits_none limit number (b ∷ text) e = by_tests (nat_lt number limit) (nat_le 48 b && nat_le b 57) e
  where
    by_tests : (below digit : Bool) → ◌≡◌ {A = Option (ℕ × List ℕ)} (if digit then Some (b - 48, text) else None) None →
        (if below && digit then with_digits limit (10 * number + (b - 48)) text else (number, b ∷ text)) ≡ (number, b ∷ text)
    by_tests true true e = absurd (let no : ⊥ = cc in no)
    by_tests true false e = refl
    by_tests false digit e = refl

with_digits_again : (limit number : ℕ) (ds rest : List ℕ) → AllDigits 10 ds → digits_value_after 10 number ds < limit → digit_at rest ≡ None →
    with_digits limit number (ds ++ rest) ≡ (digits_value_after 10 number ds, rest)
unfolding with_digits
with_digits_again limit number [] rest digits small none = with_digits_none limit number rest none
with_digits_again limit number (c ∷ ds) rest digits small none =
    let range : IsInRange 48 57 c = digit_from_value c digits.0 in
    let value = digit_value_digit c range in
    let grows = value_grows (number * 10 + digit_value c) ds in
    let test : (nat_lt number limit && (nat_le 48 c && nat_le c 57)) ≡ true = grind (arith, nat_tests) in
    let same : 10 * number + (c - 48) ≡ number * 10 + digit_value c = omega arith in
    ap (λ t. if t then with_digits limit (10 * number + (c - 48)) (ds ++ rest) else (number, c ∷ (ds ++ rest))) test
    ∙ ap (λ n. with_digits limit n (ds ++ rest)) same
    ∙ with_digits_again limit (number * 10 + digit_value c) ds rest digits.1 small none

-- ---- a number

pub record IsDecimal (limit n : ℕ) (text rest : List ℕ) : Type 0 where
  pub is : text ≡ decimal n ++ rest
  pub small : n < limit

digits_takes : (limit : ℕ) (text : List ℕ) (n : ℕ) (rest : List ℕ) → digits_at limit text ≡ Some (n, rest) → n < 2 ^ 64 → text ≡ decimal n ++ rest
unfolding digits_at
digits_takes limit text n rest e fits =
    let first = bind_some (digit_at text) _ _ e in
    let digit = digit_takes text first.value.0 first.value.1 first.is in
    let read : (if nat_eq first.value.0 0 then first.value else with_digits limit first.value.0 first.value.1) ≡ (n, rest) = cc in
    by_test first.value.0 first.value.1 digit (nat_eq first.value.0 0) refl read
  where
    by_test : (d : ℕ) (left : List ℕ) → IsDigit d text left → (none : Bool) → nat_eq d 0 ≡ none → (if none then (d, left) else with_digits limit d left) ≡ (n, rest) → text ≡ decimal n ++ rest
    by_test d left digit true is read =
        let value : d ≡ n = ap (λ x. x.0) read in
        let same : left ≡ rest = ap (λ x. x.1) read in
        let zero_is : n ≡ 0 = grind (arith, nat_tests) in
        digit.is ∙ (λ i. (48 + (value ∙ zero_is) i) ∷ same i) ∙ ap (λ t. t ++ rest) (sym (decimal_digit 0 (omega arith)) ∙ ap decimal (sym zero_is))
    by_test d left digit false is read =
        let taken = with_digits_takes limit d left in
        let ds : List ℕ = (48 + d) ∷ taken.ds in
        let some : d ≢ 0 = grind (arith, nat_tests) in
        let range : IsInRange 48 57 (48 + d) = omega (arith, digit.small) in
        let value_of : digit_value (48 + d) ≡ d = omega (arith, digit_value_digit (48 + d) range) in
        let all : AllDigits 10 ds = (omega (arith, value_of, digit.small), taken.digits) in
        let same : digits_value_after 10 d taken.ds ≡ digits_value 10 ds = ap (λ m. digits_value_after 10 m taken.ds) (omega (arith, value_of)) in
        let value : digits_value 10 ds ≡ n = sym same ∙ sym taken.value ∙ ap (λ x. x.0) read in
        let written = decimal-digits_value numerals ds all (omega arith) (λ e. absurd (some (omega arith))) (rw value fits) in
        digit.is ∙ ap (λ t. (48 + d) ∷ t) (taken.split ∙ ap (λ t. taken.ds ++ t) (ap (λ x. x.1) read)) ∙ ap (λ t. t ++ rest) (sym written ∙ ap decimal value)

pub decimal_takes : (limit : ℕ) (text : List ℕ) (n : ℕ) (rest : List ℕ) → limit ≤ 2 ^ 64 → decimal_at limit text ≡ Some (n, rest) → IsDecimal limit n text rest
unfolding decimal_at
decimal_takes limit text n rest room e =
    let first = bind_some (digits_at limit text) _ _ e in
    let below = if_some (nat_lt first.value.0 limit) first.value (n, rest) first.more in
    let found : digits_at limit text ≡ Some (n, rest) = first.is ∙ ap Some below.1 in
    let same : first.value.0 ≡ n = ap (λ x. x.0) below.1 in
    let small : n < limit = grind (arith, nat_tests) in
    record { is = digits_takes limit text n rest found (omega arith); small = small }

digits_again : (limit n : ℕ) (ds rest : List ℕ) → AllDigits 10 ds → 0 < length ds → (get_or ds 0 0 ≡ 48 → ds ≡ 48 ∷ []) → digits_value 10 ds ≡ n → n < limit → digit_at rest ≡ None →
    digits_at limit (ds ++ rest) ≡ Some (n, rest)
unfolding digits_at
digits_again limit n [] rest all some lead value small none = absurd (omega arith)
digits_again limit n (c ∷ ds) rest all some lead value small none =
    let range : IsInRange 48 57 c = digit_from_value c all.0 in
    let byte : c ≡ 48 + (c - 48) = omega arith in
    let first : digit_at (c ∷ (ds ++ rest)) ≡ Some (c - 48, ds ++ rest) = ap (λ b. digit_at (b ∷ (ds ++ rest))) byte ∙ digit_again (c - 48) (ds ++ rest) (omega arith) in
    let valued : digit_value c ≡ c - 48 = omega (arith, digit_value_digit c range) in
    let whole : digits_value_after 10 (c - 48) ds ≡ n = ap (λ m. digits_value_after 10 m ds) (omega arith) ∙ value in
    bind_is (digit_at (c ∷ (ds ++ rest))) _ _ first ∙ ap Some (by_test (nat_eq (c - 48) 0) refl range whole)
  where
    by_test : (none : Bool) → nat_eq (c - 48) 0 ≡ none → IsInRange 48 57 c → digits_value_after 10 (c - 48) ds ≡ n →
        (if none then (c - 48, ds ++ rest) else with_digits limit (c - 48) (ds ++ rest)) ≡ (n, rest)
    by_test true is range whole =
        let zero_is : c ≡ 48 = grind (arith, nat_tests) in
        let alone : c ∷ ds ≡ 48 ∷ [] = lead zero_is in
        let empty : ds ≡ [] = cc in
        let number : c - 48 ≡ n = rw empty at whole in
        (λ i. (number i, empty i ++ rest))
    by_test false is range whole =
        with_digits_again limit (c - 48) ds rest all.1 (omega (arith, whole)) none ∙ (λ i. (whole i, rest))

pub decimal_again : (limit n : ℕ) (rest : List ℕ) → limit ≤ 2 ^ 64 → n < limit → digit_at rest ≡ None → decimal_at limit (decimal n ++ rest) ≡ Some (n, rest)
unfolding decimal_at
decimal_again limit n rest room small none =
    let fits : n < 2 ^ 64 = omega arith in
    let found = digits_again limit n (decimal n) rest (digits_decimal numerals n fits) (decimal_nonempty n fits) (λ e. lead n fits e) (digits_value-decimal numerals n fits) small none in
    let test : nat_lt n limit ≡ true = grind (arith, nat_tests) in
    bind_is (digits_at limit (decimal n ++ rest)) _ _ found ∙ ap (λ t. if t then Some (n, rest) else None) test
  where
    lead : (m : ℕ) → m < 2 ^ 64 → get_or (decimal m) 0 0 ≡ 48 → decimal m ≡ 48 ∷ []
    lead zero fits e = decimal_digit 0 (omega arith)
    lead (suc m) fits e = absurd (omega (arith, first_decimal (suc m) (omega arith) fits))
