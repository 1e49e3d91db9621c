-- The number that decimal digits write.
use Rattle.std.specs.Char.{is_ascii_digit}
use Rattle.std.specs.Int.{IsInRange}
use Rattle.std.specs.List.{list_all}
use Rattle.std.specs.Str.{all_ascii_digits}
use Rattle.std.specs.Str.Parse.{digits_value}
use Rattle.std.proofs.Common.{◌≡◌, ℕ, ◌+◌, ◌-◌, ◌*◌, ◌^◌, ◌<◌, ◌≤◌, true, List, [], ◌∷◌, length, take, get_or, refl, arith}
use Rattle.std.proofs.lemmas.Int.Digits.{digits_value_more}
use Rattle.std.proofs.lemmas.Str.{digit_value_digit}
use Rattle.std.proofs.lemmas.Str.Parse.{IsNumeralModel, numerals_by_value, tells_all_ascii_digits, digits_value_short, digits_value-take-le, digit_at}

decimal : IsNumeralModel (λ ds. all_ascii_digits ds ≡ true) (digits_value 10)
decimal = numerals_by_value _ tells_all_ascii_digits

-- ten digits write a number below ten billion, and so do the first of them
pub digits_value-lt : (ds : List ℕ) (i : ℕ) → all_ascii_digits ds ≡ true → length ds ≤ 10 → digits_value 10 (take i ds) < 10 ^ 10
digits_value-lt ds i digits short =
    let whole = digits_value_short decimal ds 10 digits short in
    let part = digits_value-take-le 10 ds i (omega arith) in
    omega (arith, whole, part)

pub digit_in_range : (ds : List ℕ) (i : ℕ) → all_ascii_digits ds ≡ true → i < length ds → IsInRange 48 57 (get_or ds i 0)
digit_in_range ds i digits below = digit_at ds i (decimal.to ds digits) below

-- one more digit
pub digits_value-more : (ds : List ℕ) (i : ℕ) → all_ascii_digits ds ≡ true → i < length ds
    → 10 * digits_value 10 (take i ds) + (get_or ds i 0 - 48) ≡ digits_value 10 (take (i + 1) ds)
digits_value-more ds i digits below =
    let more = digits_value_more 10 ds i below in
    let range = digit_in_range ds i digits below in
    let digit = digit_value_digit (get_or ds i 0) range in
    omega (arith, more, digit)

pub list_all-digits : (xs : List ℕ) → list_all is_ascii_digit xs ≡ all_ascii_digits xs
list_all-digits [] = refl
list_all-digits (x ∷ xs) = rw (list_all-digits xs) refl
