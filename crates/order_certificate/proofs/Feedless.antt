-- Bytes without a line feed among them.
use Rattle.std.proofs.Common.{◌≡◌, ℕ, zero, suc, ◌/◌, ◌%◌, ◌^◌, ◌<◌, Bool, true, false, ◌||◌, nat_eq, List, [], ◌∷◌, ◌++◌, decimal, refl, sym, subst, arith}
use Rattle.std.specs.Fmt.{digit_glyph}
use Rattle.std.specs.List.{All, list_any}
use Rattle.std.specs.Str.Parse.{AllDigits}
use Rattle.std.specs.Int.{IsInRange}
use Rattle.std.proofs.lemmas.Bool.Decides.{nat_tests}
use Rattle.std.proofs.lemmas.Fmt.{digits_decimal}
use Rattle.std.proofs.lemmas.List.Elements.{All-append, All-cons, All-nil}
use Rattle.std.proofs.lemmas.Str.Parse.{digit_from_value}
use Rattle.order_certificate.specs.Hex.{hex}
use Rattle.order_certificate.proofs.Decimals.{numerals}
use Rattle.order_certificate.proofs.Hex.{last_onto, hex-last}

abbrev pub IsFeedless : List ℕ → Type 0
IsFeedless xs = All (λ b. nat_eq b 10 ≡ false) xs

pub feedless_none : IsFeedless []
feedless_none = All-nil (λ b. nat_eq b 10 ≡ false)

pub feedless_byte : (b : ℕ) (xs : List ℕ) → nat_eq b 10 ≡ false → IsFeedless xs → IsFeedless (b ∷ xs)
feedless_byte b xs other rest = All-cons (λ b. nat_eq b 10 ≡ false) b xs other rest

pub feedless_both : (xs ys : List ℕ) → IsFeedless xs → IsFeedless ys → IsFeedless (xs ++ ys)
feedless_both xs ys first second = All-append (λ b. nat_eq b 10 ≡ false) xs ys first second

feedless_digits : (ds : List ℕ) → AllDigits 10 ds → IsFeedless ds
feedless_digits [] all = feedless_none
feedless_digits (c ∷ ds) all =
    let range : IsInRange 48 57 c = digit_from_value c all.0 in
    feedless_byte c ds (grind (arith, nat_tests)) (feedless_digits ds all.1)

pub feedless_decimal : (n : ℕ) → n < 2 ^ 64 → IsFeedless (decimal n)
feedless_decimal n fits = feedless_digits (decimal n) (digits_decimal numerals n fits)

feedless_last : (width n : ℕ) (acc : List ℕ) → IsFeedless acc → IsFeedless (last_onto width n acc)
feedless_last zero n acc rest = rest
feedless_last (suc width) n acc rest =
    feedless_last width (n / 16) (digit_glyph false (n % 16) ∷ acc) (feedless_byte (digit_glyph false (n % 16)) acc (grind (arith, nat_tests)) rest)

pub feedless_hex : (width n : ℕ) → n < 16 ^ suc width → width < 64 → IsFeedless (hex (suc width) n)
feedless_hex width n fits room = subst IsFeedless (sym (hex-last width n fits room)) (feedless_last (suc width) n [] feedless_none)

pub feedless_by_test : (xs : List ℕ) → list_any (λ b. nat_eq b 10) xs ≡ false → IsFeedless xs
feedless_by_test [] e = feedless_none
feedless_by_test (b ∷ xs) e = by_test (nat_eq b 10) refl (feedless_by_test xs) e
  where
    by_test : (feed : Bool) → nat_eq b 10 ≡ feed → (list_any (λ b. nat_eq b 10) xs ≡ false → IsFeedless xs) → (feed || list_any (λ b. nat_eq b 10) xs) ≡ false → IsFeedless (b ∷ xs)
    by_test true is more e = absurd (let no : ⊥ = cc in no)
    by_test false is more e = feedless_byte b xs is (more e)
