-- Hexadecimal digits of a fixed width, as the bytes of a number have them, two for each.
use Rattle.std.proofs.Common.{◌≡◌, ℕ, zero, suc, ◌+◌, ◌-◌, ◌*◌, ◌/◌, ◌%◌, ◌^◌, ◌<◌, Bool, true, false, nat_eq, if◌then◌else◌, List, [], ◌∷◌, ◌++◌, length, take, drop, replicate, slice_index, refl, sym, ap, ◌∙◌, append-nil, arith}
use Rattle.std.proofs.DigitsParse.{digits_onto-nil}
use Rattle.std.proofs.Math.Nat.{div-div-eq-div-mul, pow-succ'}
use Rattle.std.proofs.lemmas.Bool.{eqb-true, eqb-false}
use Rattle.std.specs.Fmt.{digits, digits_onto, digit_glyph}
use Rattle.std.specs.Int.{byte_at, bytes_high_first}
use Rattle.hex.specs.Hex.{encode_with, encode_lower, lower_digits}
use Rattle.rsim_base.specs.Bytes.{count_of, low_bytes}
use Rattle.rsim_base.specs.declared.memory.Size.{Size}
use Rattle.rsim_base.specs.declared.memory.Size.TheVariants.{B1, B2, B4, B8}
use Rattle.order_certificate.specs.Hex.{hex}
use Rattle.order_certificate.specs.OrderText.{value_text}

-- so many last digits of n, followed by acc
abbrev pub last_onto : ℕ → ℕ → List ℕ → List ℕ
last_onto zero n acc = acc
last_onto (suc width) n acc = last_onto width (n / 16) (digit_glyph false (n % 16) ∷ acc)

zeros_onto : (width : ℕ) (acc : List ℕ) → last_onto width 0 acc ≡ replicate width 48 ++ acc
zeros_onto zero acc = refl
zeros_onto (suc width) acc = zeros_onto width (48 ∷ acc) ∙ turned width
  where
    turned : (k : ℕ) → replicate k 48 ++ 48 ∷ acc ≡ 48 ∷ (replicate k 48 ++ acc)
    turned zero = refl
    turned (suc k) = ap (λ t. 48 ∷ t) (turned k)

-- zeros up to a width, and the digits
abbrev padded : ℕ → List ℕ → List ℕ
padded width numeral = replicate (width - length numeral) 48 ++ numeral

one_digit : (width n : ℕ) (acc : List ℕ) → n / 16 ≡ 0 → padded (suc width + length acc) (digit_glyph false (n % 16) ∷ acc) ≡ last_onto (suc width) n acc
one_digit width n acc e =
    let room : suc width + length acc - suc (length acc) ≡ width = omega arith in
    rw (e, room) (sym (zeros_onto width (digit_glyph false (n % 16) ∷ acc)))

-- digits with zeros before them are the last ones
padded-last : (k width n : ℕ) (acc : List ℕ) → n < 16 ^ suc width → width < k → padded (suc width + length acc) (digits_onto k 16 false n acc) ≡ last_onto (suc width) n acc
padded-last zero width n acc fits room = absurd (omega arith)
padded-last (suc k) width n acc fits room = by_test (padded-last k) width fits room (nat_eq (n / 16) 0) refl
  where
    g : ℕ
    g = digit_glyph false (n % 16)

    by_test : ((w m : ℕ) (onto : List ℕ) → m < 16 ^ suc w → w < k → padded (suc w + length onto) (digits_onto k 16 false m onto) ≡ last_onto (suc w) m onto) →
        (w : ℕ) → n < 16 ^ suc w → w < suc k → (last : Bool) → nat_eq (n / 16) 0 ≡ last →
        padded (suc w + length acc) (if last then g ∷ acc else digits_onto k 16 false (n / 16) (g ∷ acc)) ≡ last_onto (suc w) n acc
    by_test fewer w small enough true e = one_digit w n acc (eqb-true (n / 16) 0 e)
    by_test fewer zero small enough false e = absurd (omega (arith, eqb-false (n / 16) 0 e))
    by_test fewer (suc w) small enough false e =
        let same : suc (suc w) + length acc ≡ suc w + length (g ∷ acc) = omega arith in
        rw same (fewer w (n / 16) (g ∷ acc) (omega (arith, pow-succ' 16 (suc w))) (omega arith))

pub hex-last : (width n : ℕ) → n < 16 ^ suc width → width < 64 → hex (suc width) n ≡ last_onto (suc width) n []
hex-last width n fits room =
    let same : suc width + 0 ≡ suc width = omega arith in
    rw (sym (digits_onto-nil 16 false n)) (rw same at (padded-last 64 width n [] fits room))

byte_at-next : (i n : ℕ) → byte_at (suc i) n ≡ byte_at i (n / 256)
byte_at-next zero n = refl
byte_at-next (suc i) n = ap (λ t. t % 256) (ap (λ t. n / t) (pow-succ' 256 (suc i)) ∙ sym (div-div-eq-div-mul n 256 (256 ^ suc i)))

bytes_high_first-last : (count n : ℕ) → bytes_high_first (suc count) n ≡ bytes_high_first count (n / 256) ++ n % 256 ∷ []
bytes_high_first-last zero n = refl
bytes_high_first-last (suc count) n = rw (byte_at-next count n, bytes_high_first-last count n) refl

digit-glyph : (d : ℕ) → d < 16 → slice_index lower_digits d ≡ digit_glyph false d
digit-glyph d below = search arith

encode_lower-push : (xs : List ℕ) (b : ℕ) (acc : List ℕ) → encode_lower (xs ++ b ∷ []) ++ acc ≡ encode_lower xs ++ slice_index lower_digits (b / 16) ∷ slice_index lower_digits (b % 16) ∷ acc
unfolding encode_with
encode_lower-push [] b acc = refl
encode_lower-push (x ∷ xs) b acc = ap (λ t. slice_index lower_digits (x / 16) ∷ slice_index lower_digits (x % 16) ∷ t) (encode_lower-push xs b acc)

last_two : (width n : ℕ) (acc : List ℕ) → last_onto (suc (suc width)) n acc ≡ last_onto width (n / 256) (digit_glyph false (n / 16 % 16) ∷ digit_glyph false (n % 16) ∷ acc)
last_two width n acc = ap (λ m. last_onto width m (digit_glyph false (n / 16 % 16) ∷ digit_glyph false (n % 16) ∷ acc)) (omega arith)

two_digits : (n : ℕ) (acc : List ℕ) → slice_index lower_digits (n % 256 / 16) ∷ slice_index lower_digits (n % 256 % 16) ∷ acc ≡ digit_glyph false (n / 16 % 16) ∷ digit_glyph false (n % 16) ∷ acc
two_digits n acc =
    let high : n % 256 / 16 ≡ n / 16 % 16 = omega arith in
    let low : n % 256 % 16 ≡ n % 16 = omega arith in
    rw (high, low, digit-glyph (n / 16 % 16) (omega arith), digit-glyph (n % 16) (omega arith)) refl

-- the low bytes in two digits each are the last digits
encode_lower-last : (count n : ℕ) (acc : List ℕ) → encode_lower (bytes_high_first count n) ++ acc ≡ last_onto (2 * count) n acc
unfolding encode_with
encode_lower-last zero n acc = refl
encode_lower-last (suc count) n acc =
    let two : suc (suc (2 * count)) ≡ 2 * suc count = omega arith in
    ap (λ bytes. encode_lower bytes ++ acc) (bytes_high_first-last count n)
    ∙ encode_lower-push (bytes_high_first count (n / 256)) (n % 256) acc
    ∙ encode_lower-last count (n / 256) (slice_index lower_digits (n % 256 / 16) ∷ slice_index lower_digits (n % 256 % 16) ∷ acc)
    ∙ ap (last_onto (2 * count) (n / 256)) (two_digits n acc)
    ∙ sym (last_two (2 * count) n acc)
    ∙ ap (λ width. last_onto width n acc) two

-- the bytes of a number in two digits each, the highest first
pub encode_lower-hex : (count n : ℕ) → n < 16 ^ (2 * suc count) → count < 32 → encode_lower (bytes_high_first (suc count) n) ≡ hex (2 * suc count) n
encode_lower-hex count n fits room =
    let two : 2 * suc count ≡ suc (suc (2 * count)) = omega arith in
    sym (append-nil (encode_lower (bytes_high_first (suc count) n))) ∙ encode_lower-last (suc count) n []
    ∙ ap (λ width. last_onto width n []) two ∙ sym (hex-last (suc (2 * count)) n (rw two at fits) (omega arith)) ∙ ap (λ width. hex width n) (sym two)

low_bytes-same : (size : Size) (n : ℕ) → n < 2 ^ 64 → bytes_high_first (count_of size) (low_bytes size n) ≡ bytes_high_first (count_of size) n
low_bytes-same B1 n fits = ap (λ b. b ∷ []) (omega arith)
low_bytes-same B2 n fits =
    let first : n % 2 ^ 16 / 256 % 256 ≡ n / 256 % 256 = omega arith in
    let second : n % 2 ^ 16 % 256 ≡ n % 256 = omega arith in
    rw (first, second) refl
low_bytes-same B4 n fits =
    let first : n % 2 ^ 32 / 16777216 % 256 ≡ n / 16777216 % 256 = omega arith in
    let second : n % 2 ^ 32 / 65536 % 256 ≡ n / 65536 % 256 = omega arith in
    let third : n % 2 ^ 32 / 256 % 256 ≡ n / 256 % 256 = omega arith in
    let fourth : n % 2 ^ 32 % 256 ≡ n % 256 = omega arith in
    rw (first, second, third, fourth) refl
low_bytes-same B8 n fits = ap (bytes_high_first 8) (omega arith)

in_text : (size : Size) (n : ℕ) → encode_lower (bytes_high_first (count_of size) (low_bytes size n)) ≡ value_text size n
in_text B1 n = encode_lower-hex 0 (low_bytes B1 n) (omega arith) (omega arith)
in_text B2 n = encode_lower-hex 1 (low_bytes B2 n) (omega arith) (omega arith)
in_text B4 n = encode_lower-hex 3 (low_bytes B4 n) (omega arith) (omega arith)
in_text B8 n = encode_lower-hex 7 (low_bytes B8 n) (omega arith) (omega arith)

last_of_eight : (size : Size) (n : ℕ) → take (16 - (16 - 2 * count_of size)) (drop (16 - 2 * count_of size) (encode_lower (bytes_high_first 8 n))) ≡ encode_lower (bytes_high_first (count_of size) n)
unfolding encode_with
last_of_eight B1 n = refl
last_of_eight B2 n = refl
last_of_eight B4 n = refl
last_of_eight B8 n = refl

-- of the digits of eight bytes the last are those of the low bytes
pub value_text-last : (size : Size) (n count : ℕ) (bytes digits : List ℕ) → n < 2 ^ 64 → count ≡ count_of size → bytes ≡ bytes_high_first 8 n → digits ≡ encode_lower bytes →
    take (16 - (16 - 2 * count)) (drop (16 - 2 * count) digits) ≡ value_text size n
value_text-last size n count bytes digits fits counted are in_hex = rw (in_hex, are, counted) (last_of_eight size n ∙ ap encode_lower (sym (low_bytes-same size n fits)) ∙ in_text size n)

-- a number of 64 bits has no other bytes
pub value_text-whole : (n : ℕ) → n < 2 ^ 64 → value_text B8 n ≡ hex 16 n
value_text-whole n fits = ap (hex 16) (omega arith)
