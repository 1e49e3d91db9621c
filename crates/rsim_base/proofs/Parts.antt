-- The bytes of a part of a value.
use Rattle.std.proofs.Common.{◌≡◌, ℕ, ◌+◌, ◌-◌, ◌*◌, ◌/◌, ◌%◌, ◌^◌, ◌<◌, ◌≤◌, sym, ap, ◌∙◌, arith}
use Rattle.std.proofs.Math.Nat.{div-div-eq-div-mul, mod-lt}
use Rattle.std.proofs.Math.Pow.{mod-mod-pow}
use Rattle.std.proofs.lemmas.Nat.{div-mul-add, mod-pow-add, pow-add, pow_pos}
use Rattle.rsim_base.specs.Bytes.{byte_of, part}

-- of the low bits those from place k on
high-of-low : (w j k : ℕ) → w % 2 ^ (j + k) / 2 ^ k ≡ w / 2 ^ k % 2 ^ j
high-of-low w j k = ap (λ x. x / 2 ^ k) (mod-pow-add w j k) ∙ div-mul-add (w / 2 ^ k % 2 ^ j) (2 ^ k) (w % 2 ^ k) (mod-lt w (pow_pos k))

-- a byte of the low bits is one of the value
byte-of-low : (value a b k : ℕ) → value / 2 ^ a % 2 ^ ((b + 8) + k) / 2 ^ k % 256 ≡ value / 2 ^ (a + k) % 256
byte-of-low value a b k =
    ap (λ x. x % 2 ^ 8) (high-of-low (value / 2 ^ a) (b + 8) k)
    ∙ (mod-mod-pow (value / 2 ^ a / 2 ^ k) b 8
    ∙ ap (λ x. x % 256) (div-div-eq-div-mul value (2 ^ a) (2 ^ k) ∙ ap (λ x. value / x) (sym (pow-add 2 a k))))

pub byte-of-part : (value n at m b : ℕ) → at + m ≤ n → b < m → byte_of (part value n at m) m b ≡ byte_of value n (at + b)
byte-of-part value n at m b within below =
    let bits : 8 * m ≡ (8 * b + 8) + 8 * (m - 1 - b) = omega (arith, below) in
    let place : 8 * (n - (at + m)) + 8 * (m - 1 - b) ≡ 8 * (n - 1 - (at + b)) = omega (arith, below, within) in
    ap (λ x. value / 2 ^ (8 * (n - (at + m))) % 2 ^ x / 2 ^ (8 * (m - 1 - b)) % 256) bits
    ∙ (byte-of-low value (8 * (n - (at + m))) (8 * b) (8 * (m - 1 - b))
    ∙ ap (λ x. value / 2 ^ x % 256) place)

pub part-fits : (value n at m : ℕ) → part value n at m < 2 ^ (8 * m)
part-fits value n at m = mod-lt (value / 2 ^ (8 * (n - (at + m)))) (pow_pos (8 * m))
