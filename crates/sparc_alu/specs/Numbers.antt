-- Numbers of 32 and 64 bits: their low bits, and integers in two's complement (SPARC V9, chapter 4).
use Rattle.std.specs.Prelude.{ℕ, ◌-◌, ◌%◌, ◌^◌, Bool, ◌&&◌, ℤ, pos, negsuc, neg_ℤ, int_le, int_lt}
use Rattle.sparc_decode.specs.Fields as field

-- the low bits of a number, so many
abbrev pub low : ℕ → ℕ → ℕ
low width n = n % 2 ^ width

-- the low bits of a number, read as two's complement
abbrev pub signed : ℕ → ℕ → ℤ
signed width n = field.signed width (low width n)

-- the 64 bits of an integer in two's complement
abbrev pub twos_complement : ℤ → ℕ
twos_complement (pos n) = n % 2 ^ 64
twos_complement (negsuc n) = 2 ^ 64 - 1 - n % 2 ^ 64

-- the integer is one that so many bits can hold in two's complement
abbrev pub is_signed : ℕ → ℤ → Bool
is_signed width z = int_le (neg_ℤ (pos (2 ^ (width - 1)))) z && int_lt z (pos (2 ^ (width - 1)))
