-- Which bytes of memory an access touches, and the bytes of a value in memory.
-- An address has 64 bits, and sums of addresses go round at 2^64. Numbers are big-endian.
use Rattle.std.specs.Prelude.{◌≡◌, ℕ, ◌+◌, ◌-◌, ◌*◌, ◌/◌, ◌%◌, ◌^◌, ◌<◌, Bool, ◌||◌, nat_lt, nat_le, if◌then◌else◌, Option, Some, None}
use Rattle.rsim_base.specs.declared.memory.Size.{Size}
use Rattle.rsim_base.specs.declared.memory.Size.TheVariants.{B1, B2, B4, B8}

-- how many bytes an access of a size has
abbrev pub count_of : Size → ℕ
count_of B1 = 1
count_of B2 = 2
count_of B4 = 4
count_of B8 = 8

-- the low bytes of a value, as many as the size
abbrev pub low_bytes : Size → ℕ → ℕ
low_bytes n value = value % 2 ^ (8 * count_of n)

-- a value has no more bytes than the size
abbrev pub FitsIn : Size → ℕ → Type 0
FitsIn n value = value < 2 ^ (8 * count_of n)

-- x is among the n bytes from address a on
abbrev pub IsByteOf : ℕ → ℕ → ℕ → Type 0
IsByteOf x a n = (k : ℕ) × (k < n) × (x ≡ (a + k) % 2 ^ 64)

-- how far b is above a, going round
abbrev pub gap_of : ℕ → ℕ → ℕ
gap_of a b = (b + (2 ^ 64 - a)) % 2 ^ 64

-- some byte is in both
abbrev pub Overlaps : ℕ → ℕ → ℕ → ℕ → Type 0
Overlaps a n b m = (x : ℕ) × IsByteOf x a n × IsByteOf x b m

-- of the n bytes from a on and the m bytes from b on, those of one start among those of the other: which is so exactly
-- where some byte is in both
abbrev pub starts_in : ℕ → ℕ → ℕ → ℕ → Bool
starts_in a n b m = nat_lt (gap_of a b) n || nat_lt (gap_of b a) m

-- every byte of the second is in the first
abbrev pub Covers : ℕ → ℕ → ℕ → ℕ → Type 0
Covers a n b m = (x : ℕ) → IsByteOf x b m → IsByteOf x a n

-- byte `at` of the low n bytes of a value, the first in memory at 0
abbrev pub byte_of : ℕ → ℕ → ℕ → ℕ
byte_of value n at = value / 2 ^ (8 * (n - 1 - at)) % 256

-- the bytes of a value of n bytes from place `at` on, as a number of m bytes
abbrev pub part : ℕ → ℕ → ℕ → ℕ → ℕ
part value n at m = value / 2 ^ (8 * (n - (at + m))) % 2 ^ (8 * m)

-- where it has them all
abbrev pub part_within : ℕ → ℕ → ℕ → ℕ → Option ℕ
part_within value n at m = if nat_le (at + m) n then Some (part value n at m) else None
