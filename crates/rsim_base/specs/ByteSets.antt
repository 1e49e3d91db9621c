-- The bytes of accesses, by how far one address is above the other.
use Rattle.std.proofs.Common.{ℕ, ◌+◌, ◌-◌, ◌%◌, ◌^◌, ◌<◌, ◌≤◌, arith}
use Rattle.rsim_base.specs.Bytes.{count_of, IsByteOf, Overlaps, Covers, gap_of}
use Rattle.rsim_base.specs.declared.memory.Size.{Size}
use Rattle.rsim_base.specs.declared.memory.Size.TheVariants.{B1, B2, B4, B8}

-- a byte that is less than n above a is among the n bytes from a
pub IsByteOf-from_gap : (x a n : ℕ) → x < 2 ^ 64 → a < 2 ^ 64 → gap_of a x < n → IsByteOf x a n
IsByteOf-from_gap x a n x_fits a_fits near = (gap_of a x, near, omega arith)

pub gap_of-IsByteOf : (x a n : ℕ) → a < 2 ^ 64 → n ≤ 8 → IsByteOf x a n → gap_of a x < n
gap_of-IsByteOf x a n a_fits small (k, below, is) = omega arith

pub IsByteOf-first : (a n : ℕ) → a < 2 ^ 64 → 0 < n → IsByteOf a a n
IsByteOf-first a n fits some = (0, some, omega arith)

pub Overlaps-from_gap : (a n b m : ℕ) → a < 2 ^ 64 → b < 2 ^ 64 → 0 < m → gap_of a b < n → Overlaps a n b m
Overlaps-from_gap a n b m a_fits b_fits some near =
    (b, IsByteOf-from_gap b a n b_fits a_fits near, IsByteOf-first b m b_fits some)

pub Overlaps-from_gap_back : (a n b m : ℕ) → a < 2 ^ 64 → b < 2 ^ 64 → 0 < n → gap_of b a < m → Overlaps a n b m
Overlaps-from_gap_back a n b m a_fits b_fits some near =
    (a, IsByteOf-first a n a_fits some, IsByteOf-from_gap a b m a_fits b_fits near)

-- of two accesses that overlap, one starts in the other
pub gaps_of-Overlaps : (a n b m : ℕ) → a < 2 ^ 64 → b < 2 ^ 64 → n ≤ 8 → m ≤ 8 → Overlaps a n b m → m ≤ gap_of b a → gap_of a b < n
gaps_of-Overlaps a n b m a_fits b_fits n_small m_small (x, (k, k_below, x_of_a), (j, j_below, x_of_b)) = omega arith

pub Covers-from_gap : (a n b m : ℕ) → a < 2 ^ 64 → b < 2 ^ 64 → gap_of a b + m ≤ n → Covers a n b m
Covers-from_gap a n b m a_fits b_fits within = λ x (j, j_below, x_of_b). (gap_of a b + j, omega arith, omega arith)

pub gap_of-Covers : (a n b m : ℕ) → a < 2 ^ 64 → b < 2 ^ 64 → n ≤ 8 → m ≤ 8 → 0 < m → Covers a n b m → gap_of a b + m ≤ n
gap_of-Covers a n b m a_fits b_fits n_small m_small some all =
    let first = gap_of-IsByteOf b a n a_fits n_small (all b (IsByteOf-first b m b_fits some)) in
    let last = all ((b + (m - 1)) % 2 ^ 64) (m - 1, omega arith, omega arith) in
    omega (arith, last.1, last.2)

pub count_of-bounds : (n : Size) → (0 < count_of n) × (count_of n ≤ 8)
count_of-bounds B1 = (omega arith, omega arith)
count_of-bounds B2 = (omega arith, omega arith)
count_of-bounds B4 = (omega arith, omega arith)
count_of-bounds B8 = (omega arith, omega arith)
