-- Places of a ring of 128, and their ages from a head on.
use Rattle.std.specs.Prelude.{ℕ, zero, suc, ◌+◌, ◌%◌, ◌==◌, Bool, if◌then◌else◌}
use Rattle.std.specs.Int.{bit_at}
use Rattle.ring_set.specs.declared.set.Places.{Places}

-- place j is in the set
unfoldable pub has : Places → ℕ → Bool
has w j = bit_at w.0 j == 1

-- the place of age k
unfoldable pub place_at : ℕ → ℕ → ℕ
place_at head k = (head + k) % 128

abbrev pub aged : Places → ℕ → ℕ → Bool
aged w head k = has w (place_at head k)

-- the least number below n that passes, or n
unfoldable pub least : (ℕ → Bool) → ℕ → ℕ
least p zero = zero
least p (suc n) = if p zero then zero else suc (least (λ k. p (suc k)) n)

-- the greatest number below n that passes, and one more, or zero
unfoldable pub greatest : (ℕ → Bool) → ℕ → ℕ
greatest p zero = zero
greatest p (suc n) = if p n then suc n else greatest p n

-- how many numbers below n pass
unfoldable pub how_many : (ℕ → Bool) → ℕ → ℕ
how_many p zero = zero
how_many p (suc n) = if p zero then suc (how_many (λ k. p (suc k)) n) else how_many (λ k. p (suc k)) n
