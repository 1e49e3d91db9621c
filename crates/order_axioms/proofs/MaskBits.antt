-- The bits of a mask, one at a time.
use Rattle.std.proofs.Common.{◌≡◌, ℕ, ◌*◌, ◌/◌, ◌%◌, ◌^◌, ◌<◌, ◌==◌, if◌then◌else◌, bit_and, arith}
use Rattle.std.specs.Int.{bit_at}
use Rattle.std.proofs.lemmas.Bool.Decides.{nat_tests}
use Rattle.std.proofs.lemmas.Nat.{pow_pos}
use Rattle.std.proofs.lemmas.Nat.Bits.{and_pow}

-- whether a number with one bit left has it, as a number
one_bit : (bit n pow : ℕ) → bit < 2 → 0 < pow → n ≡ bit * pow → (if n == pow then 1 else 0) ≡ bit
one_bit bit n pow small some e = grind (arith, nat_tests)

-- the test for bit k, as a number
pub has_bit : (mask k : ℕ) → (if bit_and mask (2 ^ k) == 2 ^ k then 1 else 0) ≡ mask / 2 ^ k % 2
has_bit mask k = one_bit (bit_at mask k) (bit_and mask (2 ^ k)) (2 ^ k) (omega arith) (pow_pos k) (and_pow mask k)
