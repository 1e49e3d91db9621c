-- Addresses and values of accesses to memory (SPARC V9, 6.3.1 and A.9, A.27, A.29, A.57).
use Rattle.std.specs.Prelude.{ℕ, ◌+◌, ◌%◌, ◌^◌, ◌==◌, if◌then◌else◌}
use Rattle.rsim_base.specs.Bytes.{low_bytes}
use Rattle.rsim_base.specs.declared.memory.Size.{Size}
use Rattle.sparc_decode.specs.declared.instr.Op.{Op}
use Rattle.sparc_decode.specs.declared.instr.Op.TheVariants as op
use Rattle.sparc_alu.specs.Numbers.{low, signed, twos_complement}

-- an address: sums go round at 2^64
abbrev pub effective : ℕ → ℕ → ℕ
effective a b = (a + b) % 2 ^ 64

-- the low bits of a value, so many, and zeros or copies of the highest of them above
abbrev pub zero_extended : ℕ → ℕ → ℕ
zero_extended width raw = low width raw

abbrev pub sign_extended : ℕ → ℕ → ℕ
sign_extended width raw = twos_complement (signed width raw)

-- what a form that loads puts into its register; other forms leave the value as it is
unfoldable pub extended : Op → ℕ → ℕ
extended op.Ldub raw = zero_extended 8 raw
extended op.Lduh raw = zero_extended 16 raw
extended op.Lduw raw = zero_extended 32 raw
extended op.Ldsb raw = sign_extended 8 raw
extended op.Ldsh raw = sign_extended 16 raw
extended op.Ldsw raw = sign_extended 32 raw
extended op.Ldstub raw = zero_extended 8 raw
extended op.Swap raw = zero_extended 32 raw
extended op.Casa raw = zero_extended 32 raw
extended _ raw = raw

-- what a compare-and-swap of this size leaves in memory: the new value where the old one is the one that was
-- compared, in the low bytes, else the old one
abbrev pub swapped : ℕ → ℕ → ℕ → Size → ℕ
swapped old compare new n =
    if low_bytes n old == low_bytes n compare then new else old
