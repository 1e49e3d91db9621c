-- The bytes of a part of a value.
use Rattle.std.specs.Prelude.{◌≡◌, ℕ, ◌+◌, ◌*◌, ◌^◌, ◌<◌, ◌≤◌}
use Rattle.rsim_base.specs.Bytes.{byte_of, part}

-- each byte is that of the value at the same place, and there are no more
abbrev pub PartsHaveTheBytes : Type 0
PartsHaveTheBytes =
    (value n at m : ℕ)
    → at + m ≤ n
    → ((b : ℕ) → b < m → byte_of (part value n at m) m b ≡ byte_of value n (at + b)) × (part value n at m < 2 ^ (8 * m))
