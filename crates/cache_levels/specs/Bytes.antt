-- Bytes that a store writes into a line.
use Rattle.std.specs.Prelude.{ℕ, ◌+◌, List, ◌++◌, map, take, drop}
use Rattle.std.specs.List.{range_with_len}
use Rattle.rsim_base.specs.Bytes.{count_of, byte_of}
use Rattle.rsim_base.specs.declared.memory.Size.{Size}

-- the bytes of a value, the first in memory first
abbrev pub cuts : Size → ℕ → List ℕ
cuts n value = map (λ b. byte_of value (count_of n) b) (range_with_len 0 (count_of n))

-- these bytes stand from place `at` on, and every other byte is as it was
abbrev pub written_at : ℕ → Size → ℕ → List ℕ → List ℕ
written_at at n value bytes = take at bytes ++ (cuts n value ++ drop (at + count_of n) bytes)
