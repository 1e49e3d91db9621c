-- What a core's registers keep: each number that is held names a register.
use Rattle.std.specs.Prelude.{◌≡◌, ℕ, ◌+◌, ◌-◌, ◌<◌, ◌≤◌, ◌^◌, List, All, length, map}
use Rattle.std.specs.List.{range_with_len}
use Rattle.rsim_base.specs.Limits.{arch_registers}
use Rattle.rsim_base.specs.declared.processor.PhysReg.{PhysReg}
use Rattle.circular_buffer.specs.Buffer.{Buffer}

-- the most registers beside the architectural ones: the number of each has 16 bits
abbrev pub most_extra : ℕ
most_extra = 2 ^ 16 - arch_registers

-- the n registers from the first one on
abbrev pub registers : ℕ → ℕ → List PhysReg
registers first n = map (λ r. record { 0 = r }) (range_with_len first n)

-- the current and the free registers of n: those that hold architectural ones are not free
pub record AreInside (current : List PhysReg) (free : Buffer PhysReg) (n : ℕ) : Type 0 where
  pub few : n ≤ 2 ^ 16
  pub room : free.capacity + arch_registers ≡ n
  pub within : length free.items ≤ free.capacity
  pub current_below : All (λ r. r.0 < n) current
  pub free_below : All (λ r. r.0 < n) free.items
