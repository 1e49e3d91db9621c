-- Which configurations there are, and which run with so many cycles.
use Rattle.std.specs.Prelude.{◌≡◌, ℕ, ◌*◌, ◌%◌, ◌<◌, ◌≤◌, Bool, IsTrue, nat_le, length}
use Rattle.std.specs.Int.{is_power_of_two}
use Rattle.std.specs.List.{AllByRecursion}
use Rattle.rsim_base.specs.Limits.{max_steps}
use Rattle.machine_config.specs.Keys.{Values, number, power, word, keys}
use Rattle.machine_config.specs.declared.config.Config.{Config}

-- a number that a row allows: in its range, a power of two where it asks for one, the place of a word
abbrev pub Allows : Values → ℕ → Type 0
Allows (number low high) x = (low ≤ x) × (x ≤ high)
Allows (power low high) x = (low ≤ x) × (x ≤ high) × IsTrue (is_power_of_two x)
Allows (word words) x = x < length words

-- each key has a number that its row allows, and mesh_width divides processors
pub record IsAllowed (config : Config) : Type 0 where
  pub rows : AllByRecursion (λ key. Allows key.values (key.of config)) keys
  pub shape : config.processors % config.mesh_width ≡ 0

-- the run is short enough
abbrev pub is_short : Config → ℕ → Bool
is_short config cycles = nat_le (cycles * config.processors * config.retire_width) max_steps
