-- Words of places: the first age, the unit of a place, and the needs of a place after a wake.
use Rattle.std.specs.Prelude.{◌≡◌, ℕ, ◌+◌, ◌%◌, ◌<◌, Bool, true, false, List, map, Option, if◌then◌else◌}
use Rattle.ring_set.specs.Sets.{has}
use Rattle.ring_set.specs.declared.set.Places.{Places}
use Rattle.rsim_base.specs.declared.processor.PhysReg.{PhysReg}
use Rattle.rsim_base.specs.declared.processor.Unit.{Unit}
use Rattle.rsim_base.specs.declared.processor.Unit.TheVariants.{Alu, Mul, Div}
use Rattle.issue_queue.specs.Needs.{without_reg}

-- the first place of the set from that of a number on has this age
pub record IsFirst (set : Places) (low age : ℕ) : Type 0 where
  pub within : age < 128
  pub there : has set ((low + age) % 128) ≡ true
  pub before : (k : ℕ) → k < age → has set ((low + k) % 128) ≡ false

abbrev pub LacksAges : Places → ℕ → Type 0
LacksAges set low = (k : ℕ) → k < 128 → has set ((low + k) % 128) ≡ false

abbrev pub unit_in : Places → Places → ℕ → Unit
unit_in mul div j = if has mul j then Mul else (if has div j then Div else Alu)

-- the needs without a register, where it is taken off
abbrev pub needs_now : ℕ → Bool → List (Option PhysReg) → List (Option PhysReg)
needs_now r taken needs = if taken then map (without_reg r) needs else needs
