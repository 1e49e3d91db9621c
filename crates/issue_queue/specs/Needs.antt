-- The registers that an entry waits for, and the readers of each register.
use Rattle.std.specs.Prelude.{ℕ, ◌==◌, Bool, true, false, List, map, Option, None, Some, option_map, if◌then◌else◌, nat_lt, slice_index_or}
use Rattle.std.specs.List.{list_all, list_any}
use Rattle.std.specs.Option.{option_map_or}
use Rattle.rsim_base.specs.declared.processor.PhysReg.{PhysReg}
use Rattle.ring_set.specs.declared.set.Places.{Places}

-- the numbers of the registers
abbrev pub numbers : List (Option PhysReg) → List (Option ℕ)
numbers needs = map (option_map (λ (r : PhysReg). r.0)) needs

-- a register below the bound, where it is one
abbrev pub is_within : ℕ → Option PhysReg → Bool
is_within registers need = option_map_or (λ (r : PhysReg). nat_lt r.0 registers) need true

-- it waits for no register
abbrev pub is_clear : List (Option PhysReg) → Bool
is_clear needs = list_all (λ n. option_map_or (λ _. false) n true) needs

abbrev pub without_reg : ℕ → Option PhysReg → Option PhysReg
without_reg r None = None
without_reg r (Some x) = if x.0 == r then None else Some x

abbrev pub is_need : ℕ → Option PhysReg → Bool
is_need r None = false
is_need r (Some x) = x.0 == r

-- it waits for this register
abbrev pub needs_it : ℕ → List (Option PhysReg) → Bool
needs_it r needs = list_any (is_need r) needs

-- the places of those that may wait for a register
abbrev pub readers_at : List Places → ℕ → Places
readers_at readers r = slice_index_or readers r (record { 0 = 0 })
