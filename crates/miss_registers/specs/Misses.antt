-- The misses of a node: the lines that were asked for, and the victims whose acknowledgement is awaited.
use Rattle.std.specs.Prelude.{ℕ, List, Bool, false, ◌||◌, ◌==◌, not, Option, Some, None, option_and_then, is_some, if◌then◌else◌, refl}
use Rattle.std.specs.Coded.{Coded, code_by, coded×, coded_ℕ, coded_bool, coded_list, coded_option}
use Rattle.std.specs.Ordering.{nat_cmp}
use Rattle.std.specs.FinMap.{FinMap, get, insert, remove, len, code}

-- how many registers there are, and as many victim slots; the lines that have a register, each with whether it asks to
-- own; the lines that have a slot, each with its bytes or emptied
pub record MissView : Type 0 where
  pub count : ℕ
  pub registers : FinMap nat_cmp Bool
  pub victims : FinMap nat_cmp (Option (List ℕ))

abbrev pub miss_code : Coded MissView
miss_code =
    code_by
    (ℕ × (FinMap nat_cmp Bool × FinMap nat_cmp (Option (List ℕ))))
    (coded× coded_ℕ (coded× (code coded_ℕ coded_bool) (code coded_ℕ (coded_option (coded_list coded_ℕ)))))
    (λ m. (m.count, (m.registers, m.victims)))
    (λ p. record { count = p.0; registers = p.1.0; victims = p.1.1 })
    (λ _. refl)

-- whether the line's register asks to own, if it has a register
abbrev pub register_of : MissView → ℕ → Option Bool
register_of m line = get m.registers line

-- the line's slot, if it has one: its bytes, or emptied
abbrev pub victim_of : MissView → ℕ → Option (Option (List ℕ))
victim_of m line = get m.victims line

-- the bytes of the line that stand in its slot
abbrev pub bytes_of : MissView → ℕ → Option (List ℕ)
bytes_of m line = option_and_then (λ slot. slot) (victim_of m line)

-- a register asks for at least this; to own covers both
abbrev pub covers : Option Bool → Bool → Bool
covers None own = false
covers (Some owns) own = owns || not own

-- every register is open
abbrev pub registers_full : MissView → Bool
registers_full m = len m.registers == m.count

-- every slot is taken
abbrev pub slots_full : MissView → Bool
slots_full m = len m.victims == m.count

-- the line's register is open, and asks for this
abbrev pub with_register : ℕ → Bool → MissView → MissView
with_register line own m = record m { registers = insert m.registers line own }

-- the line has no register
abbrev pub without_register : ℕ → MissView → MissView
without_register line m = record m { registers = remove m.registers line }

-- the line's slot has these bytes, or is emptied
abbrev pub with_victim : ℕ → Option (List ℕ) → MissView → MissView
with_victim line slot m = record m { victims = insert m.victims line slot }

-- the line has no slot
abbrev pub without_victim : ℕ → MissView → MissView
without_victim line m = record m { victims = remove m.victims line }

-- the line's slot is emptied, if it has one
abbrev pub with_emptied : ℕ → MissView → MissView
with_emptied line m = record m { victims = if is_some (victim_of m line) then insert m.victims line None else m.victims }
