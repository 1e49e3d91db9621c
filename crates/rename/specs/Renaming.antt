-- Which register an operand names: that of the youngest earlier writer in flight, or the retired one.
use Rattle.std.specs.Prelude.{◌≡◌, ℕ, ◌+◌, ◌<◌, ◌≤◌, ◌==◌, ⊤, ◌∷◌, List, [], length, map, count_by, if◌then◌else◌, slice_index}
use Rattle.std.specs.List.{range_with_len}
use Rattle.rsim_base.specs.Limits.{arch_registers}
use Rattle.rsim_base.specs.declared.processor.Renamed.{Renamed}
use Rattle.rename.specs.Names.{NamesView}

-- Takes are in flight from the oldest to the youngest: given, and neither undone nor released. The retired register of each
-- architectural one holds the value that its last retired writer left.

-- what holds register r after these takes, where `held` held it before them: what its youngest take gave
abbrev pub named : ℕ → List Renamed → ℕ → ℕ
named r [] held = held
named r (t ∷ ts) held = named r ts (if t.reg.0 == r then t.new.0 else held)

-- each take kept what held its register before it
abbrev pub OldsAreBefore : List Renamed → (ℕ → ℕ) → Type 0
OldsAreBefore [] held = ⊤
OldsAreBefore (t ∷ ts) held = (t.reg.0 < arch_registers) × (t.old.0 ≡ held t.reg.0) × OldsAreBefore ts (λ r. if t.reg.0 == r then t.new.0 else held r)

-- how often register x stands in a list
abbrev pub times : ℕ → List ℕ → ℕ
times x xs = count_by (λ y. y == x) xs

abbrev pub olds : List Renamed → List ℕ
olds takes = map (λ t. t.old.0) takes

abbrev pub news : List Renamed → List ℕ
news takes = map (λ t. t.new.0) takes

-- the retired registers
unfoldable pub retired_registers : (ℕ → ℕ) → List ℕ
retired_registers retired = map retired (range_with_len 0 arch_registers)

-- these takes are in flight, over these retired registers
pub record IsRenaming (retired : ℕ → ℕ) (takes : List Renamed) (v : NamesView) : Type 0 where
  pub count : length v.current ≡ arch_registers
  pub names : (r : ℕ) → r < arch_registers → slice_index v.current r ≡ named r takes (retired r)
  pub olds_are : OldsAreBefore takes retired
  -- mapped, kept as old, or free: each register exactly once
  pub once : (x : ℕ) → x < length v.values → times x v.current + (times x (olds takes) + times x v.free) ≡ 1
  pub no_more : (x : ℕ) → length v.values ≤ x → times x v.current + (times x (olds takes) + times x v.free) ≡ 0
