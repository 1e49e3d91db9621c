-- What holds after any takes, releases and undos.
use Rattle.std.specs.Prelude.{◌≡◌, ◌≢◌, ℕ, ◌+◌, ◌<◌, ◌≤◌, ◌==◌, ◌∷◌, ◌++◌, List, [], length, All, if◌then◌else◌, slice_index, slice_index_or, slice_set, Ok, None, Some}
use Rattle.rsim_base.specs.Limits.{arch_registers}
use Rattle.rsim_base.specs.declared.processor.Renamed.{Renamed}
use Rattle.sparc_meaning.specs.declared.arch.Arch.{Arch}
use Rattle.sparc_meaning.specs.Registers.{HasRegisters, value_of}
use Rattle.rename.specs.Names.{NamesView, Takes}
use Rattle.rename.specs.Renaming.{IsRenaming, named, news, olds, retired_registers, times}
use Rattle.rename.specs.Start.{first_names}

-- at first nothing is in flight, and register r is held by the register of the same number
abbrev pub FirstIsRenaming : Type 0
FirstIsRenaming = (extra : ℕ) (s : Arch) → length s.globals ≡ 8 → length s.windowed ≡ 128 → IsRenaming (λ r. r) [] (first_names extra s)

-- a take is the youngest from then on
abbrev pub TakenIsRenaming : Type 0
TakenIsRenaming =
    (retired : ℕ → ℕ) (takes : List Renamed) (v w : NamesView) (r : ℕ) (t : Renamed)
    → IsRenaming retired takes v
    → r < arch_registers
    → Takes r v (Ok t) w
    → IsRenaming retired (takes ++ t ∷ []) w

-- the oldest take retires: its register has the retired value from then on, and what held it before is free
abbrev pub ReleasedIsRenaming : Type 0
ReleasedIsRenaming =
    (retired : ℕ → ℕ) (t : Renamed) (takes : List Renamed) (v : NamesView)
    → IsRenaming retired (t ∷ takes) v
    → IsRenaming (λ r. if t.reg.0 == r then t.new.0 else retired r) takes (record v { free = v.free ++ t.old.0 ∷ [] })

-- the youngest take is undone
abbrev pub UndoneIsRenaming : Type 0
UndoneIsRenaming =
    (retired : ℕ → ℕ) (takes : List Renamed) (t : Renamed) (v : NamesView)
    → IsRenaming retired (takes ++ t ∷ []) v
    → IsRenaming retired takes (record v { current = slice_set v.current t.reg.0 t.old.0; free = v.free ++ t.new.0 ∷ [] })

-- The operand of an instruction names what its youngest writer in flight got, or the retired register where there is none.
abbrev pub OperandsNameWriters : Type 0
OperandsNameWriters =
    (retired : ℕ → ℕ) (takes : List Renamed) (v : NamesView) (r : ℕ)
    → IsRenaming retired takes v
    → r < arch_registers
    → ((before after : List Renamed) (t : Renamed) → takes ≡ before ++ t ∷ after → t.reg.0 ≡ r → All (λ u. u.reg.0 ≢ r) after → slice_index v.current r ≡ t.new.0)
    × (All (λ u. u.reg.0 ≢ r) takes → slice_index v.current r ≡ retired r)

-- no register holds two architectural ones
abbrev pub RegistersAreApart : Type 0
RegistersAreApart =
    (retired : ℕ → ℕ) (takes : List Renamed) (v : NamesView) (r q : ℕ)
    → IsRenaming retired takes v
    → r < arch_registers
    → q < arch_registers
    → slice_index v.current r ≡ slice_index v.current q
    → r ≡ q

-- while a take is in flight there is a place for another free register
abbrev pub RoomForEach : Type 0
RoomForEach =
    (retired : ℕ → ℕ) (takes : List Renamed) (v : NamesView)
    → IsRenaming retired takes v
    → length v.free + (length takes + arch_registers) ≡ length v.values

-- each number that is mapped, or that a take in flight speaks of, names a register
abbrev pub NumbersAreWithin : Type 0
NumbersAreWithin =
    (retired : ℕ → ℕ) (takes : List Renamed) (v : NamesView)
    → IsRenaming retired takes v
    → ((r : ℕ) → r < arch_registers → slice_index v.current r < length v.values)
    × All (λ t. (t.reg.0 < arch_registers) × (t.new.0 < length v.values) × (t.old.0 < length v.values)) takes

-- After takes there are more of them.
abbrev pub NamedAlong : Type 0
NamedAlong = (r : ℕ) (older younger : List Renamed) (held : ℕ) → named r (older ++ younger) held ≡ named r younger (named r older held)

-- What holds a register at some place of the path is not free.
abbrev pub HoldersAreNotFree : Type 0
HoldersAreNotFree =
    (retired : ℕ → ℕ) (older younger : List Renamed) (v : NamesView) (r : ℕ)
    → IsRenaming retired (older ++ younger) v
    → r < arch_registers
    → times (named r older (retired r)) v.free ≡ 0

-- So its value stays when a register is taken.
abbrev pub HoldersKeepValues : Type 0
HoldersKeepValues =
    (retired : ℕ → ℕ) (older younger : List Renamed) (v w : NamesView) (r q : ℕ) (t : Renamed)
    → IsRenaming retired (older ++ younger) v
    → r < arch_registers
    → Takes q v (Ok t) w
    → slice_index_or w.values (named r older (retired r)) None ≡ slice_index_or v.values (named r older (retired r)) None

-- Each register is a retired one, or given by a take in flight, or free, and so exactly once. So none was given twice.
abbrev pub GivenOnce : Type 0
GivenOnce =
    (retired : ℕ → ℕ) (takes : List Renamed) (v : NamesView) (x : ℕ)
    → IsRenaming retired takes v
    → (x < length v.values → times x (retired_registers retired) + (times x (news takes) + times x v.free) ≡ 1)
    × (length v.values ≤ x → times x (retired_registers retired) + (times x (news takes) + times x v.free) ≡ 0)

-- the oldest takes retire together
abbrev pub AllReleasedIsRenaming : Type 0
AllReleasedIsRenaming =
    (retired : ℕ → ℕ) (older younger : List Renamed) (v : NamesView)
    → IsRenaming retired (older ++ younger) v
    → IsRenaming (λ r. named r older (retired r)) younger (record v { free = v.free ++ olds older })

-- at first each register holds a state's value
abbrev pub FirstHoldValues : Type 0
FirstHoldValues = (extra r : ℕ) (s : Arch) → HasRegisters s → r < arch_registers → slice_index_or (first_names extra s).values r None ≡ Some (value_of s r)
