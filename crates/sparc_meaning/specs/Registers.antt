-- The registers of a processor by their numbers: what a step reads and writes.
use Rattle.std.specs.Prelude.{◌≡◌, ℕ, ◌+◌, ◌-◌, ◌==◌, ◌∷◌, List, [], Bool, nat_lt, if◌then◌else◌, Option, Some, None, map, option_map, unwrap_or, length, slice_index, slice_index_or}
use Rattle.std.specs.List.{filter_map, list_any}
use Rattle.rsim_base.specs.declared.processor.ArchReg.{ArchReg}
use Rattle.sparc_decode.specs.declared.operands.Sources.{Sources}
use Rattle.sparc_decode.specs.declared.operands.Dest.{Dest}
use Rattle.sparc_meaning.specs.declared.arch.Arch.{Arch}
use Rattle.sparc_meaning.specs.declared.fetched.Computed.{Computed}
use Rattle.sparc_meaning.specs.declared.fetched.Fetched.{Fetched}
use Rattle.sparc_meaning.specs.declared.fetched.Operands.{Operands}
use Rattle.sparc_meaning.specs.Applied.{result_in}
use Rattle.sparc_meaning.specs.Arch.{place}
use Rattle.sparc_meaning.specs.Fetched.{sources_by, read_in, dest_by, written_in}

-- ---- numbers

-- register r of window w: 0 to 7 are the globals, then come the windowed registers by their places
abbrev pub number : ℕ → ℕ → ℕ
number w r = if nat_lt r 8 then r else 8 + place w r

abbrev pub codes : ℕ
codes = 136

abbrev pub y_register : ℕ
y_register = 137

abbrev pub number_if : Bool → ℕ → Option ℕ
number_if named n = if named then Some n else None

abbrev pub numbers_of : List (Option ArchReg) → List (Option ℕ)
numbers_of rs = map (option_map (λ (r : ArchReg). r.0)) rs

-- the value of a register
unfoldable pub value_of : Arch → ℕ → ℕ
value_of s n =
    if nat_lt n 8 then slice_index s.globals n
    else if nat_lt n codes then slice_index s.windowed (n - 8)
    else if n == codes then s.cc
    else s.y

-- a state has eight globals and eight windows of sixteen registers
pub record HasRegisters (s : Arch) : Type 0 where
  pub globals : length s.globals ≡ 8
  pub windowed : length s.windowed ≡ 128

-- ---- what is read

abbrev pub numbers_read : Sources → ℕ → List (Option ℕ)
numbers_read named w =
    option_map (number w) named.a ∷ option_map (number w) named.b ∷ option_map (number w) named.c ∷ number_if named.cc codes ∷ number_if named.y y_register ∷ []

-- by the operand: the first register, that of operand 2, the third, the condition codes and Y; none where it reads none
unfoldable pub reads : Fetched → List (Option ℕ)
reads f = numbers_read (sources_by f.part f.instr) (read_in f.part f.window)

abbrev pub given : List (Option ℕ) → ℕ → ℕ
given values k = unwrap_or (slice_index_or values k None) 0

-- the operands that have these values, in the order of `reads`; what is not read is 0
abbrev pub operands_from : List (Option ℕ) → Operands
operands_from values = record { a = given values 0; b = given values 1; c = given values 2; cc = given values 3; y = given values 4 }

-- ---- what is written

abbrev pub numbers_written : Dest → ℕ → List (Option ℕ)
numbers_written named w = option_map (number w) named.reg ∷ number_if named.cc codes ∷ number_if named.y y_register ∷ []

-- the result, the condition codes and Y; none where it writes none
unfoldable pub destinations : Fetched → List (Option ℕ)
destinations f = numbers_written (dest_by f.part f.instr) (written_in f.part f.instr f.window)

-- those that there are
abbrev pub writes : Fetched → List ℕ
writes f = filter_map (λ (n : Option ℕ). n) (destinations f)

abbrev pub is_among : ℕ → List ℕ → Bool
is_among n ns = list_any (λ m. m == n) ns

-- what a step that gives this writes into a register
abbrev pub result_at : Fetched → Computed → ℕ → ℕ → ℕ
result_at f c loaded n = if n == codes then c.cc else if n == y_register then c.y else result_in f.part f.instr c loaded

-- a register behind a step: what it writes, and what was there before elsewhere
abbrev pub passed : Fetched → Computed → ℕ → (ℕ → ℕ) → ℕ → ℕ
passed f c loaded before n = if is_among n (writes f) then result_at f c loaded n else before n
