-- What a core's registers hold at first.
use Rattle.std.specs.Prelude.{ℕ, ◌∷◌, ◌++◌, List, [], map, replicate, None, Some}
use Rattle.std.specs.List.{range_with_len}
use Rattle.rsim_base.specs.Limits.{arch_registers}
use Rattle.sparc_meaning.specs.declared.arch.Arch.{Arch}
use Rattle.rename.specs.Names.{NamesView}

-- the architectural registers in their order
abbrev pub registers_of : Arch → List ℕ
registers_of s = s.globals ++ (s.windowed ++ s.cc ∷ s.y ∷ [])

-- each of the first ones holds an architectural register, the others are free and not written
abbrev pub first_names : ℕ → Arch → NamesView
first_names extra s = record {
  current = range_with_len 0 arch_registers;
  free = range_with_len arch_registers extra;
  values = map Some (registers_of s) ++ replicate extra None;
}
