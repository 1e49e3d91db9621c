use Rattle.std.proofs.Common.{◌≡◌, ℕ, Some, Contains}
use Rattle.slab.specs.Slab.{get}
use Rattle.miss_registers.specs.LineMap.{entry_of}
use Rattle.miss_registers.proofs.line_table.find.Given as goal

-- the line's entries are among those that are left, and what is left is in the slab
abbrev pub invariant-loop-key : goal.invariant-loop-key
invariant-loop-key g l =
    (goal.iterator-loop-key g).can_next l.key-iterator ×
    (goal.iterator-loop-key g).is_finite l.key-iterator ×
    ((key : ℕ) (value : g.row.T.Denot) → get l.entries key ≡ Some (entry_of l.line.0 value) → Contains l.key-iterator (key, entry_of l.line.0 value)) ×
    ((key : ℕ) (value : g.row.T.Denot) → Contains l.key-iterator (key, entry_of l.line.0 value) → get l.entries key ≡ Some (entry_of l.line.0 value))
