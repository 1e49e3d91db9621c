-- Kinds of units.
use Rattle.std.specs.Prelude.{Bool, true, false}
use Rattle.rsim_base.specs.declared.processor.Unit.{Unit}
use Rattle.rsim_base.specs.declared.processor.Unit.TheVariants.{Alu, Mul, Div}
use Rattle.issue_queue.specs.declared.units.ByUnit.{ByUnit}

abbrev pub is_mul : Unit → Bool
is_mul Mul = true
is_mul Alu = false
is_mul Div = false

abbrev pub is_div : Unit → Bool
is_div Div = true
is_div Alu = false
is_div Mul = false

-- the value for a kind
abbrev pub of_unit : {T : Type 0} → ByUnit T → Unit → T
of_unit v Alu = v.alu
of_unit v Mul = v.mul
of_unit v Div = v.div
