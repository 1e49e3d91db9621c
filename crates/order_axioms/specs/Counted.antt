-- The counts of fences as the code keeps them.
use Rattle.rsim_base.specs.declared.memory.Access.{Access}
use Rattle.rsim_base.specs.Made as made
use Rattle.order_axioms.specs.declared.counting.Fences.{Fences}

-- the same counts by the names of what they order
abbrev pub counts : Fences → made.Fences
counts f = record { load_load = f.ll; store_load = f.sl; load_store = f.ls; store_store = f.ss }

-- an access that a program has made after so many fences
abbrev pub made_after : Access → Fences → made.Made
made_after access f = record { access = access; fences = counts f }
