-- The parts of a predictor: its counters, and its stack of return addresses.
use Rattle.std.specs.Prelude.{ℕ, ◌<◌, Bool, false, nat_le, List, [], Option, Some, None, All, unwrap_or}
use Rattle.std.specs.List.Sorted.{IsNonDecreasingBy}
use Rattle.machine_config.specs.declared.config.PredictorKind.{PredictorKind}
use Rattle.machine_config.specs.declared.config.PredictorKind.TheVariants.{Static, TwoBit}
use Rattle.branch_predict.specs.declared.return_stack.Pushed.{Pushed}

pub record StackView : Type 0 where
  -- the oldest first, at most so many
  pub stack : List Pushed
  pub places : ℕ
  -- how many addresses have been pushed so far
  pub pushes : ℕ

-- numbers do not fall along the stack, and each is that of a push
pub record AreNumbered (stack : List Pushed) (pushes : ℕ) : Type 0 where
  pub rising : IsNonDecreasingBy (λ (p : Pushed). p.number) stack
  pub made : All (λ (p : Pushed). p.number < pushes) stack

-- whether there is one, pushed at the mark or later
abbrev pub is_from : ℕ → Option Pushed → Bool
is_from mark None = false
is_from mark (Some p) = nat_le mark p.number

-- there are counters where branches are predicted by them
abbrev pub kind_of : Option (List ℕ) → PredictorKind
kind_of None = Static
kind_of (Some counters) = TwoBit

abbrev pub counts_of : Option (List ℕ) → List ℕ
counts_of counters = unwrap_or counters []
