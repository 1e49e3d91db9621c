-- Calls that are told to fail, for shelves and sinks in memory.
use Rattle.std.specs.Prelude.{ℕ, ◌+◌, ◌-◌, ◌^◌, ◌==◌, min, Bool, if◌then◌else◌, ◌||◌, List}
use Rattle.std.specs.List.{list_any}

-- the numbers of the calls that are to fail, how many calls there were, and how many failed
pub record FailuresView : Type 0 where
  pub fails : List ℕ
  pub calls : ℕ
  pub faults : ℕ

-- one more, but at the end of the type
abbrev pub one_more : ℕ → ℕ
one_more n = min (n + 1) (2 ^ 64 - 1)

-- whether the next call is one that is to fail
abbrev pub next_fails : FailuresView → Bool
next_fails f = list_any (λ number. number == f.calls) f.fails

abbrev pub with_fault : FailuresView → FailuresView
with_fault f = record f { faults = one_more f.faults }

-- after the next call
abbrev pub after_next : FailuresView → FailuresView
after_next f = let called = record f { calls = one_more f.calls } in if next_fails f then with_fault called else called

-- after the next call, which fails also where what it asks for is not held
abbrev pub after_next_of : Bool → FailuresView → FailuresView
after_next_of held f = if next_fails f || held then after_next f else with_fault (after_next f)
