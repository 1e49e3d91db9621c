-- What a machine answers about its processors.
use Rattle.std.specs.Prelude.{ℕ, Bool, not, List, length, sum_by, slice_get, IfSome}
use Rattle.std.specs.List.{list_all}
use Rattle.sparc_meaning.specs.Arch.{is_running}
use Rattle.cycle_loop.specs.Machine.{CoreView}

abbrev pub have_ended : List CoreView → Bool
have_ended cores = list_all (λ c. not (is_running c.arch.end)) cores

-- it is so of processor p
abbrev pub IsOf : List CoreView → ℕ → (CoreView → Type 0) → Type 0
IsOf cores p Q = IfSome (slice_get cores p) Q

-- retired stores that are not performed
abbrev pub waiting_stores : List CoreView → ℕ
waiting_stores cores = sum_by (λ c. length c.waiting) cores

-- the steps that they have retired together
abbrev pub all_retired : List CoreView → ℕ
all_retired cores = sum_by (λ c. c.retired) cores
