-- The first and the last of several.
use Rattle.std.specs.Prelude.{ℕ, zero, suc, Bool, if◌then◌else◌, Option, None, Some}
use Rattle.std.specs.Option.{option_or}

-- the first of f 0, f 1, .. f (n - 1) that there is
abbrev pub first : {A : Type 0} → (ℕ → Option A) → ℕ → Option A
first f zero = None
first f (suc n) = option_or (first f n) (f n)

-- the least number below n that passes
abbrev pub least : (ℕ → Bool) → ℕ → Option ℕ
least test n = first (λ k. if test k then Some k else None) n

-- the greatest one
abbrev pub last : (ℕ → Bool) → ℕ → Option ℕ
last test zero = None
last test (suc n) = if test n then Some n else last test n
