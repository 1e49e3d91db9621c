-- A function that is changed at one place.
use Rattle.std.specs.Prelude.{ℕ, ◌==◌, if◌then◌else◌}

-- f, but y at x
abbrev pub with_at : {A : Type 0} → (ℕ → A) → ℕ → A → ℕ → A
with_at f x y z = if z == x then y else f z
