-- A list of parts as a function of their numbers.
use Rattle.std.specs.Prelude.{ℕ, List, slice_get}
use Rattle.std.specs.Option.{option_map_or}

-- what the part of a number is seen as; none is what there is where there is no part
abbrev pub rows_of : {A B : Type 0} → (A → B) → B → List A → ℕ → B
rows_of view none parts p = option_map_or view (slice_get parts p) none
