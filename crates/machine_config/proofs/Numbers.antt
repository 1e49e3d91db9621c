-- The numbers of the keys, in the table's order.
use Rattle.std.specs.Int.{is_power_of_two}
use Rattle.std.specs.List.{AllByRecursion}
use Rattle.std.proofs.Common.{◌≡◌, ℕ, zero, suc, ◌<◌, Bool, true, ◌&&◌, leb, ltb, List, [], ◌∷◌, map, length, get_or, set, arith}
use Rattle.std.proofs.lemmas.Bool.{and_parts, leb-true, ltb-true}
use Rattle.machine_config.specs.Keys.{Values, number, power, word, Key}
use Rattle.machine_config.specs.Allowed.{Allows}
use Rattle.machine_config.specs.Reading.{AreAllowed}
use Rattle.machine_config.specs.declared.config.Config.{Config}

-- the test of what a row allows
abbrev pub is_within : ℕ → ℕ → ℕ → Bool
is_within low high x = leb low x && leb x high

abbrev pub allows : Values → ℕ → Bool
allows (number low high) x = is_within low high x
allows (power low high) x = is_within low high x && is_power_of_two x
allows (word words) x = ltb x (length words)

pub Allows-allows : (values : Values) (x : ℕ) → allows values x ≡ true → Allows values x
Allows-allows (number low high) x is =
    let (above, below) = and_parts (leb low x) (leb x high) is in (leb-true _ _ above, leb-true _ _ below)
Allows-allows (power low high) x is =
    let (within, two) = and_parts (is_within low high x) (is_power_of_two x) is in
    let (above, below) = and_parts (leb low x) (leb x high) within in (leb-true _ _ above, leb-true _ _ below, two)
Allows-allows (word words) x is = ltb-true _ _ is

-- the number at a place is one that the row there allows
pub AreAllowed-at : (rows : List Key) (xs : List ℕ) (k : ℕ) (d : Key) → AreAllowed rows xs → k < length rows → k < length xs
    → Allows (get_or rows k d).values (get_or xs k 0)
AreAllowed-at [] xs k d h low high = absurd (omega arith)
AreAllowed-at (key ∷ rest) [] k d h low high = absurd (omega arith)
AreAllowed-at (key ∷ rest) (x ∷ xs) zero d h low high = h.0
AreAllowed-at (key ∷ rest) (x ∷ xs) (suc k) d h low high = AreAllowed-at rest xs k d h.1 (omega arith) (omega arith)

pub AreAllowed-set : (rows : List Key) (xs : List ℕ) (k x : ℕ) (d : Key) → AreAllowed rows xs → Allows (get_or rows k d).values x
    → AreAllowed rows (set xs k x)
AreAllowed-set [] xs k x d h allowed = tt
AreAllowed-set (key ∷ rest) [] k x d h allowed = tt
AreAllowed-set (key ∷ rest) (y ∷ ys) zero x d h allowed = (allowed, h.1)
AreAllowed-set (key ∷ rest) (y ∷ ys) (suc k) x d h allowed = (h.0, AreAllowed-set rest ys k x d h.1 allowed)

-- the numbers of a configuration
pub AreAllowed-of : (rows : List Key) (config : Config) → AreAllowed rows (map (λ key. key.of config) rows)
    → AllByRecursion (λ (key : Key). Allows key.values (key.of config)) rows
AreAllowed-of [] config allowed = tt
AreAllowed-of (key ∷ rest) config allowed = (allowed.0, AreAllowed-of rest config allowed.1)
