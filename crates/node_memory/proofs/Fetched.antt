-- Lines on their way to the first level.
use Rattle.std.proofs.Common.{◌≡◌, ℕ, suc, ◌+◌, ◌<◌, ◌≤◌, nat_le, Bool, true, false, cond, List, [], ◌∷◌, ◌++◌, length, refl, arith}
use Rattle.std.proofs.lemmas.Bool.{and_from, and_parts, leb-false, leb-true, le-leb}
use Rattle.cache_levels.specs.Levels.{LevelsView}
use Rattle.node_memory.specs.Fetched.{before-tail, left}
use Rattle.node_memory.specs.Nodes.{Coming}
use Rattle.node_memory.specs.Sound.{AreBefore, are_rising}
use Rattle.node_memory.specs.Starting.{arrive, is_due, near_if_held}

before-head : (now : ℕ) (c : Coming) (cs : List Coming) → AreBefore now (c ∷ cs) → c.since < now
before-head now c cs before = before 0 c (omega arith)

rising-from : (low from : ℕ) (cs : List Coming) → low ≤ from → are_rising from cs ≡ true → are_rising low cs ≡ true
rising-from low from [] under rising = refl
rising-from low from (c ∷ cs) under rising =
    let (first, rest) = and_parts (nat_le from c.since) (are_rising (suc c.since) cs) rising in
    let above = leb-true from c.since first in
    and_from (nat_le low c.since) (are_rising (suc c.since) cs) (le-leb low c.since (omega (arith, above, under))) rest

rising-tail : (c : Coming) (cs : List Coming) → are_rising 0 (c ∷ cs) ≡ true → are_rising 0 cs ≡ true
rising-tail c cs rising =
    let (first, rest) = and_parts (nat_le 0 c.since) (are_rising (suc c.since) cs) rising in
    rising-from 0 (suc c.since) cs (omega arith) rest

pub arrive-rising : (latency now : ℕ) (cs : List Coming) (levels : LevelsView) → are_rising 0 cs ≡ true → are_rising 0 (arrive latency now cs levels).coming ≡ true
arrive-rising latency now = left latency now (λ cs. are_rising 0 cs ≡ true) rising-tail

-- ticks that rise to below one are no more than there are
rising-few : (from now : ℕ) (cs : List Coming) → from ≤ now → are_rising from cs ≡ true → AreBefore now cs → from + length cs ≤ now
rising-few from now [] low rising before = omega (arith, low)
rising-few from now (c ∷ cs) low rising before =
    let (first, rest) = and_parts (nat_le from c.since) (are_rising (suc c.since) cs) rising in
    let above = leb-true from c.since first in
    let below = before-head now c cs before in
    let more = rising-few (suc c.since) now cs (omega (arith, below)) rest (before-tail now c cs before) in
    omega (arith, above, more)

-- those that are left are not due, so they are fewer than the ticks that they take
pub arrive-few : (latency now : ℕ) (cs : List Coming) (levels : LevelsView) → latency ≤ 64 → are_rising 0 cs ≡ true → AreBefore now cs → length (arrive latency now cs levels).coming < 64
arrive-few latency now [] levels short rising before = omega arith
arrive-few latency now (c ∷ cs) levels short rising before = by (is_due latency now c) refl (arrive-few latency now cs (near_if_held c.line levels) short (rising-tail c cs rising) (before-tail now c cs before))
  where
    by : (b : Bool) → is_due latency now c ≡ b → length (arrive latency now cs (near_if_held c.line levels)).coming < 64 → length (cond b (arrive latency now cs (near_if_held c.line levels)) (record { levels = levels; coming = c ∷ cs })).coming < 64
    by true e rest = rest
    by false e rest =
        let (first, rest) = and_parts (nat_le 0 c.since) (are_rising (suc c.since) cs) rising in
        let below = before-head now c cs before in
        let more = rising-few (suc c.since) now cs (omega (arith, below)) rest (before-tail now c cs before) in
        let late = leb-false (c.since + latency) now e in
        omega (arith, more, late, short)

-- one more, of this tick
pub rising-push : (from now line : ℕ) (cs : List Coming) → from ≤ now → are_rising from cs ≡ true → AreBefore now cs → are_rising from (cs ++ record { line = line; since = now } ∷ []) ≡ true
rising-push from now line [] low rising before = and_from (nat_le from now) true (le-leb from now low) refl
rising-push from now line (c ∷ cs) low rising before =
    let (first, rest) = and_parts (nat_le from c.since) (are_rising (suc c.since) cs) rising in
    let below = before-head now c cs before in
    and_from (nat_le from c.since) (are_rising (suc c.since) (cs ++ record { line = line; since = now } ∷ [])) first (rising-push (suc c.since) now line cs (omega (arith, below)) rest (before-tail now c cs before))
