-- Which of a processor's earlier accesses still stand behind a place of the order.
use Rattle.std.specs.Prelude.{◌≡◌, ℕ, zero, suc, ◌<◌, ◌≤◌, nat_le, Bool, if◌then◌else◌, List, [], ◌∷◌, ◌++◌, length, slice_index}

-- the numbers below n that pass, rising
abbrev pub passing : (ℕ → Bool) → ℕ → List ℕ
passing test zero = []
passing test (suc n) = if test n then passing test n ++ n ∷ [] else passing test n

-- the line of access i stands at place j or behind
abbrev pub stands_from : List ℕ → ℕ → ℕ → Bool
stands_from places j i = nat_le j (slice_index places i)

-- A walk over the lines has come to place j. Of a processor's accesses below `next` those are left whose lines stand at
-- j or behind, rising; and so do the lines of all its others.
pub record IsWalked (places : List ℕ) (j next : ℕ) (left : List ℕ) : Type 0 where
  pub are_left : left ≡ passing (stands_from places j) next
  pub others : (i : ℕ) → next ≤ i → i < length places → j ≤ slice_index places i
  pub few : next ≤ length places
