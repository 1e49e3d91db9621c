-- A test of the entries of a ring as a set: the places of those that pass.
use Rattle.std.specs.Prelude.{◌≡◌, ℕ, ◌<◌, ◌≤◌, ◌&&◌, Bool, false, List, [], ◌∷◌, length, slice_index_or}
use Rattle.ring_set.specs.Sets.{aged}
use Rattle.ring_set.specs.declared.set.Places.{Places}

-- the entries stand from the head on, the oldest first
pub record IsRow (w : Places) (head : ℕ) (bs : List Bool) : Type 0 where
  pub fits : length bs ≤ 128
  pub at : (k : ℕ) → k < 128 → aged w head k ≡ slice_index_or bs k false

-- those that pass both tests
abbrev pub both : List Bool → List Bool → List Bool
both [] bs = []
both (a ∷ as') [] = []
both (a ∷ as') (b ∷ bs) = (a && b) ∷ both as' bs
