-- Bytes with others behind them.
use Rattle.std.specs.Prelude.{◌≡◌, ℕ, List, ◌++◌}

-- the new bytes begin with the old ones
pub record Extends (old new : List ℕ) : Type 0 where
  pub behind : List ℕ
  pub is : new ≡ old ++ behind
