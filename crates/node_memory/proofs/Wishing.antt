-- Wishes that are left after a register has covered some.
use Rattle.std.proofs.Common.{ℕ, ◌≤◌, Bool, true, false, cond, List, [], ◌∷◌, length, arith}
use Rattle.memory_contracts.specs.Store.{Wish}
use Rattle.miss_registers.specs.Misses.{MissView, covers, register_of}
use Rattle.node_memory.specs.Starting.{uncovered}

pub uncovered-few : (misses : MissView) (ws : List Wish) (most : ℕ) → length ws ≤ most → length (uncovered misses ws) ≤ most
uncovered-few misses [] most few = few
uncovered-few misses (w ∷ ws) most few = by (covers (register_of misses w.line) w.own) (uncovered-few misses ws most (omega (arith, few)))
  where
    by : (b : Bool) → length (uncovered misses ws) ≤ most → length (cond b (uncovered misses ws) (w ∷ ws)) ≤ most
    by true rest = rest
    by false rest = few
