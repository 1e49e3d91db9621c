-- Lines stay with nodes that there are.
use Rattle.std.proofs.Common.{◌≡◌, ℕ, zero, suc, ◌≤◌, ◌<◌, ◌==◌, Bool, true, false, cond, List, [], ◌∷◌, Option, Some, refl, subst, arith}
use Rattle.std.proofs.lemmas.Bool.{eqb-true}
use Rattle.rsim_base.specs.declared.memory.Node.{Node}
use Rattle.memory_contracts.specs.Store.{Wish}
use Rattle.memory_contracts.specs.Flat.{Moves, given, has_moved, is_at, turn, turn_with, turns, with_left}
use Rattle.memory_contracts.specs.FlatLayout.{AreOwned}

given-owned : (n p line : ℕ) (m : Moves) → p < n → AreOwned n m.owner → AreOwned n (given p line m).owner
given-owned n p line m below owned q l = by (l == line)
  where
    by : (b : Bool) → is_at (cond b (Some (record { 0 = p })) (m.owner l)) q ≡ true → q < n
    by true at = subst (λ k. k < n) (eqb-true p q at) below
    by false at = owned q l at

turn_with-owned : (n p : ℕ) (ws : List Wish) (m : Moves) → p < n → AreOwned n m.owner → AreOwned n (turn_with p ws m).owner
turn_with-owned n p [] m below owned = owned
turn_with-owned n p (w ∷ ws) m below owned = by (has_moved w.line m) (is_at (m.owner w.line) p)
  where
    by : (b d : Bool) → AreOwned n (cond b m (cond d (with_left p ws m) (given p w.line (with_left p ws m)))).owner
    by true d = owned
    by false true = owned
    by false false = given-owned n p w.line (with_left p ws m) below owned

pub turns-owned : (n k : ℕ) (m : Moves) → k ≤ n → AreOwned n m.owner → AreOwned n (turns k m).owner
turns-owned n zero m few owned = owned
turns-owned n (suc k) m few owned = turn_with-owned n k ((turns k m).wishes k) (turns k m) (omega (arith, few)) (turns-owned n k m (omega (arith, few)) owned)
