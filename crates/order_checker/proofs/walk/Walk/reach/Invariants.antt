-- What is true of the walk at the start stays true.
use Rattle.std.proofs.Common.{◌≡◌, ℕ, ◌+◌, ◌-◌, ◌<◌, List, length}
use Rattle.order_checker.specs.Standing.{IsWalked}
use Rattle.order_checker.proofs.walk.Walk.reach.Given as goal

abbrev pub invariant-loop-self : goal.invariant-loop-self
invariant-loop-self l =
    ((places : List ℕ) (j : ℕ) → l.i < length places → IsWalked places j l.initial.self.next l.initial.self.left.items → IsWalked places j l.self.next l.self.left.items)
    × (l.self.program ≡ l.initial.self.program)

abbrev pub decreases-loop-self : goal.decreases-loop-self
decreases-loop-self l = l.i + 1 - l.self.next
