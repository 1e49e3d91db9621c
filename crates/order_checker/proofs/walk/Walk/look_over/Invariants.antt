-- What is sought among the rest is what is sought among all.
use Rattle.std.proofs.Common.{◌-◌, length}
use Rattle.order_checker.specs.Walking.{is_needed_by, touches, with_later}
use Rattle.order_checker.proofs.LookingBack.{IsRest}
use Rattle.order_checker.proofs.walk.Walk.look_over.Given as goal

abbrev pub invariant-loop-k : goal.invariant-loop-k
invariant-loop-k l = IsRest (is_needed_by l.model l.lines l.self.program l.line) (with_later (touches l.line) l.lines l.self.program.places.items) l.line.index l.count l.latest l.self.left.items

abbrev pub decreases-loop-k : goal.decreases-loop-k
decreases-loop-k l = length l.self.left.items - l.count
