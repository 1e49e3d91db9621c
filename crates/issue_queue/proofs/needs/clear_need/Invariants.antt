use Rattle.std.proofs.Common.{◌≡◌, ◌++◌, map, take, drop}
use Rattle.issue_queue.specs.Needs.{without_reg}
use Rattle.issue_queue.proofs.needs.clear_need.Given as goal

abbrev pub invariant-loop-need : goal.invariant-loop-need
invariant-loop-need l =
    l.needs ≡ map (without_reg l.r.0) (take l.need-index l.initial.needs) ++ drop l.need-index l.initial.needs
