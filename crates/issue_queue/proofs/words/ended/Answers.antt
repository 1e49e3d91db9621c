use Rattle.std.proofs.Common.{◌&&◌, ◌||◌, nat_le, slice_index, ap, ◌∙◌}
use Rattle.ring_set.specs.Sets.{has}
use Rattle.issue_queue.proofs.Firsts.{none_of_all}
use Rattle.issue_queue.proofs.words.ended.Goals as goal

pub returns : goal.returns
returns c = λ j lt.
    c.loop-place.invariant.ended j lt
    ∙ ap (λ b. has c.args.set j && (b || nat_le (slice_index c.args.until.now.items j) c.args.tick)) (none_of_all c.loop-place.left c.in_default.ensures j lt)
