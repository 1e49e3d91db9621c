use Rattle.std.proofs.Common.{◌≡◌, ◌&&◌, ◌||◌, Bool, true, false, not, [], slice_index_or, ap, ◌∙◌, refl}
use Rattle.ring_set.specs.Sets.{has}
use Rattle.issue_queue.specs.Needs.{is_clear}
use Rattle.issue_queue.specs.Words.{needs_now}
use Rattle.issue_queue.proofs.Firsts.{none_of_all}
use Rattle.issue_queue.proofs.words.clear_needs.Goals as goal

all_taken : (b : Bool) → (b && not false) ≡ b
all_taken true = refl
all_taken false = refl

pub returns-clause-needs : goal.returns-clause-needs
returns-clause-needs c = λ j lt.
    let set : Bool = has c.args.set j in
    let now = λ (b : Bool). needs_now c.args.r.0 b (slice_index_or c.args.needs.now.items j []) in
    c.loop-place.invariant.needs j lt
    ∙ ap (λ b. now (set && not b)) (none_of_all c.loop-place.left c.in_default.ensures j lt)
    ∙ ap now (all_taken set)

pub returns-clause-clear : goal.returns-clause-clear
returns-clause-clear c = λ j lt.
    c.loop-place.invariant.clear j lt
    ∙ ap (λ b. has c.args.set j && (b || is_clear (slice_index_or c.loop-place.needs.items j []))) (none_of_all c.loop-place.left c.in_default.ensures j lt)
