use Rattle.std.proofs.Common.{◌≡◌, ℕ, ◌<◌, ◌&&◌, ◌||◌, true, not, [], length, slice_index_or}
use Rattle.ring_set.specs.Sets.{has}
use Rattle.issue_queue.specs.Needs.{is_clear}
use Rattle.issue_queue.specs.Words.{needs_now}
use Rattle.issue_queue.proofs.words.clear_needs.Given as goal

abbrev pub invariant-loop-place : goal.invariant-loop-place
invariant-loop-place l = record {
  len : length l.needs.items ≡ 128;
  within : (j : ℕ) → j < 128 → has l.left j ≡ true → has l.fn.set j ≡ true;
  needs : (j : ℕ) → j < 128 → slice_index_or l.needs.items j [] ≡ needs_now l.r.0 (has l.fn.set j && not (has l.left j)) (slice_index_or l.initial.needs.items j []);
  clear : (j : ℕ) → j < 128 → has l.clear j ≡ (has l.fn.set j && (has l.left j || is_clear (slice_index_or l.needs.items j [])));
}

abbrev pub decreases-loop-place : goal.decreases-loop-place
decreases-loop-place l = l.left.0
