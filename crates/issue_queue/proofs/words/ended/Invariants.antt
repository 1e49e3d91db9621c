use Rattle.std.proofs.Common.{◌≡◌, ℕ, ◌<◌, ◌&&◌, ◌||◌, true, nat_le, slice_index}
use Rattle.ring_set.specs.Sets.{has}
use Rattle.issue_queue.proofs.words.ended.Given as goal

abbrev pub invariant-loop-place : goal.invariant-loop-place
invariant-loop-place l = record {
  within : (j : ℕ) → j < 128 → has l.left j ≡ true → has l.fn.set j ≡ true;
  ended : (j : ℕ) → j < 128 → has l.ended j ≡ (has l.fn.set j && (has l.left j || nat_le (slice_index l.until.items j) l.tick));
}

abbrev pub decreases-loop-place : goal.decreases-loop-place
decreases-loop-place l = l.left.0
