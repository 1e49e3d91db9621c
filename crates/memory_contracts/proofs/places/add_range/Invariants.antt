use Rattle.std.proofs.Common.{◌≡◌, ℕ, ◌+◌, ◌/◌, ◌%◌, ◌<◌, ◌≤◌, true}
use Rattle.memory_contracts.specs.Parts.{AreMore, has_place}
use Rattle.memory_contracts.proofs.places.add_range.Given as goal

abbrev pub invariant-loop-number : goal.invariant-loop-number
invariant-loop-number l = record {
  end : l.until ≡ l.from + (l.fn.first % 8 + l.fn.len + 7) / 8;
  more : AreMore l.image l.per_line l.fn.memory l.fn.owners l.memory l.owners;
  there : (k : ℕ) → l.from ≤ k → k < l.number → has_place l.memory l.owners l.per_line k ≡ true;
}
