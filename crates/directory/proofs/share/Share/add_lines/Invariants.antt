use Rattle.std.proofs.Common.{◌≡◌, ℕ, ◌%◌, ◌<◌, ◌≤◌, true}
use Rattle.directory.specs.Fresh.{AreMore}
use Rattle.directory.specs.HomeParts.{has_line}
use Rattle.directory.proofs.share.Share.add_lines.Given as goal

abbrev pub invariant-loop-number : goal.invariant-loop-number
invariant-loop-number l = record {
  more : AreMore l.image l.self l.fn.records l.records;
  there : (k : ℕ) → l.from ≤ k → k < l.number → k % l.self.nodes ≡ l.self.home.0 → has_line l.records k ≡ true;
}
