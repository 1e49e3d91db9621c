use Rattle.std.proofs.Common.{◌≡◌, ℕ, ◌<◌, length}
use Rattle.directory.specs.HomeViews.{home_of}
use Rattle.directory.specs.Start.{IsStart}
use Rattle.coherent_memory.specs.HomeRows.{no_home}
use Rattle.coherent_memory.specs.Rows.{rows_of}
use Rattle.coherent_memory.proofs.homes.Homes.make.Given as goal

abbrev pub invariant-loop-p : goal.invariant-loop-p
invariant-loop-p l = record {
  count : length l.list.items ≡ l.p;
  start : (q : ℕ) → q < length l.list.items → IsStart l.image l.config q (rows_of home_of no_home l.list.items q);
}
