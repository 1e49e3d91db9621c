use Rattle.std.proofs.Common.{◌+◌, ◌-◌, ◌≤◌, length}
use Rattle.std.specs.Io.KnownBytes.{Consumes}
use Rattle.rsim_io.proofs.transfers.read_up_to.Given as goal

-- what was read is at most one byte past the limit, and came from the reader
abbrev pub invariant-loop-buffer : goal.invariant-loop-buffer
invariant-loop-buffer g l = record {
  small : length l.into.items ≤ l.limit + 1;
  consumed : Consumes (g.F.Read.remaining l.initial.file) (g.F.Read.remaining l.file) l.into.items;
}

abbrev pub decreases-loop-buffer : goal.decreases-loop-buffer
decreases-loop-buffer g l = l.limit + 1 - length l.into.items
