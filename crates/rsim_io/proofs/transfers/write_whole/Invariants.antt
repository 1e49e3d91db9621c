use Rattle.std.proofs.Common.{◌≡◌, ℕ, List, ◌++◌, length}
use Rattle.std.specs.Io.KnownBytes.{Appends}
use Rattle.rsim_io.proofs.transfers.write_whole.Given as goal

-- what is not left to write was written
abbrev pub invariant-loop-left : goal.invariant-loop-left
invariant-loop-left g l =
    (done : List ℕ) × (l.bytes ≡ done ++ l.left) × Appends (g.F.Write.contents l.initial.file) (g.F.Write.contents l.file) done

abbrev pub decreases-loop-left : goal.decreases-loop-left
decreases-loop-left g l = length l.left
