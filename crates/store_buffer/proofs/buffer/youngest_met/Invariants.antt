use Rattle.std.proofs.Common.{◌≡◌, ℕ, ◌<◌, ◌≤◌, false, length}
use Rattle.store_buffer.specs.Buffers.{is_met_at}
use Rattle.store_buffer.proofs.buffer.youngest_met.Given as goal

abbrev pub invariant-loop-k : goal.invariant-loop-k
invariant-loop-k l = (j : ℕ) → l.k ≤ j → j < length l.stores → is_met_at l.a l.n l.stores j ≡ false
