use Rattle.std.proofs.Common.{◌≡◌, ℕ, ◌<◌, ◌≤◌, false}
use Rattle.store_buffer.specs.Buffers.{is_free_at}
use Rattle.store_buffer.proofs.buffer.first_free.Given as goal

abbrev pub invariant-loop-k : goal.invariant-loop-k
invariant-loop-k l = (j : ℕ) → l.from ≤ j → j < l.k → is_free_at l.m l.stores j ≡ false
