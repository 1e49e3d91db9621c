use Rattle.std.proofs.Common.{ℕ, Bool, ap, arith}
use Rattle.memory_tests.proofs.flat_stores.make_shared.Goals as goal

pub invariant_of-result : goal.invariant_of-result
invariant_of-result g c =
    let start = c.in_ok-store.ensures in
    let nodes = start.nodes in
    let line = start.line_bytes in
    let ticks = start.ticks in
    record {
      count = nodes;
      line = omega (arith, line);
      mapped = λ a. ap (λ (f : ℕ → Bool). f a) start.mapped;
      few = omega (arith, ticks);
    }
