use Rattle.std.proofs.Common.{List, take, ap, subst, sym, ◌∙◌, arith}
use Rattle.circular_buffer.specs.Buffer.{Buffer}
use Rattle.memory_queue.specs.Rows.{AreRows}
use Rattle.memory_queue.specs.declared.queued.Queued.{Queued}
use Rattle.memory_queue.proofs.queue.MemoryQueue.cut_after.Goals as goal

pub invariant_of-self : goal.invariant_of-self
invariant_of-self c =
    let old = c.self.inside.accesses.items in
    let places = ap (λ (b : Buffer Queued). b.capacity) c.drop_after.ensures.left in (
      c.drop_after.ensures.rising,
      omega (arith, c.self.invariant.1, places),
      omega (arith, c.self.invariant.1, places, c.len.ensures.len, c.len.ensures.within),
      subst (λ (xs : List Queued). AreRows c.cut.new.self xs) (ap (λ n. take n old) c.len.ensures.len ∙ sym c.drop_after.ensures.oldest) (c.cut.ensures old c.self.invariant.3),
    )
