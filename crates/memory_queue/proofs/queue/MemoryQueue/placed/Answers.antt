use Rattle.std.proofs.Common.{true, refl, sym, ◌∙◌}
use Rattle.memory_queue.proofs.queue.MemoryQueue.placed.Goals as goal

pub returns-in-Some : goal.returns-in-Some
returns-in-Some c = c.put.ensures ∙ sym (c.in-Some.ensures.changed (λ x. record x { placed = true }))

pub returns-in_default : goal.returns-in_default
returns-in_default c = sym (c.in_default.ensures.none refl (λ x. record x { placed = true }))
