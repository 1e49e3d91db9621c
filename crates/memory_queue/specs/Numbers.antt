-- Numbers that are below the next one, as the accesses join.
use Rattle.std.proofs.Common.{ℕ, ◌+◌, ◌<◌, ◌++◌, ◌∷◌, [], Bool, true, false, cond, All, arith}
use Rattle.std.proofs.lemmas.List.Elements.{All-push}
use Rattle.rsim_base.specs.declared.memory.Kind.{Kind}
use Rattle.rsim_base.specs.declared.memory.Size.{Size}
use Rattle.order_axioms.specs.declared.counting.Fences.{Fences}
use Rattle.memory_queue.specs.Queues.{QueueView, has_place, joining, pushed}
use Rattle.memory_queue.specs.declared.queued.Queued.{Queued}

-- all are below the next number after one more has it
pub below-pushed : (seq : ℕ) (kind : Kind) (size : Size) (fences : Fences) (q : QueueView) → All (λ (x : Queued). x.seq < seq) q.accesses →
    All (λ (x : Queued). x.seq < seq + 1) (pushed seq kind size fences q).accesses
below-pushed seq kind size fences q below = by (has_place q)
  where
    wider : All (λ (x : Queued). x.seq < seq + 1) q.accesses
    wider k d within = omega (arith, below k d within)

    by : (b : Bool) → All (λ (x : Queued). x.seq < seq + 1) (cond b (record q { accesses = q.accesses ++ joining seq kind size fences ∷ [] }) q).accesses
    by true = All-push (λ (x : Queued). x.seq < seq + 1) q.accesses (joining seq kind size fences) wider (omega arith)
    by false = wider
