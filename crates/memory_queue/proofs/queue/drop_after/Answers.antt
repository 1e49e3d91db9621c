-- While the youngest has a greater number it goes; then none has.
use Rattle.std.proofs.Common.{◌≡◌, refl, sym, ap, ◌∙◌, filter, nat_le, true, false}
use Rattle.circular_buffer.specs.Buffer.{Buffer, last_item}
use Rattle.memory_queue.specs.Queues.{is_after}
use Rattle.memory_queue.specs.declared.queued.Queued.{Queued}
use Rattle.memory_queue.proofs.Cutting.{filter-after, filter-kept, oldest-less, rising-without_last}
use Rattle.memory_queue.proofs.queue.drop_after.Goals as goal

pub loop-accesses-preserved : goal.loop-accesses-preserved
loop-accesses-preserved c =
    let after : is_after c.args.seq (last_item c.loop-accesses.accesses.items) ≡ true = cc in
    record {
      rising = rw c.pop_back.ensures.items (rising-without_last _ c.loop-accesses.invariant.rising);
      left = ap (λ (b : Buffer Queued). filter (λ (x : Queued). nat_le x.seq c.args.seq) b.items) c.pop_back.ensures.items ∙ filter-after c.args.seq c.loop-accesses.accesses.items _ refl after ∙ c.loop-accesses.invariant.left;
      oldest = oldest-less c.loop-accesses.accesses.items c.args.accesses.now.items _ (ap (λ (b : Buffer Queued). b.items) c.pop_back.ensures.items) c.loop-accesses.invariant.oldest;
      places = ap (λ (b : Buffer Queued). b.capacity) c.pop_back.ensures.items ∙ c.loop-accesses.invariant.places;
    }

pub returns-clause-left : goal.returns-clause-left
returns-clause-left c =
    let kept : is_after c.args.seq (last_item c.loop-accesses.accesses.items) ≡ false = cc in
    λ i. record {
      items = (sym (filter-kept c.args.seq c.loop-accesses.accesses.items _ refl kept c.loop-accesses.invariant.rising) ∙ c.loop-accesses.invariant.left) i;
      capacity = c.loop-accesses.invariant.places i;
    }
