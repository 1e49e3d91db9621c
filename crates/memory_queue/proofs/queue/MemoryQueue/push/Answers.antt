use Rattle.std.proofs.Common.{◌≡◌, ◌<◌, ◌≤◌, All, false, true, length, Result, Ok, Err, OnOk, is_ok, is_err, refl, subst, sym, ap, ◌∙◌, arith}
use Rattle.std.proofs.lemmas.List.{length_push}
use Rattle.circular_buffer.specs.Buffer.{Buffer}
use Rattle.memory_queue.specs.Queues.{AreRising, QueueView}
use Rattle.memory_queue.specs.Rows.{AreRows}
use Rattle.memory_queue.specs.declared.queued.Queued.{Queued}
use Rattle.rsim_base.specs.Limits.{max_in_flight}
use Rattle.memory_queue.proofs.Rising.{rising-push}
use Rattle.memory_queue.proofs.queue.MemoryQueue.push.Goals as goal

ok-of : {T E : Type 0} (P : Type 0) (r : Result T E) → is_err r ≡ false → OnOk r P → P
ok-of P (Ok x) is on = on
ok-of P (Err e) is on = absurd cc

is_ok-of : {T E : Type 0} (r : Result T E) → is_err r ≡ false → is_ok r ≡ true
is_ok-of (Ok x) is = refl
is_ok-of (Err e) is = absurd cc

pub invariant_of-self-2 : goal.invariant_of-self-2
invariant_of-self-2 c =
    let xs = c.self.inside.accesses.items in
    let y = c.joining-access.result in
    let done : is_err c.try_push_back.result ≡ false = sym c.is_err.ensures.value ∙ c.if-is_err.false in
    let after = ok-of _ c.try_push_back.result done c.try_push_back.ensures.ok in
    let room = c.try_push_back.ensures.variant.0 (is_ok-of c.try_push_back.result done) in
    let below = subst (λ (v : QueueView). All (λ (x : Queued). x.seq < c.args.seq) v.accesses) (sym c.self.view_is) c.requires in
    let number = ap (λ (x : Queued). x.seq) c.joining-access.ensures in
    subst (λ (b : Buffer Queued). AreRising b.items × (b.capacity ≤ max_in_flight) × (length b.items ≤ 128) × AreRows c.put.new.self b.items) (sym after) (
      rising-push xs y c.self.invariant.0 (λ k d lt. omega (arith, below k d lt, number)),
      c.self.invariant.1,
      omega (arith, room, c.self.invariant.1, length_push xs y),
      c.put.ensures.joined xs c.len-place.ensures.len c.self.invariant.3,
    )
