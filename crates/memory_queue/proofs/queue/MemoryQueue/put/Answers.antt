use Rattle.std.proofs.Common.{◌≡◌, List, Some, slice_get, ap, ◌∙◌, arith}
use Rattle.std.proofs.lemmas.List.{length-set}
use Rattle.std.proofs.lemmas.Option.{slice_get_within}
use Rattle.memory_queue.specs.Queues.{QueueView}
use Rattle.memory_queue.specs.declared.queued.Queued.{Queued}
use Rattle.memory_queue.proofs.Rising.{rising-set}
use Rattle.memory_queue.proofs.queue.MemoryQueue.put.Goals as goal

pub invariant_of-self-2 : goal.invariant_of-self-2
invariant_of-self-2 c =
    let (x, at, same) = c.requires in
    let xs = c.self.inside.accesses.items in
    let items = ap (λ (v : QueueView). v.accesses) c.self.view_is in
    let here : slice_get xs c.args.place ≡ Some x = ap (λ (ys : List Queued). slice_get ys c.args.place) items ∙ at in (
      rising-set xs c.args.place x c.args.access c.self.invariant.0 here same,
      c.self.invariant.1,
      omega (arith, c.self.invariant.2, length-set xs c.args.place c.args.access),
      c.put.ensures.changed xs (slice_get_within xs c.args.place x here) c.self.invariant.3,
    )
