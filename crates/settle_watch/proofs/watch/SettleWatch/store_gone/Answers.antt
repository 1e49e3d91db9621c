use Rattle.std.proofs.Common.{◌≡◌, List, ◌++◌, length, take, drop, ap, ◌∙◌, arith}
use Rattle.std.proofs.Math.Seq.{take-append_seam}
use Rattle.settle_watch.specs.declared.watch.Watched.{Watched}
use Rattle.settle_watch.proofs.InOrder.{performed_in_order}
use Rattle.settle_watch.proofs.watch.SettleWatch.store_gone.Goals as goal

pub invariant_of-self : goal.invariant_of-self
invariant_of-self c =
    let left : List Watched = c.lose_store.new.loads in
    let behind = drop (length left) c.self.inside.loads.items in
    let count : c.self.inside.loads.len ≡ length left = omega arith in
    let all : take c.self.inside.loads.len (left ++ behind) ≡ left = ap (λ n. take n (left ++ behind)) count ∙ take-append_seam left behind in
    let order = performed_in_order c.args.seq c.self.inside.loads.items c.self.invariant.1 in
    (omega arith, rw (all, c.lose_store.ensures, c.as_mut_slice.ensures.value) order)
