use Rattle.std.proofs.Common.{◌<◌, length, set, get_or, false, arith, ap, sym, ◌∙◌}
use Rattle.settle_watch.specs.declared.watch.Watched.{Watched}
use Rattle.settle_watch.proofs.Performed.{performed_more, store_performed-same, store_performed-other}
use Rattle.settle_watch.proofs.watch.lose_store.Goals as goal
use Rattle.settle_watch.proofs.watch.lose_store.Goals.{then-load-seq, else-load-seq}

pub loop-load-preserved : goal.loop-load-preserved
loop-load-preserved c =
    let within : c.loop-load.load-index < length c.loop-load.loads = omega arith in
    let none : Watched = record { seq = 0; line = record { 0 = 0 }; from_store = false } in
    let load = get_or c.loop-load.loads c.loop-load.load-index none in
    let more = performed_more c.args.seq c.loop-load.load-index c.args.loads.now c.loop-load.loads none c.loop-load-test.true within c.loop-load.invariant in
    elim c.if-load-seq.branch [
      | then-load-seq w ↦ w.loads-is ∙ ap (set c.loop-load.loads c.loop-load.load-index) (sym (store_performed-same c.args.seq load w.if-load-seq.true)) ∙ more
      | else-load-seq w ↦ w.loads-is ∙ ap (set c.loop-load.loads c.loop-load.load-index) (sym (store_performed-other c.args.seq load w.if-load-seq.false)) ∙ more
    ]
