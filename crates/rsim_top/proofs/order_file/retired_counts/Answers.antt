use Rattle.std.proofs.Common.{◌≡◌, ◌++◌, ◌∷◌, [], ap, sym, ◌∙◌, arith, rules}
use Rattle.rsim_top.specs.Machine.{counts_of, shared_view}
use Rattle.rsim_top.proofs.Texts.{IsOf-map, count_of, counts_from, counts_put, put_more}
use Rattle.rsim_top.proofs.order_file.retired_counts.Goals as goal

pub loop-p-preserved : goal.loop-p-preserved
loop-p-preserved c =
    let v = shared_view c.args.machine.now in
    let pushed : c.push.new.self.items ≡ c.loop-p.counts.items ++ c.retired.result ∷ [] = search rules in
    put_more count_of counts_from counts_put v.cores c.loop-p.p c.loop-p.counts.items c.push.new.self.items (counts_of v) (omega arith)
    (IsOf-map v.cores c.loop-p.p (λ d. d.retired ≡ c.retired.result) (λ d. c.push.new.self.items ≡ c.loop-p.counts.items ++ count_of c.loop-p.p d)
    (λ d is. pushed ∙ ap (λ n. c.loop-p.counts.items ++ n ∷ []) (sym is)) (omega arith) c.retired.ensures) c.loop-p.invariant
