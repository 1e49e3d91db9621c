use Rattle.std.proofs.Common.{ℕ, ◌+◌, ◌<◌, List, length, set, arith, ap, ◌∙◌}
use Rattle.rsim_base.specs.Bytes.{count_of, byte_of}
use Rattle.cache_levels.proofs.Putting.{put_more}
use Rattle.cache_levels.proofs.bytes.put.Goals as goal

pub loop-b-preserved : goal.loop-b-preserved
loop-b-preserved c =
    let f = λ (b : ℕ). byte_of c.args.v (count_of c.args.n) b in
    let below : c.args.at + c.loop-b.b < length c.args.bytes.now = omega (arith, c.told-bytes) in
    ap (λ (y : ℕ). set c.loop-b.bytes (c.args.at + c.loop-b.b) y) c.cut.ensures
    ∙ (ap (λ (ys : List ℕ). set ys (c.args.at + c.loop-b.b) (f c.loop-b.b)) c.loop-b.invariant ∙ put_more f c.args.at c.loop-b.b c.args.bytes.now below)
