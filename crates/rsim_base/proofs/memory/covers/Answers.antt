use Rattle.std.proofs.Common.{arith}
use Rattle.std.proofs.lemmas.Bool.{leb-true, le-leb, ltb-true}
use Rattle.rsim_base.specs.ByteSets.{Covers-from_gap, gap_of-Covers, count_of-bounds}
use Rattle.rsim_base.proofs.memory.covers.Goals as goal

pub returns-then-start-count : goal.returns-then-start-count
returns-then-start-count c =
    let n = count_of-bounds c.args.n in
    let m = count_of-bounds c.args.m in (
      λ e. let within = leb-true _ _ e in
          Covers-from_gap _ _ _ _ (omega arith) (omega arith) (omega (arith, within)),
      λ all. le-leb _ _ (let within = gap_of-Covers _ _ _ _ (omega arith) (omega arith) n.1 m.1 m.0 all in omega (arith, within)),
    )

pub returns-else-start-count : goal.returns-else-start-count
returns-else-start-count c =
    let n = count_of-bounds c.args.n in
    let m = count_of-bounds c.args.m in (
      λ e. let near = ltb-true _ _ e in absurd (omega (arith, near)),
      λ all. let within = gap_of-Covers _ _ _ _ (omega arith) (omega arith) n.1 m.1 m.0 all in absurd (omega (arith, within)),
    )
