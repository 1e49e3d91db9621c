use Rattle.std.proofs.Common.{◌<◌, ◌≤◌, arith}
use Rattle.std.proofs.lemmas.Bool.{ltb-true, lt-ltb}
use Rattle.rsim_base.specs.Bytes.{count_of, gap_of}
use Rattle.rsim_base.specs.ByteSets.{Overlaps-from_gap, Overlaps-from_gap_back, gaps_of-Overlaps, count_of-bounds}
use Rattle.rsim_base.proofs.memory.overlap.Goals as goal

pub returns-then-gap-count-clause-bytes : goal.returns-then-gap-count-clause-bytes
returns-then-gap-count-clause-bytes c =
    let m = count_of-bounds c.args.m in
    (λ _. Overlaps-from_gap _ _ _ _ (omega arith) (omega arith) m.0 (omega arith), λ _. lt-ltb _ _ c.if-gap-count.true)

pub returns-else-gap-count-clause-bytes : goal.returns-else-gap-count-clause-bytes
returns-else-gap-count-clause-bytes c =
    let n = count_of-bounds c.args.n in
    let m = count_of-bounds c.args.m in
    let first_missed : count_of c.args.n ≤ gap_of c.args.a.0 c.args.b.0 = omega arith in (
      λ e. let near = ltb-true _ _ e in
          Overlaps-from_gap_back _ _ _ _ (omega arith) (omega arith) n.0 (omega (arith, near)),
      λ both. lt-ltb _ _
          (let here : (count_of c.args.m ≤ gap_of c.args.b.0 c.args.a.0) → gap_of c.args.a.0 c.args.b.0 < count_of c.args.n =
          gaps_of-Overlaps _ _ _ _ (omega arith) (omega arith) n.1 m.1 both in
          omega arith),
    )
