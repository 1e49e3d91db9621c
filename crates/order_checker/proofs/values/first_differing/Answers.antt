-- A byte more.
use Rattle.std.proofs.Common.{◌≡◌, ℕ, None, sym, subst, add-one, arith}
use Rattle.rsim_base.specs.Bytes.{count_of}
use Rattle.order_checker.specs.Firsts.{first}
use Rattle.order_checker.specs.Walking.{differs_from}
use Rattle.order_checker.proofs.FirstOnes.{first_found, first_none-more}
use Rattle.order_checker.proofs.values.first_differing.Goals as goal

pub returns-in-Some : goal.returns-in-Some
returns-in-Some c =
    let f = differs_from c.args.store.now c.args.place c.args.line.now in
    sym (first_found f c.loop-b.b (count_of c.args.line.now.size) c.in-Some.fault c.loop-b.invariant (sym c.in-Some.ensures) (omega arith))

pub loop-b-preserved : goal.loop-b-preserved
loop-b-preserved c =
    let f = differs_from c.args.store.now c.args.place c.args.line.now in
    subst (λ (k : ℕ). first f k ≡ None) (sym (add-one c.loop-b.b)) (first_none-more f c.loop-b.b c.loop-b.invariant (sym c.in-None.ensures))
