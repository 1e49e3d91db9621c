-- While the youngest is not older than the mark it goes; then all are older.
use Rattle.std.proofs.Common.{◌≡◌, refl, sym, ap, ◌∙◌, filter, nat_lt, true, false}
use Rattle.std.proofs.lemmas.List.Sorted.{IsNonDecreasingBy-take}
use Rattle.circular_buffer.specs.Buffer.{Buffer, last_item}
use Rattle.branch_predict.specs.declared.return_stack.Pushed.{Pushed}
use Rattle.branch_predict.specs.Parts.{is_from}
use Rattle.branch_predict.proofs.Squashes.{filter-young, filter-old}
use Rattle.branch_predict.proofs.return_stack.drop_from.Goals as goal

pub loop-stack-preserved : goal.loop-stack-preserved
loop-stack-preserved c =
    let young : is_from c.args.mark (last_item c.loop-stack.stack.items) ≡ true = cc in
    record {
      rising = rw c.pop_back.ensures.items (IsNonDecreasingBy-take (λ (p : Pushed). p.number) _ _ c.loop-stack.invariant.rising);
      left = ap (λ (b : Buffer Pushed). filter (λ (p : Pushed). nat_lt p.number c.args.mark) b.items) c.pop_back.ensures.items ∙ filter-young c.args.mark c.loop-stack.stack.items _ refl young ∙ c.loop-stack.invariant.left;
      places = ap (λ (b : Buffer Pushed). b.capacity) c.pop_back.ensures.items ∙ c.loop-stack.invariant.places;
    }

pub returns : goal.returns
returns c =
    let old : is_from c.args.mark (last_item c.loop-stack.stack.items) ≡ false = cc in
    λ i. record {
      items = (sym (filter-old c.args.mark c.loop-stack.stack.items _ refl old c.loop-stack.invariant.rising) ∙ c.loop-stack.invariant.left) i;
      capacity = c.loop-stack.invariant.places i;
    }
