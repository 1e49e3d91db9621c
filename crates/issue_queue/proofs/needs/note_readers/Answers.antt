use Rattle.std.proofs.Common.{◌≡◌, ◌&&◌, ◌||◌, ◌==◌, ap, ◌∙◌, refl, sym, Bool, true, false, None, get_or, take, arith}
use Rattle.std.proofs.lemmas.List.Folds.{list_any_more}
use Rattle.ring_set.specs.Sets.{has}
use Rattle.issue_queue.specs.Needs.{is_need, needs_it, readers_at}
use Rattle.issue_queue.proofs.needs.note_readers.Goals as goal

one_more : (b x y z : Bool) → ((b && y) || ((b && x) || z)) ≡ ((b && (x || y)) || z)
one_more true true true z = refl
one_more true true false z = refl
one_more true false true z = refl
one_more true false false z = refl
one_more false x y z = refl

pub loop-need-preserved : goal.loop-need-preserved
loop-need-preserved c = record {
  readers = λ r j.
      let i = c.loop-need.need-index in
      let mine : Bool = j == c.args.place in
      let new : Bool = is_need r (get_or c.args.needs.now i None) in
      let before : Bool = needs_it r (take i c.args.needs.now) in
      let first : Bool = has (readers_at c.args.readers.now.items r) j in
      let now : has (readers_at c.note_reader.new.readers.items r) j ≡ ((mine && new) || has (readers_at c.loop-need.readers.items r) j) = c.note_reader.ensures.readers r j in
      let more = list_any_more (is_need r) c.args.needs.now i None (omega arith) in
      now
      ∙ ap (λ b. (mine && new) || b) (c.loop-need.invariant.readers r j)
      ∙ one_more mine before new first
      ∙ ap (λ b. (mine && b) || first) (sym more);
  len = omega arith;
}
