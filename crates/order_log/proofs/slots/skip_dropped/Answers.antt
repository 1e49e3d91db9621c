use Rattle.std.proofs.Common.{refl, sym, ap, ◌∙◌, arith}
use Rattle.order_log.specs.declared.slots.State.TheVariants.{Dropped}
use Rattle.order_log.specs.Slots.{places_of}
use Rattle.order_log.proofs.Kept.{SameEntries-drop}
use Rattle.order_log.proofs.Places.{places_of-drop}
use Rattle.order_log.proofs.slots.skip_dropped.Goals as goal

pub loop-slots-preserved : goal.loop-slots-preserved
loop-slots-preserved c =
    let was = c.loop-slots.invariant in
    let slots = c.loop-slots.slots.items in
    let dropped = sym c.is_front.ensures ∙ c.loop-slots-test.true in
    record {
      places = ap places_of c.pop_front-passed.ensures.rest ∙ (places_of-drop slots dropped ∙ was.places);
      entries = λ belongs. rw c.pop_front-passed.ensures.rest (SameEntries-drop c.loop-slots.first slots Dropped refl dropped belongs ∙ was.entries belongs);
      len = let len = c.pop_front-passed.ensures.len in omega arith;
      capacity = c.pop_front-passed.ensures.capacity ∙ was.capacity;
    }
