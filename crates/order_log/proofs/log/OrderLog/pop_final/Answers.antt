use Rattle.std.proofs.Common.{refl, sym, ◌∙◌, arith}
use Rattle.order_log.specs.declared.slots.State.TheVariants.{Retired}
use Rattle.order_log.proofs.Kept.{AreListed-same, SameEntries-drop}
use Rattle.order_log.proofs.log.OrderLog.pop_final.Goals as goal

pub invariant_of-self-2 : goal.invariant_of-self-2
invariant_of-self-2 c =
    let l = c.self.inside in
    let slots = c.skip_dropped.new.slots.items in
    let first = c.skip_dropped.new.first in
    let retired = sym c.is_front.ensures ∙ c.if-not-is_front.false in
    let skipped = AreListed-same l.first first l.slots.items slots l.waiting.lists c.self.invariant.0 c.skip_dropped.ensures.entries in
    (rw c.pop_front.ensures.rest (AreListed-same first _ slots _ l.waiting.lists skipped (SameEntries-drop first slots Retired refl retired)), omega arith, omega arith)
