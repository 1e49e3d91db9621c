-- The start, a step's place, its fault, and a step more.
use Rattle.std.proofs.Common.{◌≡◌, ◌+◌, ◌++◌, length, subst, sym, inr, ◌∙◌, arith}
use Rattle.std.proofs.lemmas.Result.{err_from_is_err_and}
use Rattle.rsim_base.specs.Limits.{max_steps}
use Rattle.order_checker.specs.Programs.{kept, IsReplaying}
use Rattle.order_checker.proofs.Replaying.{next_fault, replaying_start, replaying_more, place_below}
use Rattle.order_checker.proofs.replay.replay.Goals as goal

pub loop-s-init : goal.loop-s-init
loop-s-init c =
    replaying_start c.args.image.now c.args.processors c.args.lines.now c.args.p.0 c.boot-arch.result c.new.result.items c.new-2.result.items c.boot-arch.ensures.value c.boot-arch.ensures.sound c.new.ensures.items c.new-2.ensures.items

pub next-requires-clause-place : goal.next-requires-clause-place
next-requires-clause-place c =
    place_below c.args.lines.now c.args.p.0 c.len-i.result max_steps c.find-place.result (c.find-place.ensures ∙ c.requires.table c.len-i.result) c.requires.lines

pub next-requires-clause-within : goal.next-requires-clause-within
next-requires-clause-within c =
    place_below c.args.lines.now c.args.p.0 c.len-i.result (length c.args.lines.now) c.find-place.result (c.find-place.ensures ∙ c.requires.table c.len-i.result) (omega arith)

pub returns-in_err-act-clause-fault : goal.returns-in_err-act-clause-fault
returns-in_err-act-clause-fault c =
    let was = c.loop-s.invariant in
    let count : length c.loop-s.program.places.items ≡ c.len-i.result = omega arith in
    let p = err_from_is_err_and c.from_residual.result c.from_residual.ensures.1 in
    rw (p.1, p.2) (inr (next_fault c.args.image.now c.args.processors c.args.lines.now c.args.p.0 c.loop-s.s c.args.steps c.len-i.result c.find-place.result c.loop-s.arch c.in_err-act.field-0.0 was.so_far.ran was.so_far.is was.state
    (sym was.so_far.made.count ∙ count) (c.find-place.ensures ∙ c.requires.table c.len-i.result) c.in_err-act.ensures.fault c.loop-s-test.true))

pub loop-s-preserved : goal.loop-s-preserved
loop-s-preserved c =
    let was = c.loop-s.invariant in
    let places = c.loop-s.program.places.items in
    let fences = c.loop-s.program.fences.items in
    let count : length c.loop-s.program.places.items ≡ c.len-i.result = omega arith in
    subst (λ xs. IsReplaying c.args.image.now c.args.processors c.args.lines.now c.args.p.0 (c.loop-s.s + 1) c.next.new.arch c.keep.new.now xs c.keep.new.program.fences.items) (sym c.in_ok-keep.ensures.places)
    (subst (λ xs. IsReplaying c.args.image.now c.args.processors c.args.lines.now c.args.p.0 (c.loop-s.s + 1) c.next.new.arch c.keep.new.now (places ++ kept c.in_ok-act.act c.find-place.result) xs) (sym c.in_ok-keep.ensures.fences)
    (replaying_more c.args.image.now c.args.processors c.args.lines.now c.args.p.0 c.loop-s.s c.len-i.result c.loop-s.arch c.next.new.arch c.loop-s.now c.keep.new.now places fences c.find-place.result c.in_ok-act.act
    was count (c.find-place.ensures ∙ c.requires.table c.len-i.result) c.in_ok-act.ensures.step c.in_ok-act.ensures.sound c.in_ok-keep.ensures.count (c.in_ok-keep.ensures.low c.loop-s.s was.few_fences)))
