use Rattle.std.proofs.Common.{arith}
use Rattle.cycle_loop.specs.Processors.{view_of}
use Rattle.cycle_loop.specs.Ready.{IsCounted}
use Rattle.cycle_loop.proofs.Looping.{AreCounted-at, AreSound-at, HasTurned-all, HasTurned-more, HasTurned-next}
use Rattle.cycle_loop.proofs.turns.take_turns.Goals as goal

pub turn-requires-clause-sound : goal.turn-requires-clause-sound
turn-requires-clause-sound g c =
    let initial = c.args.processors.now.items in
    let x = c.index_mut-processor.result.now in
    AreSound-at initial c.loop-p.p x c.requires.sound
    (HasTurned-next c.args.image.now (g.M.CoherentStore.meaning c.args.store.now) (g.M.CoherentStore.meaning c.loop-p.store) initial c.loop-p.processors.items c.args.log.now.places c.loop-p.log.places c.loop-p.log.spare c.loop-p.p x c.loop-p.invariant (omega arith) c.index_mut-processor.ensures.value)

pub turn-requires-clause-room : goal.turn-requires-clause-room
turn-requires-clause-room g c =
    let initial = c.args.processors.now.items in
    let x = c.index_mut-processor.result.now in
    c.requires.room c.loop-p.p x
    (HasTurned-next c.args.image.now (g.M.CoherentStore.meaning c.args.store.now) (g.M.CoherentStore.meaning c.loop-p.store) initial c.loop-p.processors.items c.args.log.now.places c.loop-p.log.places c.loop-p.log.spare c.loop-p.p x c.loop-p.invariant (omega arith) c.index_mut-processor.ensures.value)

pub turn-requires-clause-few : goal.turn-requires-clause-few
turn-requires-clause-few g c =
    let initial = c.args.processors.now.items in
    let x = c.index_mut-processor.result.now in
    let counted : IsCounted 7999999 (view_of x) = AreCounted-at 7999999 initial c.loop-p.p x c.requires.counted
    (HasTurned-next c.args.image.now (g.M.CoherentStore.meaning c.args.store.now) (g.M.CoherentStore.meaning c.loop-p.store) initial c.loop-p.processors.items c.args.log.now.places c.loop-p.log.places c.loop-p.log.spare c.loop-p.p x c.loop-p.invariant (omega arith) c.index_mut-processor.ensures.value) in
    omega (arith, counted.retired)

pub turn-requires-clause-fewer : goal.turn-requires-clause-fewer
turn-requires-clause-fewer g c =
    let initial = c.args.processors.now.items in
    let x = c.index_mut-processor.result.now in
    let counted : IsCounted 7999999 (view_of x) = AreCounted-at 7999999 initial c.loop-p.p x c.requires.counted
    (HasTurned-next c.args.image.now (g.M.CoherentStore.meaning c.args.store.now) (g.M.CoherentStore.meaning c.loop-p.store) initial c.loop-p.processors.items c.args.log.now.places c.loop-p.log.places c.loop-p.log.spare c.loop-p.p x c.loop-p.invariant (omega arith) c.index_mut-processor.ensures.value) in
    counted.accesses

pub loop-p-preserved : goal.loop-p-preserved
loop-p-preserved g c =
    HasTurned-more c.args.image.now (g.M.CoherentStore.meaning c.args.store.now) (g.M.CoherentStore.meaning c.loop-p.store) (g.M.CoherentStore.meaning c.turn.new.store) c.args.processors.now.items c.loop-p.processors.items
    c.args.log.now.places c.loop-p.log.places c.turn.new.log.places c.loop-p.log.spare c.turn.new.log.spare c.loop-p.p c.index_mut-processor.result.now c.turn.new.self c.loop-p.invariant (omega arith) c.index_mut-processor.ensures.value
    (record {
      rule = c.turn.ensures.rule;
      store = c.turn.ensures.store;
      sound = c.turn.ensures.sound;
      fewer = c.turn.ensures.fewer;
      retired = c.turn.ensures.retired;
      spare_left = c.turn.ensures.spare;
      numbers = c.turn.ensures.numbers;
    })

pub returns-clause-sound : goal.returns-clause-sound
returns-clause-sound g c =
    (HasTurned-all c.args.image.now (g.M.CoherentStore.meaning c.args.store.now) (g.M.CoherentStore.meaning c.loop-p.store) c.args.processors.now.items c.loop-p.processors.items c.args.log.now.places c.loop-p.log.places c.loop-p.log.spare c.loop-p.p c.loop-p.invariant (omega arith)).sound

pub returns-clause-counted : goal.returns-clause-counted
returns-clause-counted g c =
    (HasTurned-all c.args.image.now (g.M.CoherentStore.meaning c.args.store.now) (g.M.CoherentStore.meaning c.loop-p.store) c.args.processors.now.items c.loop-p.processors.items c.args.log.now.places c.loop-p.log.places c.loop-p.log.spare c.loop-p.p c.loop-p.invariant (omega arith)).counted

pub returns-clause-rule : goal.returns-clause-rule
returns-clause-rule g c =
    (HasTurned-all c.args.image.now (g.M.CoherentStore.meaning c.args.store.now) (g.M.CoherentStore.meaning c.loop-p.store) c.args.processors.now.items c.loop-p.processors.items c.args.log.now.places c.loop-p.log.places c.loop-p.log.spare c.loop-p.p c.loop-p.invariant (omega arith)).rule
