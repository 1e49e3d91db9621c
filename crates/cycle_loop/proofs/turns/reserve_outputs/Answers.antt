use Rattle.cycle_loop.proofs.Looping.{HasRoomBelow-all, HasRoomBelow-err, HasRoomBelow-more}
use Rattle.std.proofs.Common.{arith}
use Rattle.cycle_loop.proofs.turns.reserve_outputs.Goals as goal

pub returns-in_err-reserve-clause-views : goal.returns-in_err-reserve-clause-views
returns-in_err-reserve-clause-views c =
    HasRoomBelow-err c.args.processors.now.items c.loop-p.processors.items c.loop-p.p c.index_mut.result.now c.reserve.new.self c.loop-p.invariant (omega (arith, c.loop-p.invariant.count)) c.index_mut.ensures.value c.reserve.ensures.view

pub loop-p-preserved : goal.loop-p-preserved
loop-p-preserved c =
    HasRoomBelow-more c.args.processors.now.items c.loop-p.processors.items c.loop-p.p c.index_mut.result.now c.reserve.new.self c.loop-p.invariant (omega (arith, c.loop-p.invariant.count)) c.index_mut.ensures.value c.reserve.ensures.view c.in_ok-reserve.ensures.ok

pub returns-clause-room : goal.returns-clause-room
returns-clause-room c = HasRoomBelow-all c.args.processors.now.items c.loop-p.processors.items c.loop-p.p c.loop-p.invariant (omega (arith, c.loop-p.invariant.count))
