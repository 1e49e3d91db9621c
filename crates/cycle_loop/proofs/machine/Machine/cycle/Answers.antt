use Rattle.cycle_loop.specs.Ready.{views_of}
use Rattle.cycle_loop.specs.Machines.{machine_view}
use Rattle.cycle_loop.proofs.Keeping.{HasCycled, HasCycled-cycle, HasCycled-ready, HasCycled-stands, AreSound-views, cycled}
use Rattle.cycle_loop.proofs.Cycling.{CoreCycle-with_taken}
use Rattle.cycle_loop.proofs.Waiting.{CoreCycle-steps}
use Rattle.cycle_loop.proofs.machine.Machine.cycle.Goals as goal

pub take_turns-requires-clause-sound : goal.take_turns-requires-clause-sound
take_turns-requires-clause-sound g c =
    let s = c.args.self.now in
    AreSound-views s.image s.line_bytes (machine_view s.processors.items (g.M.CoherentStore.meaning s.store) s.log.places s.cycles) (views_of c.reserve_outputs.new.processors.items) s.ready c.reserve_outputs.ensures.views

pub invariant_of-self-2 : goal.invariant_of-self-2
invariant_of-self-2 g c =
    let meaning = g.M.CoherentStore.meaning in
    let s = c.args.self.now in
    let old = machine_view s.processors.items (meaning s.store) s.log.places s.cycles in
    let v = meaning c.tick.new.self in
    let w = meaning c.take_turns.new.store in
    let mid = c.reserve_outputs.new.processors.items in
    let new = c.take_turns.new.processors.items in
    let log = c.take_turns.new.log.places in
    let has : HasCycled s.image old v w c.tick.new.lost.items mid new c.reserve.new.self.places log = record {
      views = c.reserve_outputs.ensures.views;
      places = c.reserve.ensures.places;
      ticks = c.tick.ensures.ticks;
      rule = c.take_turns.ensures.rule;
      store = c.take_turns.ensures.store;
      count = c.take_turns.ensures.length;
      sound = c.take_turns.ensures.sound;
      counted = c.take_turns.ensures.counted;
      numbers = c.take_turns.ensures.numbers;
    } in
    record { ready = HasCycled-ready s.image s.line_bytes old v w c.tick.new.lost.items mid new c.reserve.new.self.places log s.ready has }

pub returns-clause-kept : goal.returns-clause-kept
returns-clause-kept g c =
    let meaning = g.M.CoherentStore.meaning in
    let s = c.args.self.now in
    let old = machine_view s.processors.items (meaning s.store) s.log.places s.cycles in
    let v = meaning c.tick.new.self in
    let w = meaning c.take_turns.new.store in
    let mid = c.reserve_outputs.new.processors.items in
    let new = c.take_turns.new.processors.items in
    let log = c.take_turns.new.log.places in
    let has : HasCycled s.image old v w c.tick.new.lost.items mid new c.reserve.new.self.places log = record {
      views = c.reserve_outputs.ensures.views;
      places = c.reserve.ensures.places;
      ticks = c.tick.ensures.ticks;
      rule = c.take_turns.ensures.rule;
      store = c.take_turns.ensures.store;
      count = c.take_turns.ensures.length;
      sound = c.take_turns.ensures.sound;
      counted = c.take_turns.ensures.counted;
      numbers = c.take_turns.ensures.numbers;
    } in
    HasCycled-stands s.image s.line_bytes old v w c.tick.new.lost.items mid new c.reserve.new.self.places log s.ready has

pub returns-clause-steps : goal.returns-clause-steps
returns-clause-steps g c =
    let meaning = g.M.CoherentStore.meaning in
    let s = c.args.self.now in
    let old = machine_view s.processors.items (meaning s.store) s.log.places s.cycles in
    let v = meaning c.tick.new.self in
    let w = meaning c.take_turns.new.store in
    let mid = c.reserve_outputs.new.processors.items in
    let new = c.take_turns.new.processors.items in
    let log = c.take_turns.new.log.places in
    let has : HasCycled s.image old v w c.tick.new.lost.items mid new c.reserve.new.self.places log = record {
      views = c.reserve_outputs.ensures.views;
      places = c.reserve.ensures.places;
      ticks = c.tick.ensures.ticks;
      rule = c.take_turns.ensures.rule;
      store = c.take_turns.ensures.store;
      count = c.take_turns.ensures.length;
      sound = c.take_turns.ensures.sound;
      counted = c.take_turns.ensures.counted;
      numbers = c.take_turns.ensures.numbers;
    } in
    CoreCycle-steps s.image old (cycled old w new log) (HasCycled-cycle s.image old v w c.tick.new.lost.items mid new c.reserve.new.self.places log has)

pub returns-clause-put_back : goal.returns-clause-put_back
returns-clause-put_back g c taken =
    let meaning = g.M.CoherentStore.meaning in
    let s = c.args.self.now in
    let old = machine_view s.processors.items (meaning s.store) s.log.places s.cycles in
    let v = meaning c.tick.new.self in
    let w = meaning c.take_turns.new.store in
    let mid = c.reserve_outputs.new.processors.items in
    let new = c.take_turns.new.processors.items in
    let log = c.take_turns.new.log.places in
    let has : HasCycled s.image old v w c.tick.new.lost.items mid new c.reserve.new.self.places log = record {
      views = c.reserve_outputs.ensures.views;
      places = c.reserve.ensures.places;
      ticks = c.tick.ensures.ticks;
      rule = c.take_turns.ensures.rule;
      store = c.take_turns.ensures.store;
      count = c.take_turns.ensures.length;
      sound = c.take_turns.ensures.sound;
      counted = c.take_turns.ensures.counted;
      numbers = c.take_turns.ensures.numbers;
    } in
    CoreCycle-with_taken s.image taken old (cycled old w new log) (HasCycled-cycle s.image old v w c.tick.new.lost.items mid new c.reserve.new.self.places log has)
