use Rattle.cycle_loop.specs.Machines.{machine_view}
use Rattle.cycle_loop.proofs.Keeping.{Closed-first, IsReady-taken, Stands-first}
use Rattle.cycle_loop.proofs.machine.Machine.take_final.Goals as goal

pub invariant_of-self : goal.invariant_of-self
invariant_of-self g c =
    let s = c.args.self.now in
    record { ready = IsReady-taken s.image s.line_bytes (machine_view s.processors.items (g.M.CoherentStore.meaning s.store) s.log.places s.cycles) c.pop_final.new.self.places s.ready c.pop_final.ensures.places }

pub returns-clause-stands : goal.returns-clause-stands
returns-clause-stands g c model taken stands =
    let s = c.args.self.now in
    Stands-first s.image model taken (machine_view s.processors.items (g.M.CoherentStore.meaning s.store) s.log.places s.cycles) c.pop_final.new.self.places c.pop_final.result c.pop_final.ensures.taken c.pop_final.ensures.places stands

pub returns-clause-fits : goal.returns-clause-fits
returns-clause-fits g c model taken closed =
    let s = c.args.self.now in
    Closed-first s.image model taken (machine_view s.processors.items (g.M.CoherentStore.meaning s.store) s.log.places s.cycles) c.pop_final.new.self.places c.pop_final.result c.pop_final.ensures.taken c.pop_final.ensures.places closed
