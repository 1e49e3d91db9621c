use Rattle.cycle_loop.specs.Machines.{machine_view}
use Rattle.cycle_loop.proofs.Closing.{Closed-from}
use Rattle.cycle_loop.proofs.machine.Machine.close.Goals as goal

pub returns-clause-fits : goal.returns-clause-fits
returns-clause-fits g c model taken stands =
    let s = c.args.self.now in
    Closed-from s.image model taken (machine_view s.processors.items (g.M.CoherentStore.meaning s.store) s.log.places s.cycles) stands
