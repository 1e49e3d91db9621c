use Rattle.std.proofs.Common.{◌≤◌, arith}
use Rattle.cycle_loop.specs.Machines.{machine_view}
use Rattle.cycle_loop.specs.Ready.{views_of}
use Rattle.cycle_loop.proofs.Keeping.{IsAtStart-made, IsReady-start}
use Rattle.machine_config.specs.Sizes.{sizes_of}
use Rattle.cycle_loop.proofs.Starting.{Stands-start}
use Rattle.cycle_loop.proofs.machine.Machine.make.Goals as goal

pub overflow_cast-config : goal.overflow_cast-config
overflow_cast-config g c =
    let nodes = (sizes_of c.args.config c.requires.allowed).processors.1 in
    omega arith

pub boot_all-requires : goal.boot_all-requires
boot_all-requires g c = (sizes_of c.args.config c.requires.allowed).processors.1

pub invariant_of-result : goal.invariant_of-result
invariant_of-result g c =
    let sizes = sizes_of c.args.config c.requires.allowed in
    record {
      ready = IsReady-start c.args.image c.args.config c.from.result (g.M.CoherentStore.meaning c.args.store) (views_of c.in_ok-processors.processors.items) c.in_ok-log.log.places
          c.requires.serves c.in_ok-processors.ensures.count sizes.processors.1 c.from.ensures sizes.line.0 c.in_ok-log.ensures c.in_ok-processors.ensures.sound c.in_ok-processors.ensures.first;
    }

pub returns-clause-start : goal.returns-clause-start
returns-clause-start g c =
    IsAtStart-made c.args.image c.args.config (g.M.CoherentStore.meaning c.args.store) (views_of c.in_ok-processors.processors.items) c.in_ok-log.log.places
    (g.met.M.CoherentStore.sound c.args.store) c.requires.serves c.in_ok-processors.ensures.count c.in_ok-log.ensures c.in_ok-processors.ensures.first

pub returns-clause-stands : goal.returns-clause-stands
returns-clause-stands g c model =
    let cores = views_of c.in_ok-processors.processors.items in
    let v = g.M.CoherentStore.meaning c.args.store in
    Stands-start c.args.image model (machine_view c.in_ok-processors.processors.items v c.in_ok-log.log.places 0)
    (IsAtStart-made c.args.image c.args.config v cores c.in_ok-log.log.places (g.met.M.CoherentStore.sound c.args.store) c.requires.serves c.in_ok-processors.ensures.count c.in_ok-log.ensures c.in_ok-processors.ensures.first)
