use Rattle.std.proofs.Common.{ap, arith}
use Rattle.memory_contracts.specs.Carrier.{CarrierView}
use Rattle.coherent_memory.specs.Fabrics.{system_with}
use Rattle.coherent_memory.specs.First.{IsFirst}
use Rattle.coherent_memory.specs.Systems.{System}
use Rattle.machine_config.specs.Sizes.{sizes_of}
use Rattle.coherent_memory.proofs.Starting.{fine-first}
use Rattle.coherent_memory.proofs.fabric.Fabric.make.Goals as goal

pub invariant_of-result : goal.invariant_of-result
invariant_of-result g c =
    let config = c.args.config.now in
    let homes = c.in_ok-make.field-0 in
    let nodes = c.in_ok-make-2.field-0 in
    let carrier = g.C.Carrier.meaning c.args.carrier in
    let sizes = sizes_of config c.requires.allowed in
    let s : System = system_with homes nodes carrier in
    let first : IsFirst c.args.image.now config s = record {
      homes = c.in_ok-make.ensures.start;
      nodes = c.in_ok-make-2.ensures.start;
      flights = ap (λ (v : CarrierView). v.flights) c.requires.carrier;
    } in
    let laws = c.lines_stay_coherent.ensures in
    record {
      home_count = c.in_ok-make.ensures.count;
      node_count = c.in_ok-make-2.ensures.count;
      carried = ap (λ (v : CarrierView). v.nodes) c.requires.carrier;
      few = sizes.processors.1;
      fine = ∣ fine-first laws.lists laws.order laws.current c.args.image.now config s (omega (arith, sizes.processors.0)) first ∣₁;
    }
