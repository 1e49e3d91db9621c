use Rattle.std.proofs.Common.{refl}
use Rattle.coherent_memory.specs.MemoryInvariants.{shape_of}
use Rattle.coherent_memory.proofs.Making.{AreMade, made-small, made-start, made-whole}
use Rattle.coherent_memory.proofs.Memories.{fabric-sound}
use Rattle.coherent_memory.proofs.memory.CoherentMemory.make.Goals as goal

pub invariant_of-result : goal.invariant_of-result
invariant_of-result g c =
    let f = c.in_ok-fabric.fabric in
    let first = c.in_ok-fabric.ensures in
    let laws = c.lines_stay_coherent.ensures in
    let made : AreMade g.C.Carrier.meaning c.args.image.now c.args.config.now f c.spans.result.now c.in-Ok.spans.items c.from.result = record {
      allowed = c.requires.allowed;
      first = first.first;
      count = first.count;
      ticks = first.ticks;
      copied = c.in-Ok.ensures.items;
      spans = c.spans.ensures;
      line = c.from.ensures;
    } in
    let small = made-small laws.lists laws.order laws.current g.C.Carrier.meaning c.args.image.now c.args.config.now f c.spans.result.now c.in-Ok.spans.items c.from.result made in
    record {
      whole = made-whole laws.lists laws.order laws.current g.C.Carrier.meaning c.args.image.now c.args.config.now f c.spans.result.now c.in-Ok.spans.items c.from.result made;
      sound = fabric-sound c.tables_follow.ensures.held laws.alone g.C.Carrier.meaning f (shape_of f.count c.in-Ok.spans.items c.from.result) 0 refl f.node_count f.fine small;
    }

pub returns : goal.returns
returns g c =
    let first = c.in_ok-fabric.ensures in
    let laws = c.lines_stay_coherent.ensures in
    made-start laws.lists laws.order laws.current g.C.Carrier.meaning c.args.image.now c.args.config.now c.in_ok-fabric.fabric c.spans.result.now c.in-Ok.spans.items c.from.result (record {
      allowed = c.requires.allowed;
      first = first.first;
      count = first.count;
      ticks = first.ticks;
      copied = c.in-Ok.ensures.items;
      spans = c.spans.ensures;
      line = c.from.ensures;
    })
