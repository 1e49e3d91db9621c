use Rattle.std.proofs.Common.{arith}
use Rattle.machine_config.specs.Sizes.{sizes_of}
use Rattle.memory_contracts.proofs.mesh.Mesh.make.Goals as goal

pub packet_flits-requires-clause-some : goal.packet_flits-requires-clause-some
packet_flits-requires-clause-some c = let flits = (sizes_of c.args.config.now c.requires).flit_bytes.0 in omega arith

pub packet_flits-requires-clause-few : goal.packet_flits-requires-clause-few
packet_flits-requires-clause-few c = ((sizes_of c.args.config.now c.requires).flit_bytes.1, omega arith)

pub packet_flits-requires-2-clause-some : goal.packet_flits-requires-2-clause-some
packet_flits-requires-2-clause-some c = let flits = (sizes_of c.args.config.now c.requires).flit_bytes.0 in omega arith

pub packet_flits-requires-2-clause-few : goal.packet_flits-requires-2-clause-few
packet_flits-requires-2-clause-few c = let sizes = sizes_of c.args.config.now c.requires in (sizes.flit_bytes.1, sizes.line.1)

pub invariant_of-result : goal.invariant_of-result
invariant_of-result c =
    let sizes = sizes_of c.args.config.now c.requires in
    let width = sizes.mesh_width.0 in
    let flits = sizes.flit_bytes.0 in
    record {
      columns = omega (arith, width);
      few = sizes.processors.1;
      flits = omega (arith, flits);
      bare = c.packet_flits.ensures;
      line = c.packet_flits-2.ensures;
    }
