use Rattle.std.proofs.Common.{arith}
use Rattle.machine_config.specs.Sizes.{sizes_of}
use Rattle.directory.proofs.share.Share.of.Goals as goal

pub invariant_of-result : goal.invariant_of-result
invariant_of-result c =
    let sizes = sizes_of c.args.config.now c.requires.allowed in
    let low = sizes.line.0 in
    let high = sizes.line.1 in
    let node = c.requires.node in
    record {
      some = omega (arith, low, c.from.ensures);
      few = omega (arith, high, c.from.ensures);
      node = omega (arith, node, c.from-2.ensures);
    }
