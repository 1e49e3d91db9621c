use Rattle.std.proofs.Common.{arith}
use Rattle.directory.specs.HomeParts.{letters_in}
use Rattle.machine_config.specs.Sizes.{sizes_of}
use Rattle.directory.proofs.Starting.{from-none, known-fresh}
use Rattle.directory.proofs.home.Home.make.Goals as goal

pub invariant_of-result : goal.invariant_of-result
invariant_of-result c =
    let n = c.args.config.now.processors in
    let sizes = sizes_of c.args.config.now c.requires.allowed in
    let nodes = sizes.processors.1 in
    record {
      few = omega (arith, nodes);
      known = known-fresh n c.args.image.now c.of-share.result c.in_ok-records.records c.in_ok-records.ensures.fresh;
      asked = from-none n (letters_in c.in_ok-waiting.waiting) c.in_ok-waiting.ensures.none;
      places = omega (arith, c.in_ok-waiting.ensures.most);
    }
