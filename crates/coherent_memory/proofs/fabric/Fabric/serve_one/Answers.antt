use Rattle.std.proofs.Common.{sym, subst, ◌∙◌}
use Rattle.std.proofs.Math.Logic.{∥∥₁_map}
use Rattle.coherent_memory.specs.Fabrics.{system_with}
use Rattle.coherent_memory.specs.SystemInvariants.{IsFine}
use Rattle.coherent_memory.specs.Systems.{System}
use Rattle.coherent_memory.proofs.Fabrics.{with-homes}
use Rattle.coherent_memory.proofs.Serving.{served-fine}
use Rattle.coherent_memory.proofs.fabric.Fabric.serve_one.Goals as goal

pub invariant_of-self : goal.invariant_of-self
invariant_of-self g c =
    let s = c.args.self.now in
    let p = c.args.p.0 in
    let carrier = g.C.Carrier.meaning s.carrier in
    let system : System = system_with s.homes s.nodes carrier in
    let (home, serves, is) = c.serve.ensures.serves in
    let same = with-homes s.homes c.serve.new.self s.nodes carrier p home is in
    record {
      home_count = c.serve.ensures.count ∙ s.home_count;
      node_count = s.node_count;
      carried = s.carried;
      few = s.few;
      fine = ∥∥₁_map s.fine (λ (fine : IsFine s.count system). subst (IsFine s.count) (sym same) (served-fine c.steps_keep_lines.ensures.serving s.count p c.args.now c.args.line.0 home system c.serve.result fine c.requires.node serves));
    }
