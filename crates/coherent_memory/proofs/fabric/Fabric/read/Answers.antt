use Rattle.std.proofs.Common.{◌<◌, sym, subst, ◌∙◌}
use Rattle.std.proofs.Math.Logic.{∥∥₁_map}
use Rattle.node_memory.specs.Nodes.{after_read}
use Rattle.coherent_memory.specs.Fabrics.{system_with}
use Rattle.coherent_memory.specs.SystemInvariants.{HasKept, IsFine}
use Rattle.coherent_memory.specs.NodeRows.{nodes_in}
use Rattle.coherent_memory.specs.Systems.{System}
use Rattle.coherent_memory.proofs.Accessing.{read-keeps}
use Rattle.coherent_memory.proofs.Fabrics.{nodes-sound, with-nodes}
use Rattle.coherent_memory.proofs.fabric.Fabric.read.Goals as goal

pub invariant_of-self : goal.invariant_of-self
invariant_of-self g c =
    let s = c.args.self.now in
    let p = c.args.p.0 in
    let carrier = g.C.Carrier.meaning s.carrier in
    let system : System = system_with s.homes s.nodes carrier in
    let sound = nodes-sound s.nodes p (subst (λ n. p < n) (sym s.node_count) c.requires.node) in
    let same = with-nodes s.homes s.nodes c.read.new.self carrier p (after_read c.args.a.0 (nodes_in s.nodes p)) c.read.ensures.after in
    record {
      home_count = s.home_count;
      node_count = c.read.ensures.count ∙ s.node_count;
      carried = s.carried;
      few = s.few;
      fine = ∥∥₁_map s.fine (λ (fine : IsFine s.count system). subst (IsFine s.count) (sym same) (read-keeps c.steps_keep_lines.ensures.nothing c.tables_follow.ensures.read s.count p c.args.a.0 system fine c.requires.node sound).fine);
    }

pub returns-clause-kept : goal.returns-clause-kept
returns-clause-kept g c =
    let s = c.args.self.now in
    let p = c.args.p.0 in
    let carrier = g.C.Carrier.meaning s.carrier in
    let system : System = system_with s.homes s.nodes carrier in
    let sound = nodes-sound s.nodes p (subst (λ n. p < n) (sym s.node_count) c.requires.node) in
    let same = with-nodes s.homes s.nodes c.read.new.self carrier p (after_read c.args.a.0 (nodes_in s.nodes p)) c.read.ensures.after in
    ∥∥₁_map s.fine (λ (fine : IsFine s.count system). subst (λ (t : System). HasKept s.count system t) (sym same) (read-keeps c.steps_keep_lines.ensures.nothing c.tables_follow.ensures.read s.count p c.args.a.0 system fine c.requires.node sound))
