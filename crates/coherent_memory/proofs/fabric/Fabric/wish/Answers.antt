use Rattle.std.proofs.Common.{sym, subst, ◌∙◌}
use Rattle.std.proofs.Math.Logic.{∥∥₁_map}
use Rattle.node_memory.specs.Nodes.{after_wish}
use Rattle.coherent_memory.specs.Fabrics.{system_with}
use Rattle.coherent_memory.specs.SystemInvariants.{HasKept, IsFine}
use Rattle.coherent_memory.specs.NodeRows.{nodes_in}
use Rattle.coherent_memory.specs.Systems.{System}
use Rattle.coherent_memory.proofs.Accessing.{wish-keeps}
use Rattle.coherent_memory.proofs.Fabrics.{with-nodes}
use Rattle.coherent_memory.proofs.fabric.Fabric.wish.Goals as goal

pub invariant_of-self : goal.invariant_of-self
invariant_of-self g c =
    let s = c.args.self.now in
    let p = c.args.p.0 in
    let carrier = g.C.Carrier.meaning s.carrier in
    let system : System = system_with s.homes s.nodes carrier in
    let same = with-nodes s.homes s.nodes c.wish.new.self carrier p (after_wish c.args.line.0 c.args.own (nodes_in s.nodes p)) c.wish.ensures.after in
    record {
      home_count = s.home_count;
      node_count = c.wish.ensures.count ∙ s.node_count;
      carried = s.carried;
      few = s.few;
      fine = ∥∥₁_map s.fine (λ (fine : IsFine s.count system). subst (IsFine s.count) (sym same) (wish-keeps c.steps_keep_lines.ensures.nothing c.tables_follow.ensures.wish s.count p c.args.line.0 c.args.own system fine c.requires.node c.requires.line).fine);
    }

pub returns-clause-kept : goal.returns-clause-kept
returns-clause-kept g c =
    let s = c.args.self.now in
    let p = c.args.p.0 in
    let carrier = g.C.Carrier.meaning s.carrier in
    let system : System = system_with s.homes s.nodes carrier in
    let same = with-nodes s.homes s.nodes c.wish.new.self carrier p (after_wish c.args.line.0 c.args.own (nodes_in s.nodes p)) c.wish.ensures.after in
    ∥∥₁_map s.fine (λ (fine : IsFine s.count system). subst (λ (t : System). HasKept s.count system t) (sym same) (wish-keeps c.steps_keep_lines.ensures.nothing c.tables_follow.ensures.wish s.count p c.args.line.0 c.args.own system fine c.requires.node c.requires.line))
