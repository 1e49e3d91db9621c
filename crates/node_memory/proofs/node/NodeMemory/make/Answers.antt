use Rattle.std.proofs.Common.{◌≡◌, map, sym, ap, subst, ◌∙◌}
use Rattle.node_memory.specs.Nodes.{empty_node}
use Rattle.node_memory.specs.NodeParts.{mail_of, node_with}
use Rattle.node_memory.specs.Sound.{IsSound}
use Rattle.node_memory.proofs.Empty.{sound-empty}
use Rattle.node_memory.proofs.node.NodeMemory.make.Goals as goal

pub invariant_of-result : goal.invariant_of-result
invariant_of-result c =
    let config = c.args.config.now in
    let made = c.in_ok-make.ensures in
    let empty = sound-empty config c.args.p.0 c.in_ok-make.field-0.levels c.in_ok-make.field-0.misses c.requires made.levels made.misses made.sound in
    let mails = ap (map (mail_of config.processors)) c.in_ok-make-2.ensures in
    let node : record (empty_node config c.args.p.0) { levels = c.in_ok-make.field-0.levels; misses = c.in_ok-make.field-0.misses }
    ≡ node_with c.args.p config.processors config.l2_latency c.in_ok-make.field-0 c.new.result c.new-2.result c.in_ok-make-2.field-0 =
    λ i. record (empty_node config c.args.p.0) { levels = c.in_ok-make.field-0.levels; misses = c.in_ok-make.field-0.misses; wishes = sym c.new.ensures i; coming = sym c.new-2.ensures i; outbox = sym mails i } in
    record { sound = subst IsSound node empty; bytes = ap (λ l. l.line_bytes) made.levels ∙ sym c.from.ensures }
