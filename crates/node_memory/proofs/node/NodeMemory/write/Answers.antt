use Rattle.std.proofs.Common.{◌/◌, ap, sym, ◌∙◌}
use Rattle.cache_levels.specs.Levels.{touched_levels}
use Rattle.node_memory.specs.Nodes.{line_at}
use Rattle.node_memory.specs.NodeViews.{node_of}
use Rattle.node_memory.proofs.Below.{CacheLaws}
use Rattle.node_memory.proofs.Touching.{sound-written}
use Rattle.node_memory.proofs.node.NodeMemory.write.Goals as goal

pub invariant_of-self : goal.invariant_of-self
invariant_of-self c =
    let laws : CacheLaws = assumption in
    let s = c.args.self.now in
    let v = node_of s in
    let a = c.args.a.0 in
    let line = ap (λ l. l.0) c.line_of-line.ensures ∙ ap (λ n. a / n) (sym s.bytes) in
    let levels = c.touch.ensures.touched ∙ (ap (λ l. touched_levels l c.write.new.self) line ∙ ap (touched_levels (line_at v a)) c.write.ensures.written) in
    record { sound = sound-written laws a c.args.n c.args.v v c.touch.new.self s.sound levels c.touch.ensures.sound; bytes = ap (λ l. l.line_bytes) levels ∙ s.bytes }
