use Rattle.std.proofs.Common.{◌≡◌, true, List, sym, subst, ◌∙◌}
use Rattle.cache_levels.specs.Levels.{LevelsView}
use Rattle.node_memory.specs.Nodes.{Coming}
use Rattle.node_memory.specs.NodeViews.{node_of}
use Rattle.node_memory.specs.NodeParts.{coming_in}
use Rattle.node_memory.specs.Sound.{are_rising}
use Rattle.node_memory.proofs.Fetched.{arrive-rising}
use Rattle.node_memory.proofs.Below.{CacheLaws}
use Rattle.node_memory.proofs.Fits.{fit-sound, sound-with}
use Rattle.node_memory.proofs.Touching.{AreAlike, arrive-alike, fit-alike}
use Rattle.node_memory.proofs.node.NodeMemory.bring_near.Goals as goal

pub invariant_of-self : goal.invariant_of-self
invariant_of-self c =
    let laws : CacheLaws = assumption in
    let s = c.args.self.now in
    let v = node_of s in
    let now = c.args.now in
    let alike = subst (λ (levels : LevelsView). AreAlike v.levels levels) (sym c.arrive.ensures.levels) (arrive-alike laws v.latency now v.coming v.levels s.sound.levels.second) in
    let rising = subst (λ (cs : List Coming). are_rising 0 cs ≡ true) (sym c.arrive.ensures.coming) (arrive-rising v.latency now v.coming v.levels s.sound.coming) in
    record {
      sound = sound-with laws v c.arrive.new.levels v.misses v.wishes (coming_in c.arrive.new.self) v.outbox s.sound c.arrive.ensures.sound (fit-alike v.levels c.arrive.new.levels v.misses alike (fit-sound laws v s.sound)) s.sound.wishes rising s.sound.outbox;
      bytes = alike.line_bytes ∙ s.bytes;
    }
