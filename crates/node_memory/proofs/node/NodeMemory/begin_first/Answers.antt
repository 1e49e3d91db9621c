use Rattle.std.proofs.Common.{◌≡◌, ◌≤◌, true, List, length, sym, subst, arith}
use Rattle.std.proofs.lemmas.List.{length-drop}
use Rattle.memory_contracts.specs.Store.{Wish, most_wishes}
use Rattle.node_memory.specs.Nodes.{Coming}
use Rattle.node_memory.specs.NodeViews.{node_of}
use Rattle.node_memory.specs.NodeParts.{coming_in, wishes_in}
use Rattle.node_memory.specs.Sound.{are_rising}
use Rattle.node_memory.proofs.Fetched.{rising-push}
use Rattle.node_memory.proofs.Fits.{sound-waiting}
use Rattle.node_memory.proofs.node.NodeMemory.begin_first.Goals as goal

pub invariant_of-self : goal.invariant_of-self
invariant_of-self c =
    let s = c.args.self.now in
    let v = node_of s in
    let most = s.sound.wishes in
    let few = subst (λ (ws : List Wish). length ws ≤ most_wishes) (sym c.drop_first.ensures) (omega (arith, length-drop 1 v.wishes, most)) in
    let rising = subst (λ (cs : List Coming). are_rising 0 cs ≡ true) (sym c.push.ensures) (rising-push 0 c.args.now c.in-Some.wish.line.0 v.coming (omega arith) s.sound.coming c.requires.later) in
    record { sound = sound-waiting v (wishes_in c.drop_first.new.self) (coming_in c.push.new.self) s.sound few rising; bytes = s.bytes }
