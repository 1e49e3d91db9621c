use Rattle.std.proofs.Common.{List, ◌≤◌, length, sym, subst}
use Rattle.memory_contracts.specs.Store.{Wish, most_wishes}
use Rattle.node_memory.specs.NodeViews.{node_of}
use Rattle.node_memory.specs.NodeParts.{wishes_in}
use Rattle.node_memory.proofs.Fits.{sound-waiting}
use Rattle.node_memory.proofs.Wishing.{uncovered-few}
use Rattle.node_memory.proofs.node.NodeMemory.drop_covered.Goals as goal

pub invariant_of-self : goal.invariant_of-self
invariant_of-self c =
    let s = c.args.self.now in
    let v = node_of s in
    let few = subst (λ (ws : List Wish). length ws ≤ most_wishes) (sym c.drop_covered.ensures) (uncovered-few v.misses v.wishes most_wishes s.sound.wishes) in
    record { sound = sound-waiting v (wishes_in c.drop_covered.new.self) v.coming s.sound few s.sound.coming; bytes = s.bytes }
