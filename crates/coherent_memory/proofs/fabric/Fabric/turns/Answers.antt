use Rattle.std.proofs.Common.{◌≡◌, ◌+◌, ◌*◌, ◌<◌, ◌≤◌, ℕ, zero, suc, List, ◌++◌, length, length-append, refl, sym, subst, ◌∙◌, arith}
use Rattle.std.proofs.Math.Bridge.{le_prop}
use Rattle.std.proofs.Math.Logic.{∥∥₁_elim, ∥∥₁_map, ∥∥₁_map₂}
use Rattle.rsim_base.specs.declared.memory.Line.{Line}
use Rattle.rsim_base.specs.declared.memory.Node.{Node}
use Rattle.node_memory.specs.Nodes.{NodeView}
use Rattle.node_memory.specs.Sound.{AreBefore}
use Rattle.coherent_memory.specs.FabricViews.{system_of}
use Rattle.coherent_memory.specs.SystemInvariants.{HasKept, IsFine}
use Rattle.coherent_memory.specs.Lost.{AreGoneBelow, AreGoneFrom}
use Rattle.coherent_memory.specs.Systems.{System}
use Rattle.coherent_memory.specs.Turns.{Turns, before, next}
use Rattle.coherent_memory.proofs.Gone.{gone-before}
use Rattle.coherent_memory.proofs.Kept.{kept-refl, kept-trans}
use Rattle.coherent_memory.proofs.Ticking.{turns-later}
use Rattle.coherent_memory.proofs.fabric.Fabric.turns.Goals as goal

pub loop-p-init : goal.loop-p-init
loop-p-init g c =
    let s : System = system_of g.C.Carrier.meaning c.args.self.now in
    let none = c.requires.none in
    record {
      count = refl;
      turns = subst (λ (gone : List (Node × Line)). Turns c.args.now s zero s gone) (sym none) before;
      gone = ∣ subst (λ (gone : List (Node × Line)). AreGoneBelow zero s s gone) (sym none) (gone-before s) ∣₁;
      kept = ∥∥₁_map c.args.self.now.fine (λ (fine : IsFine c.args.self.now.count s). kept-refl c.args.self.now.count s fine);
      few = subst (λ (gone : List (Node × Line)). length gone ≤ 0) (sym none) (omega arith);
    }

pub turn-requires-clause-later : goal.turn-requires-clause-later
turn-requires-clause-later g c =
    let s : System = system_of g.C.Carrier.meaning c.args.self.now in
    let t : System = system_of g.C.Carrier.meaning c.loop-p.self in
    let p = c.loop-p.p in
    let same = turns-later c.args.now s p t c.loop-p.lost.items c.loop-p.invariant.turns p (omega arith) in
    let below : p < c.args.self.now.count = omega (arith, c.loop-p-test.true) in
    subst (λ (v : NodeView). AreBefore c.args.now v.coming) (sym same) (c.requires.later p below)

pub loop-p-preserved : goal.loop-p-preserved
loop-p-preserved g c =
    let s : System = system_of g.C.Carrier.meaning c.args.self.now in
    let t : System = system_of g.C.Carrier.meaning c.loop-p.self in
    let u : System = system_of g.C.Carrier.meaning c.turn.new.self in
    let p = c.loop-p.p in
    let was = c.loop-p.lost.items in
    let (more, turn, told, lost) = c.turn.ensures.turn in
    let n₀ = c.args.self.now.count in
    let step : ∥ HasKept n₀ t u ∥₁ = subst (λ (k : ℕ). ∥ HasKept k t u ∥₁) c.loop-p.invariant.count c.turn.ensures.kept in
    let more_few : length more ≤ 2 = ∥∥₁_elim told le_prop (λ (from : AreGoneFrom p t u more). from.few) in
    let n : suc p ≡ p + 1 = omega arith in
    let turns : Turns c.args.now s (suc p) u (was ++ more) = next p t u was more c.loop-p.invariant.turns turn in
    let gone : ∥ AreGoneBelow (suc p) s u (was ++ more) ∥₁ =
    ∥∥₁_map₂ c.loop-p.invariant.gone told (λ (below : AreGoneBelow p s t was) (from : AreGoneFrom p t u more). c.turns_tell.ensures.turns p s t u was more below from) in
    let few : length (was ++ more) ≤ 2 * (p + 1) = omega (arith, length-append was more, more_few, c.loop-p.invariant.few) in
    record {
      count = c.turn.ensures.count ∙ c.loop-p.invariant.count;
      turns = subst (λ (m : ℕ). Turns c.args.now s m u c.turn.new.lost.items) n (subst (λ (xs : List (Node × Line)). Turns c.args.now s (suc p) u xs) (sym lost) turns);
      gone = subst (λ (m : ℕ). ∥ AreGoneBelow m s u c.turn.new.lost.items ∥₁) n (subst (λ (xs : List (Node × Line)). ∥ AreGoneBelow (suc p) s u xs ∥₁) (sym lost) gone);
      kept = ∥∥₁_map₂ c.loop-p.invariant.kept step (λ (first : HasKept n₀ s t) (then : HasKept n₀ t u). kept-trans n₀ s t u first then);
      few = subst (λ (xs : List (Node × Line)). length xs ≤ 2 * (p + 1)) (sym lost) few;
    }
