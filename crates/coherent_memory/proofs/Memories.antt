-- What a coherent memory keeps after each call.
use Rattle.std.proofs.Common.{◌≡◌, ℕ, suc, ◌+◌, ◌/◌, ◌<◌, ◌≤◌, ◌==◌, Bool, true, false, cond, List, None, refl, sym, ap, subst, ◌∙◌, arith}
use Rattle.std.specs.FinMap.{get-empty}
use Rattle.std.specs.Option.{option_map_or}
use Rattle.std.specs.Ordering.{nat_cmp}
use Rattle.std.proofs.Math.Bool.{Bool-set}
use Rattle.std.proofs.Math.Logic.{∥∥₁_elim}
use Rattle.std.proofs.lemmas.Bool.{eqb-true}
use Rattle.std.proofs.lemmas.Bool.Decides.{nat_tests}
use Rattle.std.proofs.lemmas.Option.{slice_get_past}
use Rattle.rsim_base.specs.declared.memory.Line.{Line}
use Rattle.rsim_base.specs.declared.memory.Node.{Node}
use Rattle.memory_contracts.specs.Carrier.{CarrierView}
use Rattle.memory_contracts.specs.Protocol.Laws.{OwnedIsAlone}
use Rattle.memory_contracts.specs.Protocol.NodeTable.{is_held}
use Rattle.memory_contracts.specs.Store as store
use Rattle.memory_contracts.specs.Updates.{with_at}
use Rattle.node_memory.specs.Laws.{HeldFollows}
use Rattle.node_memory.specs.Nodes.{NodeView, kept_as}
use Rattle.node_memory.specs.NodeViews.{node_of}
use Rattle.node_memory.specs.Sound.{AreBefore}
use Rattle.coherent_memory.specs.FabricViews.{system_of}
use Rattle.coherent_memory.specs.SystemInvariants.{HasKept, IsFine}
use Rattle.coherent_memory.specs.NodeRows.{no_node, node_count, nodes_in}
use Rattle.coherent_memory.specs.Stores.{Shape, store_of, byte_at}
use Rattle.coherent_memory.specs.Systems.{System}
use Rattle.coherent_memory.specs.Turns.{HasTicked, Turns, before, next, with_node}
use Rattle.coherent_memory.specs.MemoryInvariants.{IsWhole}
use Rattle.coherent_memory.specs.declared.fabric.Fabric.{Fabric}
use Rattle.coherent_memory.specs.declared.nodes.Nodes.{Nodes}
use Rattle.coherent_memory.proofs.Fabrics.{nodes-sound}
use Rattle.coherent_memory.proofs.Quiet.{Lasts, bytes-last, coming-lasts, turn-node, turn-others}
use Rattle.coherent_memory.proofs.Soundness.{IsNothing, is_sound}
use Rattle.coherent_memory.proofs.Ticking.{turns-later, turns-ticks}

-- ---- soundness

nothing-there : IsNothing no_node
nothing-there = record {
  near = λ l. refl;
  owned = λ l. refl;
  held = λ l. ap (λ slot. is_held (kept_as None slot)) (get-empty nat_cmp l);
  wishes = refl;
}

pub nothing-past : (nodes : Nodes) (p : ℕ) → node_count nodes ≤ p → IsNothing (nodes_in nodes p)
nothing-past nodes p beyond = subst IsNothing (sym (ap (λ o. option_map_or node_of o no_node) (slice_get_past nodes.list.items p beyond))) nothing-there

pub fabric-sound : {C : Type 0} {b : _} → HeldFollows → OwnedIsAlone → (meaning : C → CarrierView) (f : Fabric C b) (shape : Shape) (ticks : ℕ) → shape.nodes ≡ f.count → node_count f.nodes ≡ f.count → ∥ IsFine f.count (system_of meaning f) ∥₁ → ((a : ℕ) → byte_at shape (system_of meaning f) a < 256) → store.IsSound (store_of shape ticks (system_of meaning f))
fabric-sound held alone meaning f shape ticks nodes count fine small =
    is_sound held alone shape ticks (system_of meaning f)
    (λ p below. nodes-sound f.nodes p (omega (arith, below, nodes, count)))
    (λ p beyond. nothing-past f.nodes p (omega (arith, beyond, nodes, count)))
    (subst (λ (n : ℕ). ∥ IsFine n (system_of meaning f) ∥₁) (sym nodes) fine)
    small

-- ---- what is whole

-- after a call on one node that fetches nothing and keeps the size of lines
pub whole-node : (shape : Shape) (ticks : ℕ) (s t : System) (p : ℕ) (v : NodeView) → t ≡ with_node p v s → v.levels.line_bytes ≡ (s.nodes p).levels.line_bytes → v.coming ≡ (s.nodes p).coming → IsWhole shape ticks s → IsWhole shape ticks t
whole-node shape ticks s t p v is bytes coming whole = subst (IsWhole shape ticks) (sym is) (record {
  size = whole.size;
  bytes = λ q below. same (λ (w : NodeView). w.levels.line_bytes) q bytes ∙ whole.bytes q below;
  fetched = λ q below. subst (AreBefore ticks) (sym (same (λ (w : NodeView). w.coming) q coming)) (whole.fetched q below);
  kept = whole.kept;
  carrier = whole.carrier;
})
  where
    same : {A : Type 0} (f : NodeView → A) (q : ℕ) → f v ≡ f (s.nodes p) → f (with_at s.nodes p v q) ≡ f (s.nodes q)
    same f q e = by (q == p) refl
      where
        by : (b : Bool) → (q == p) ≡ b → f (cond b v (s.nodes q)) ≡ f (s.nodes q)
        by true is = e ∙ ap (λ (x : ℕ). f (s.nodes x)) (sym (eqb-true q p is))
        by false is = refl

-- what lasts through the turns of the first nodes
turns-last : (now : ℕ) (P Q : NodeView → Type 0) → Lasts now P Q → (s : System) (m : ℕ) (t : System) (gone : List (Node × Line)) → Turns now s m t gone → ((q : ℕ) → q < m → P (s.nodes q)) → (q : ℕ) → q < m → Q (t.nodes q)
turns-last now P Q lasts s _ _ _ before each q below = absurd (omega (arith, below))
turns-last now P Q lasts s _ _ _ (next p t u lost more turns turn) each q below =
    by (turns-last now P Q lasts s p t lost turns (λ x under. each x (omega (arith, under))) q) (q == p) refl
  where
    by : (q < p → Q (t.nodes q)) → (b : Bool) → (q == p) ≡ b → Q (u.nodes q)
    by lower true e =
        let later : t.nodes p ≡ s.nodes p = turns-later now s p t lost turns p (omega arith) in
        let here : Q (u.nodes p) = turn-node now P Q lasts p t u more turn (subst P (sym later) (each p (omega arith))) in
        subst (λ (x : ℕ). Q (u.nodes x)) (sym (eqb-true q p e)) here
    by lower false e = subst Q (sym (turn-others p q (λ same. grind (arith, nat_tests, same, e)) now t u more turn)) (lower (grind (arith, nat_tests, below, e)))

pub whole-tick : {Moves : CarrierView → CarrierView → Type 0} (shape : Shape) (ticks : ℕ) (s t : System) (gone : List (Node × Line)) → HasTicked Moves shape.nodes ticks s t gone → ∥ HasKept shape.nodes s t ∥₁ → IsWhole shape ticks s → IsWhole shape (ticks + 1) t
whole-tick shape ticks s t gone ticked kept whole = record {
  size = whole.size;
  bytes = λ q below.
      ap (λ (u : System). (u.nodes q).levels.line_bytes) ticked.rest
      ∙ turns-last ticks (λ v. v.levels.line_bytes ≡ shape.line_bytes) (λ v. v.levels.line_bytes ≡ shape.line_bytes) (bytes-last ticks shape.line_bytes) s shape.nodes ticked.turned gone ticked.turns whole.bytes q below;
  fetched = λ q below.
      let one : suc ticks ≡ ticks + 1 = omega arith in
      let after = turns-last ticks (λ v. AreBefore ticks v.coming) (λ v. AreBefore (suc ticks) v.coming) (coming-lasts ticks) s shape.nodes ticked.turned gone ticked.turns whole.fetched q below in
      subst (λ (n : ℕ). AreBefore n (t.nodes q).coming) one (subst (λ (v : NodeView). AreBefore (suc ticks) v.coming) (sym (ap (λ (u : System). u.nodes q) ticked.rest)) after);
  kept = λ a mapped. ∥∥₁_elim kept (Bool-set _ _) (λ (k : HasKept shape.nodes s t). k.lines (a / shape.line_bytes) ∙ whole.kept a mapped);
  carrier =
      ap (λ (v : CarrierView). v.ticks) ticked.carrier.same
      ∙ ap (λ (n : ℕ). n + 1) (turns-ticks ticks s shape.nodes ticked.turned gone ticked.turns ∙ whole.carrier);
}
