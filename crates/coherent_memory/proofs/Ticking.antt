-- What a tick is to the store: lines have come and gone, and wishes were taken off.
use Rattle.std.proofs.Common.{◌≡◌, ◌≢◌, ℕ, ◌+◌, ◌≤◌, ◌==◌, Bool, true, false, List, [], ◌∷◌, inr, refl, sym, ap, subst, ◌∙◌, arith}
use Rattle.std.proofs.Math.Bool.{Bool-set}
use Rattle.std.proofs.Math.Logic.{∥∥₁_elim}
use Rattle.std.proofs.lemmas.Bool.{eqb-true, eqb-false}
use Rattle.rsim_base.specs.declared.memory.Line.{Line}
use Rattle.rsim_base.specs.declared.memory.Node.{Node}
use Rattle.memory_contracts.specs.Store.{IsLeftOf, Ticks, Wish}
use Rattle.node_memory.specs.Laws.{WishesLeave}
use Rattle.node_memory.specs.Nodes.{NodeView}
use Rattle.node_memory.specs.Starting.{begins}
use Rattle.coherent_memory.specs.SystemInvariants.{HasKept}
use Rattle.coherent_memory.specs.Lost.{AreGone}
use Rattle.coherent_memory.specs.Stores.{Shape, store_of}
use Rattle.coherent_memory.specs.Systems.{System}
use Rattle.coherent_memory.specs.Turns.{HasTicked, Turns, before, next}
use Rattle.coherent_memory.proofs.Meanings.{bytes-stay}
use Rattle.coherent_memory.proofs.Quiet.{Lasts, turn-node, turn-others, turn-ticks}
use Rattle.memory_contracts.specs.Carrier.{CarrierView}

-- ---- wishes

left-all : (ws : List Wish) → IsLeftOf ws ws
left-all [] = refl
left-all (w ∷ ws) = inr (ws, refl, left-all ws)

wishes-last : WishesLeave → (now : ℕ) (ws : List Wish) → Lasts now (λ v. v.wishes ≡ ws) (λ v. IsLeftOf v.wishes ws)
wishes-last leave now ws = record {
  begin = λ v is. subst (λ (old : List Wish). IsLeftOf (begins now v).after.wishes old) is (leave now v);
  message = λ m v is. is;
  sent = λ v is. is;
}

-- ---- the turns of the first nodes

-- the others have not changed
pub turns-later : (now : ℕ) (s : System) (m : ℕ) (t : System) (gone : List (Node × Line)) → Turns now s m t gone → (q : ℕ) → m ≤ q → t.nodes q ≡ s.nodes q
turns-later now s _ _ _ before q above = refl
turns-later now s _ _ _ (next p t u lost more turns turn) q above =
    turn-others p q (λ same. absurd (omega (arith, same, above))) now t u more turn ∙ turns-later now s p t lost turns q (omega (arith, above))

-- the carrier's time is the same
pub turns-ticks : (now : ℕ) (s : System) (m : ℕ) (t : System) (gone : List (Node × Line)) → Turns now s m t gone → t.carrier.ticks ≡ s.carrier.ticks
turns-ticks now s _ _ _ before = refl
turns-ticks now s _ _ _ (next p t u lost more turns turn) = turn-ticks p now t u more turn ∙ turns-ticks now s p t lost turns

-- what a turn makes of each node
turned : (P Q : ℕ → NodeView → Type 0) (now : ℕ) (s : System) (p : ℕ) (t u : System) (q : ℕ)
    → (q ≡ p → Q q (u.nodes q)) → (q ≢ p → u.nodes q ≡ t.nodes q) → Q q (t.nodes q) → Q q (u.nodes q)
turned P Q now s p t u q here others was = by (q == p) refl
  where
    by : (b : Bool) → (q == p) ≡ b → Q q (u.nodes q)
    by true e = here (eqb-true q p e)
    by false e = subst (Q q) (sym (others (eqb-false q p e))) was

pub turns-left : WishesLeave → (now : ℕ) (s : System) (m : ℕ) (t : System) (gone : List (Node × Line)) → Turns now s m t gone → (q : ℕ) → IsLeftOf (t.nodes q).wishes (s.nodes q).wishes
turns-left leave now s _ _ _ before q = left-all (s.nodes q).wishes
turns-left leave now s _ _ _ (next p t u lost more turns turn) q =
    let Q : ℕ → NodeView → Type 0 = λ x v. IsLeftOf v.wishes (s.nodes x).wishes in
    turned Q Q now s p t u q
    (λ same.
    let later : t.nodes p ≡ s.nodes p = turns-later now s p t lost turns p (omega arith) in
    let ws = (s.nodes p).wishes in
    let left : IsLeftOf (u.nodes p).wishes ws = turn-node now (λ v. v.wishes ≡ ws) (λ v. IsLeftOf v.wishes ws) (wishes-last leave now ws) p t u more turn (ap (λ (v : NodeView). v.wishes) later) in
    subst (λ (x : ℕ). Q x (u.nodes x)) (sym same) left)
    (λ other. turn-others p q other now t u more turn)
    (turns-left leave now s p t lost turns q)

-- ---- the store

pub tick-store : {Moves : CarrierView → CarrierView → Type 0} → WishesLeave → (shape : Shape) (ticks now : ℕ) (s t : System) (gone : List (Node × Line)) →
    HasTicked Moves shape.nodes now s t gone → ∥ HasKept shape.nodes s t ∥₁ → ∥ AreGone s t gone ∥₁ → Ticks (store_of shape ticks s) (store_of shape (ticks + 1) t) gone
tick-store leave shape ticks now s t gone ticked kept told = record {
  same = λ i. record (store_of shape (ticks + 1) t) { bytes = bytes-stay shape s t kept i };
  lost = record {
    exactly = λ p l. ∥∥₁_elim told (Bool-set _ _) (λ (g : AreGone s t gone). g.exactly p l);
    once = ∥∥₁_elim told (Bool-set _ _) (λ (g : AreGone s t gone). g.once);
  };
  left = λ p.
      let same : (t.nodes p).wishes ≡ (ticked.turned.nodes p).wishes = ap (λ (u : System). (u.nodes p).wishes) ticked.rest in
      subst (λ (ws : List Wish). IsLeftOf ws (s.nodes p).wishes) (sym same) (turns-left leave now s shape.nodes ticked.turned gone ticked.turns p);
}
