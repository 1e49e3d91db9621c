-- The whole memory is a sound store: what is near or owned is held, and what a node owns no other holds.
use Rattle.std.proofs.Common.{◌≡◌, ℕ, ◌<◌, ◌≤◌, Bool, true, false, List, [], length, Option, None, Some, sym, ap, subst, ◌∙◌, ⊎_elim, arith}
use Rattle.std.specs.Option.{option_map_or}
use Rattle.std.proofs.Math.Logic.{∥∥₁_elim}
use Rattle.std.proofs.Math.Nat.{ℕ_set}
use Rattle.std.proofs.lemmas.Bool.{cases_lt}
use Rattle.memory_contracts.specs.Protocol.Laws.{OwnedIsAlone}
use Rattle.memory_contracts.specs.Protocol.Lines.{Owned}
use Rattle.memory_contracts.specs.Protocol.NodeTable.{granted, is_held}
use Rattle.memory_contracts.specs.Store.{IsSound, most_wishes}
use Rattle.cache_levels.specs.Levels as level
use Rattle.cache_levels.specs.Levels.{near, owned}
use Rattle.cache_levels.specs.declared.levels.LineCopy.{LineCopy}
use Rattle.node_memory.specs.Laws.{HeldFollows}
use Rattle.node_memory.specs.Nodes.{NodeView, copy_of, kept_as}
use Rattle.node_memory.specs.Sound as node
use Rattle.coherent_memory.specs.SystemInvariants.{IsFine}
use Rattle.coherent_memory.specs.Lost.{holds}
use Rattle.coherent_memory.specs.Stores.{Shape, store_of, byte_at}
use Rattle.coherent_memory.specs.Systems.{System, line_of}
use Rattle.coherent_memory.proofs.Values.{line_of-copy}

pub clash : (b : Bool) → b ≡ true → b ≡ false → ⊥
clash true e f = cc
clash false e f = cc

-- what the caches own the protocol owns
owned-bytes : (o : Option LineCopy) (slot : Option (Option (List ℕ))) → option_map_or (λ (c : LineCopy). c.owned) o false ≡ true → (bytes : List ℕ) × (kept_as o slot ≡ Owned bytes)
owned-bytes None slot e = absurd cc
owned-bytes (Some copy) slot e = (copy.bytes, ap (λ (b : Bool). granted b copy.bytes) e)

pub owned-copy : (v : NodeView) (l : ℕ) → owned l v.levels ≡ true → (bytes : List ℕ) × (copy_of v l ≡ Owned bytes)
owned-copy v l e = owned-bytes (level.copy_of l v.levels) _ e

pub owned-held : (v : NodeView) (l : ℕ) → owned l v.levels ≡ true → is_held (copy_of v l) ≡ true
owned-held v l e = let (bytes, is) = owned-copy v l e in ap is_held is

-- where there is no node there is nothing
pub record IsNothing (v : NodeView) : Type 0 where
  pub near : (l : ℕ) → near l v.levels ≡ false
  pub owned : (l : ℕ) → owned l v.levels ≡ false
  pub held : (l : ℕ) → is_held (copy_of v l) ≡ false
  pub wishes : v.wishes ≡ []

module _ (law : HeldFollows) (alone : OwnedIsAlone) (shape : Shape) (ticks : ℕ) (s : System) (sound : (p : ℕ) → p < shape.nodes → node.IsSound (s.nodes p)) (past : (p : ℕ) → shape.nodes ≤ p → IsNothing (s.nodes p)) where
  near_held : (p l : ℕ) → near l (s.nodes p).levels ≡ true → holds s p l ≡ true
  near_held p l e =
      ⊎_elim (λ (below : p < shape.nodes).
      let is = sound p below in
      sym (law (s.nodes p) is l) ∙ is.levels.near_is_held l e)
      (λ (beyond : shape.nodes ≤ p). absurd (clash _ e ((past p beyond).near l)))
      (cases_lt p shape.nodes)

  few : (p : ℕ) → length (s.nodes p).wishes ≤ most_wishes
  few p =
      ⊎_elim (λ (below : p < shape.nodes). (sound p below).wishes)
      (λ (beyond : shape.nodes ≤ p). subst (λ (ws : List _). length ws ≤ most_wishes) (sym (past p beyond).wishes) (omega arith))
      (cases_lt p shape.nodes)

  alone-fine : IsFine shape.nodes s → (p q l : ℕ) → owned l (s.nodes p).levels ≡ true → holds s q l ≡ true → q ≡ p
  alone-fine fine p q l own held =
      ⊎_elim (λ (below : p < shape.nodes).
      ⊎_elim (λ (under : q < shape.nodes).
      let (bytes, is) = owned-copy (s.nodes p) l own in
      let kept = (fine.right.nodes q under).copies l held in
      alone shape.nodes _ bytes (line_of shape.nodes s l) p q (fine.lines l kept) below under (line_of-copy shape.nodes s l p ∙ is) (ap is_held (line_of-copy shape.nodes s l q) ∙ held))
      (λ (beyond : shape.nodes ≤ q). absurd (clash _ held ((past q beyond).held l)))
      (cases_lt q shape.nodes))
      (λ (beyond : shape.nodes ≤ p). absurd (clash _ own ((past p beyond).owned l)))
      (cases_lt p shape.nodes)

  within : (p l : ℕ) → holds s p l ≡ true → p < shape.nodes
  within p l held =
      ⊎_elim (λ (below : p < shape.nodes). below)
      (λ (beyond : shape.nodes ≤ p). absurd (clash _ held ((past p beyond).held l)))
      (cases_lt p shape.nodes)

  pub is_sound : ∥ IsFine shape.nodes s ∥₁ → ((a : ℕ) → byte_at shape s a < 256) → IsSound (store_of shape ticks s)
  is_sound fine small = record {
    within = within;
    near = near_held;
    owned = λ p l e. owned-held (s.nodes p) l e;
    alone = λ p q l own held. ∥∥₁_elim fine (ℕ_set q p) (λ (f : IsFine shape.nodes s). alone-fine f p q l own held);
    few = few;
    small = small;
  }
