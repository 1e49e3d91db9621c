-- A wish is one of the store.
use Rattle.std.proofs.Common.{◌≡◌, ℕ, ◌&&◌, not, ◌==◌, Bool, true, false, cond, [], ◌∷◌, ◌++◌, refl, sym, ap, subst, ◌∙◌}
use Rattle.std.proofs.lemmas.Bool.{cond_both, eqb-true}
use Rattle.memory_contracts.specs.Store as store
use Rattle.memory_contracts.specs.Store.{StoreView, Wish}
use Rattle.node_memory.specs.Nodes.{NodeView, after_wish, is_covered, takes_wish}
use Rattle.coherent_memory.specs.SystemInvariants.{HasKept}
use Rattle.coherent_memory.specs.Stores.{Shape, byte_at, store_of}
use Rattle.coherent_memory.specs.Systems.{System}
use Rattle.coherent_memory.specs.Turns.{with_node}
use Rattle.coherent_memory.proofs.Meanings.{HasSame, bytes-stay, same-store, with_node-store}

-- a wish changes the list of wishes alone
pub record ChangesWishes (v w : NodeView) : Type 0 where
  pub bytes : w.levels.line_bytes ≡ v.levels.line_bytes
  pub coming : w.coming ≡ v.coming
  pub same : HasSame v w

pub wish-same : (line : ℕ) (own : Bool) (v : NodeView) → ChangesWishes v (after_wish line own v)
wish-same line own v =
    cond_both (takes_wish v line own && not (is_covered v line own)) (record v { wishes = v.wishes ++ record { line = line; own = own } ∷ [] }) v (λ (w : NodeView). ChangesWishes v w)
    (λ _. record { bytes = refl; coming = refl; same = record { held = λ l. refl; near = λ l. refl; owned = λ l. refl } })
    (λ _. record { bytes = refl; coming = refl; same = record { held = λ l. refl; near = λ l. refl; owned = λ l. refl } })

module _ (shape : Shape) (ticks : ℕ) (s : System) (p line : ℕ) (own : Bool) where
  abbrev wish : Wish
  wish = record { line = line; own = own }

  abbrev more : NodeView
  more = record (s.nodes p) { wishes = (s.nodes p).wishes ++ wish ∷ [] }

  by-test : (b : Bool) → ∥ HasKept shape.nodes s (with_node p (cond b more (s.nodes p)) s) ∥₁ →
      store_of shape ticks (with_node p (cond b more (s.nodes p)) s) ≡ cond b (store.with_wish (store_of shape ticks s) p wish) (store_of shape ticks s)
  by-test true kept =
      with_node-store shape ticks s p more (byte_at shape s) (bytes-stay shape s (with_node p more s) kept) (record { held = λ l. refl; near = λ l. refl; owned = λ l. refl })
      ∙ (λ i. record (store_of shape ticks s) { wishes = λ q. in-place q (q == p) refl i })
    where
      in-place : (q : ℕ) (b : Bool) → (q == p) ≡ b → cond b ((s.nodes p).wishes ++ wish ∷ []) (s.nodes q).wishes ≡ cond b ((s.nodes q).wishes ++ wish ∷ []) (s.nodes q).wishes
      in-place q true e = ap (λ (x : ℕ). (s.nodes x).wishes ++ wish ∷ []) (sym (eqb-true q p e))
      in-place q false e = refl
  by-test false kept = same-store shape ticks s p (s.nodes p) kept (record { held = λ l. refl; near = λ l. refl; owned = λ l. refl }) refl

  pub wish-store-of : ∥ HasKept shape.nodes s (with_node p (after_wish line own (s.nodes p)) s) ∥₁ → store_of shape ticks (with_node p (after_wish line own (s.nodes p)) s) ≡ store.after_wish (store_of shape ticks s) p line own
  wish-store-of kept = by-test (takes_wish (s.nodes p) line own && not (is_covered (s.nodes p) line own)) kept

pub wish-store : (shape : Shape) (ticks : ℕ) (s t : System) (p line : ℕ) (own : Bool) → t ≡ with_node p (after_wish line own (s.nodes p)) s → ∥ HasKept shape.nodes s t ∥₁ → store_of shape ticks t ≡ store.after_wish (store_of shape ticks s) p line own
wish-store shape ticks s t p line own is kept =
    ap (store_of shape ticks) is ∙ wish-store-of shape ticks s p line own (subst (λ (u : System). ∥ HasKept shape.nodes s u ∥₁) is kept)
