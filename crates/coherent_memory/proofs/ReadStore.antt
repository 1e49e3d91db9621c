-- A read is one of the store.
use Rattle.std.proofs.Common.{◌≡◌, ℕ, ◌/◌, ◌%◌, ◌<◌, Bool, true, false, cond, List, Option, None, Some, refl, sym, ap, subst, ◌∙◌}
use Rattle.std.specs.Option.{option_map_or}
use Rattle.std.proofs.Math.Logic.{∥∥₁_elim}
use Rattle.std.proofs.Math.Nat.{ℕ_set}
use Rattle.std.proofs.lemmas.Bool.{cond_both}
use Rattle.rsim_base.specs.Bytes.{count_of}
use Rattle.rsim_base.specs.declared.memory.Size.{Size}
use Rattle.memory_contracts.specs.Protocol.Laws.{OwnedHasContent, SharedHasContent}
use Rattle.memory_contracts.specs.Protocol.Lines.{Copy, Owned}
use Rattle.memory_contracts.specs.Protocol.NodeTable.{granted, is_held}
use Rattle.memory_contracts.specs.Store as store
use Rattle.memory_contracts.specs.Store.{value_at}
use Rattle.cache_levels.specs.Levels as level
use Rattle.cache_levels.specs.Levels.{near, owned, touched_levels}
use Rattle.cache_levels.specs.Sizes.{IsLineSize}
use Rattle.cache_levels.specs.declared.levels.LineCopy.{LineCopy}
use Rattle.node_memory.specs.Laws.{HeldFollows, ReadFollows}
use Rattle.node_memory.specs.Nodes.{NodeView, after_read, byte_in, copy_of, kept_as, line_at, read_of}
use Rattle.node_memory.specs.Sides.{Side}
use Rattle.node_memory.specs.Sound.{IsSound}
use Rattle.coherent_memory.specs.SystemInvariants.{HasKept, IsFine}
use Rattle.coherent_memory.specs.Laws.{NearAfterRead}
use Rattle.coherent_memory.specs.Stores.{Shape, byte_at, store_of}
use Rattle.coherent_memory.specs.Systems.{System}
use Rattle.coherent_memory.specs.Turns.{with_node}
use Rattle.coherent_memory.proofs.Accessing.{read-wishes}
use Rattle.coherent_memory.proofs.Meanings.{HasSame, same-store}
use Rattle.coherent_memory.proofs.Values.{held-value}

-- what a copy is to the caches
abbrev pub is_own : Copy → Bool
is_own (Owned bytes) = true
is_own copy = false

own-granted : (b : Bool) (bytes : List ℕ) → b ≡ is_own (granted b bytes)
own-granted true bytes = refl
own-granted false bytes = refl

own-kept : (o : Option LineCopy) (slot : Option (Option (List ℕ))) → option_map_or (λ (c : LineCopy). c.owned) o false ≡ is_own (kept_as o slot)
own-kept None None = refl
own-kept None (Some None) = refl
own-kept None (Some (Some bytes)) = refl
own-kept (Some copy) slot = own-granted copy.owned copy.bytes

pub owned-is : (v : NodeView) (l : ℕ) → owned l v.levels ≡ is_own (copy_of v l)
owned-is v l = own-kept (level.copy_of l v.levels) _

-- nodes with the same copies hold and own the same
pub same-copies : (v w : NodeView) → ((l : ℕ) → copy_of w l ≡ copy_of v l) → ((l : ℕ) → near l w.levels ≡ near l v.levels) → HasSame v w
same-copies v w copies nears = record {
  held = λ l. ap is_held (copies l);
  near = nears;
  owned = λ l. owned-is w l ∙ (ap is_own (copies l) ∙ sym (owned-is v l));
}

pub record ChangesRecency (v w : NodeView) : Type 0 where
  pub bytes : w.levels.line_bytes ≡ v.levels.line_bytes
  pub coming : w.coming ≡ v.coming

pub read-recency : (a : ℕ) (v : NodeView) → ChangesRecency v (after_read a v)
read-recency a v =
    cond_both (near (line_at v a) v.levels) (record v { levels = touched_levels (line_at v a) v.levels }) v (λ (w : NodeView). ChangesRecency v w)
    (λ _. record { bytes = refl; coming = refl })
    (λ _. record { bytes = refl; coming = refl })

pub read-store : ReadFollows → NearAfterRead → (shape : Shape) (ticks : ℕ) (s t : System) (p a : ℕ) → IsSound (s.nodes p) → t ≡ with_node p (after_read a (s.nodes p)) s → ∥ HasKept shape.nodes s t ∥₁ → store_of shape ticks t ≡ store_of shape ticks s
read-store follows nears shape ticks s t p a sound is kept =
    let v = s.nodes p in
    let copies = λ (l : ℕ). ap (λ (side : Side). side.copies l) (follows a v sound) in
    ap (store_of shape ticks) is
    ∙ same-store shape ticks s p (after_read a v) (subst (λ (u : System). ∥ HasKept shape.nodes s u ∥₁) is kept) (same-copies v (after_read a v) copies (λ l. nears a l v sound)) (read-wishes a v)

-- what is read is the content of memory
module _ (shared : SharedHasContent) (own : OwnedHasContent) (held_law : HeldFollows) (shape : Shape) (ticks : ℕ) (s : System) (p a : ℕ) (n : Size)
    (fine : ∥ IsFine shape.nodes s ∥₁) (below : p < shape.nodes) (size : IsLineSize shape.line_bytes) (bytes : (s.nodes p).levels.line_bytes ≡ shape.line_bytes) (aligned : a % count_of n ≡ 0) (sound : IsSound (s.nodes p)) where
  value-near : near (a / shape.line_bytes) (s.nodes p).levels ≡ true → value_at (byte_in (s.nodes p)) a (count_of n) ≡ value_at (byte_at shape s) a (count_of n)
  value-near e =
      let held = sym (held_law (s.nodes p) sound (a / shape.line_bytes)) ∙ sound.levels.near_is_held (a / shape.line_bytes) e in
      ∥∥₁_elim fine (ℕ_set _ _) (λ (f : IsFine shape.nodes s). held-value shared own shape s p a n f below size bytes aligned held)

  by-near : (b : Bool) → near (a / shape.line_bytes) (s.nodes p).levels ≡ b →
      cond b (Some (value_at (byte_in (s.nodes p)) a (count_of n))) None ≡ cond b (Some (value_at (byte_at shape s) a (count_of n))) None
  by-near true e = ap Some (value-near e)
  by-near false e = refl

  pub read-value : read_of (s.nodes p) a n ≡ store.read_of (store_of shape ticks s) p a (count_of n)
  read-value =
      ap (λ (lb : ℕ). cond (near (a / lb) (s.nodes p).levels) (Some (value_at (byte_in (s.nodes p)) a (count_of n))) None) bytes
      ∙ by-near (near (a / shape.line_bytes) (s.nodes p).levels) refl
