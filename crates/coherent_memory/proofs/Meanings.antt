-- What the store means after a call on one node.
use Rattle.std.proofs.Common.{◌≡◌, ℕ, ◌/◌, ◌%◌, ◌==◌, Bool, true, false, cond, List, slice_index, refl, sym, ap, ◌∙◌}
use Rattle.std.proofs.Math.Logic.{∥∥₁_elim}
use Rattle.std.proofs.Math.Nat.{ℕ_set}
use Rattle.std.proofs.lemmas.Bool.{eqb-true}
use Rattle.memory_contracts.specs.Protocol.NodeTable.{is_held}
use Rattle.memory_contracts.specs.Store.{Wish}
use Rattle.memory_contracts.specs.Updates.{with_at}
use Rattle.cache_levels.specs.Levels.{near, owned}
use Rattle.node_memory.specs.Nodes.{NodeView, copy_of}
use Rattle.coherent_memory.specs.SystemInvariants.{HasKept}
use Rattle.coherent_memory.specs.Stores.{Shape, byte_at, store_of}
use Rattle.coherent_memory.specs.Systems.{System, content, is_kept}
use Rattle.coherent_memory.specs.Turns.{with_node}

-- ---- bytes

pub byte-kept : (b c : Bool) (xs ys : List ℕ) (k : ℕ) → c ≡ b → (b ≡ true → ys ≡ xs) → cond c (slice_index ys k) 0 ≡ cond b (slice_index xs k) 0
byte-kept true c xs ys k same content = ap (λ (d : Bool). cond d (slice_index ys k) 0) same ∙ ap (λ (bs : List ℕ). slice_index bs k) (content refl)
byte-kept false c xs ys k same content = ap (λ (d : Bool). cond d (slice_index ys k) 0) same

pub bytes-kept : (shape : Shape) (s t : System) → HasKept shape.nodes s t → (a : ℕ) → byte_at shape t a ≡ byte_at shape s a
bytes-kept shape s t kept a =
    let l = a / shape.line_bytes in
    byte-kept (is_kept shape.nodes s l) (is_kept shape.nodes t l) (content shape.nodes s l) (content shape.nodes t l) (a % shape.line_bytes) (kept.lines l) (kept.content l)

pub bytes-stay : (shape : Shape) (s t : System) → ∥ HasKept shape.nodes s t ∥₁ → byte_at shape t ≡ byte_at shape s
bytes-stay shape s t kept = λ i a. (∥∥₁_elim kept (ℕ_set (byte_at shape t a) (byte_at shape s a)) (λ (k : HasKept shape.nodes s t). bytes-kept shape s t k a)) i

-- ---- one node

-- what of all nodes is as of the one that changed
at_one : {A : Type 0} (f : NodeView → A) (nodes : ℕ → NodeView) (p : ℕ) (v : NodeView) (q : ℕ) → f v ≡ f (nodes p) → f (with_at nodes p v q) ≡ f (nodes q)
at_one f nodes p v q same = by (q == p) refl
  where
    by : (b : Bool) → (q == p) ≡ b → f (cond b v (nodes q)) ≡ f (nodes q)
    by true e = same ∙ ap (λ (x : ℕ). f (nodes x)) (sym (eqb-true q p e))
    by false e = refl

-- of all nodes as a function
wishes-at : (nodes : ℕ → NodeView) (p : ℕ) (v : NodeView) (q : ℕ) → (with_at nodes p v q).wishes ≡ with_at (λ x. (nodes x).wishes) p v.wishes q
wishes-at nodes p v q = by (q == p)
  where
    by : (b : Bool) → (cond b v (nodes q)).wishes ≡ cond b v.wishes (nodes q).wishes
    by true = refl
    by false = refl

-- the node has what it had of each line
pub record HasSame (v w : NodeView) : Type 0 where
  pub held : (l : ℕ) → is_held (copy_of w l) ≡ is_held (copy_of v l)
  pub near : (l : ℕ) → near l w.levels ≡ near l v.levels
  pub owned : (l : ℕ) → owned l w.levels ≡ owned l v.levels

pub with_node-store : (shape : Shape) (ticks : ℕ) (s : System) (p : ℕ) (v : NodeView) (bytes : ℕ → ℕ) → byte_at shape (with_node p v s) ≡ bytes → HasSame (s.nodes p) v →
    store_of shape ticks (with_node p v s) ≡ record (store_of shape ticks s) { bytes = bytes; wishes = with_at (λ q. (s.nodes q).wishes) p v.wishes }
with_node-store shape ticks s p v bytes is same = λ i. record {
  bytes = is i;
  mapped = shape.mapped;
  held = λ q l. at_one (λ (w : NodeView). is_held (copy_of w l)) s.nodes p v q (same.held l) i;
  near = λ q l. at_one (λ (w : NodeView). near l w.levels) s.nodes p v q (same.near l) i;
  owned = λ q l. at_one (λ (w : NodeView). owned l w.levels) s.nodes p v q (same.owned l) i;
  wishes = λ q. wishes-at s.nodes p v q i;
  nodes = shape.nodes;
  line_bytes = shape.line_bytes;
  ticks = ticks;
}

-- the wishes that a node had
pub same-wishes : (f : ℕ → List Wish) (p : ℕ) → with_at f p (f p) ≡ f
same-wishes f p = λ i q. by q (q == p) refl i
  where
    by : (q : ℕ) (b : Bool) → (q == p) ≡ b → cond b (f p) (f q) ≡ f q
    by q true e = ap f (sym (eqb-true q p e))
    by q false e = refl

-- a call that changes nothing that the store means
pub same-store : (shape : Shape) (ticks : ℕ) (s : System) (p : ℕ) (v : NodeView) → ∥ HasKept shape.nodes s (with_node p v s) ∥₁ → HasSame (s.nodes p) v → v.wishes ≡ (s.nodes p).wishes →
    store_of shape ticks (with_node p v s) ≡ store_of shape ticks s
same-store shape ticks s p v kept same wishes =
    with_node-store shape ticks s p v (byte_at shape s) (bytes-stay shape s (with_node p v s) kept) same
    ∙ ap (λ (f : ℕ → List Wish). record (store_of shape ticks s) { wishes = f }) (ap (λ (ws : List Wish). with_at (λ q. (s.nodes q).wishes) p ws) wishes ∙ same-wishes (λ q. (s.nodes q).wishes) p)
