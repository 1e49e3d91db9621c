-- A node reads, writes or wishes: every line stays coherent.
use Rattle.std.proofs.Common.{◌≡◌, ℕ, zero, suc, ◌<◌, ◌==◌, ◌&&◌, not, All, Bool, true, false, cond, List, [], ◌∷◌, ◌++◌, refl, sym, ap, subst, ◌∙◌, arith}
use Rattle.std.proofs.lemmas.Bool.{cond_both, eqb-true}
use Rattle.std.proofs.lemmas.List.Elements.{All-append}
use Rattle.rsim_base.specs.declared.memory.Size.{Size}
use Rattle.memory_contracts.specs.Store.{Wish}
use Rattle.memory_contracts.specs.Updates.{with_at}
use Rattle.cache_levels.specs.Levels.{near, owned, touched_levels, written}
use Rattle.node_memory.specs.Laws.{ReadFollows, WishFollows}
use Rattle.node_memory.specs.Nodes.{NodeView, after_read, after_wish, after_write, is_covered, line_at, takes_wish}
use Rattle.node_memory.specs.Sound.{IsSound}
use Rattle.coherent_memory.specs.SystemInvariants.{HasKept, IsFine}
use Rattle.coherent_memory.specs.Laws.{NothingKeeps, WritingKeeps}
use Rattle.coherent_memory.specs.Systems.{System, is_kept}
use Rattle.coherent_memory.specs.Turns.{with_node}

-- the same node again
same-at : (f : ℕ → NodeView) (p : ℕ) → with_at f p (f p) ≡ f
same-at f p = λ i q. by q (q == p) refl i
  where
    by : (q : ℕ) (b : Bool) → (q == p) ≡ b → cond b (f p) (f q) ≡ f q
    by q true e = ap f (sym (eqb-true q p e))
    by q false e = refl

pub same-node : (p : ℕ) (v : NodeView) (s : System) → v ≡ s.nodes p → with_node p v s ≡ s
same-node p v s same = λ i. record { homes = s.homes; nodes = (ap (λ (w : NodeView). with_at s.nodes p w) same ∙ same-at s.nodes p) i; carrier = s.carrier }

-- a read changes recency alone
record StaysBut (v w : NodeView) : Type 0 where
  pub at : w.at ≡ v.at
  pub wishes : w.wishes ≡ v.wishes

read-stays : (a : ℕ) (v : NodeView) → StaysBut v (after_read a v)
read-stays a v =
    cond_both (near (line_at v a) v.levels) (record v { levels = touched_levels (line_at v a) v.levels }) v (λ (w : NodeView). StaysBut v w)
    (λ _. record { at = refl; wishes = refl })
    (λ _. record { at = refl; wishes = refl })

pub read-wishes : (a : ℕ) (v : NodeView) → (after_read a v).wishes ≡ v.wishes
read-wishes a v = (read-stays a v).wishes

pub read-keeps : NothingKeeps → ReadFollows → (n p a : ℕ) (s : System) → IsFine n s → p < n → IsSound (s.nodes p) → HasKept n s (with_node p (after_read a (s.nodes p)) s)
read-keeps law follows n p a s fine below sound =
    let stays = read-stays a (s.nodes p) in
    law n p (after_read a (s.nodes p)) s fine below (follows a (s.nodes p) sound) stays.at
    (subst (λ (ws : List Wish). All (λ (w : Wish). is_kept n s w.line ≡ true) ws) (sym stays.wishes) (fine.right.nodes p below).wishes)

-- a write, whether or not the line is owned
pub write-fine : WritingKeeps → (n p a : ℕ) (size : Size) (value : ℕ) (s : System) → IsFine n s → p < n → IsSound (s.nodes p) → IsFine n (with_node p (after_write a size value (s.nodes p)) s)
write-fine law n p a size value s fine below sound = by (owned (line_at (s.nodes p) a) (s.nodes p).levels) refl
  where
    by : (b : Bool) → owned (line_at (s.nodes p) a) (s.nodes p).levels ≡ b → IsFine n (with_node p (after_write a size value (s.nodes p)) s)
    by true e = (law n p a size value s fine below sound e).fine
    by false e =
        let v = s.nodes p in
        let same : after_write a size value v ≡ v = ap (λ (b : Bool). cond b (record v { levels = touched_levels (line_at v a) (written a size value v.levels) }) v) e in
        subst (IsFine n) (sym (same-node p (after_write a size value v) s same)) fine

-- a wish for a line that a home keeps
record WishesBut (kept : ℕ → Bool) (v w : NodeView) : Type 0 where
  pub at : w.at ≡ v.at
  pub wishes : All (λ (x : Wish). kept x.line ≡ true) w.wishes

All-one : {A : Type 0} (P : A → Type 0) (x : A) → P x → All P (x ∷ [])
All-one P x is zero d below = is
All-one P x is (suc k) d below = absurd (omega (arith, below))

wish-stays : (kept : ℕ → Bool) (line : ℕ) (own : Bool) (v : NodeView) → All (λ (x : Wish). kept x.line ≡ true) v.wishes → kept line ≡ true → WishesBut kept v (after_wish line own v)
wish-stays kept line own v all is =
    let wish : Wish = record { line = line; own = own } in
    let P : Wish → Type 0 = λ x. kept x.line ≡ true in
    cond_both (takes_wish v line own && not (is_covered v line own)) (record v { wishes = v.wishes ++ wish ∷ [] }) v (λ (w : NodeView). WishesBut kept v w)
    (λ _. record { at = refl; wishes = All-append P v.wishes (wish ∷ []) all (All-one P wish is) })
    (λ _. record { at = refl; wishes = all })

pub wish-keeps : NothingKeeps → WishFollows → (n p line : ℕ) (own : Bool) (s : System) → IsFine n s → p < n → is_kept n s line ≡ true → HasKept n s (with_node p (after_wish line own (s.nodes p)) s)
wish-keeps law follows n p line own s fine below is =
    let stays = wish-stays (is_kept n s) line own (s.nodes p) (fine.right.nodes p below).wishes is in
    law n p (after_wish line own (s.nodes p)) s fine below (follows line own (s.nodes p)) stays.at stays.wishes
