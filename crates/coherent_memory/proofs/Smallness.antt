-- The bytes of memory stay below 256.
use Rattle.std.proofs.Common.{◌≡◌, ℕ, ◌+◌, ◌-◌, ◌<◌, nat_le, nat_lt, not, ◌&&◌, Bool, true, false, cond, List, sym, ap, subst, arith}
use Rattle.std.proofs.lemmas.Bool.{cond_both}
use Rattle.rsim_base.specs.Bytes.{byte_of}
use Rattle.rsim_base.specs.declared.memory.Line.{Line}
use Rattle.rsim_base.specs.declared.memory.Node.{Node}
use Rattle.memory_contracts.specs.Store.{StoreView, Ticks, after_wish, after_write, is_covered, line_at, stored, takes_wish, with_wish}

abbrev pub IsSmall : StoreView → Type 0
IsSmall v = (a : ℕ) → v.bytes a < 256

pub small-along : (v w : StoreView) → w ≡ v → IsSmall v → IsSmall w
small-along v w e small = subst IsSmall (sym e) small

small-stored : (bytes : ℕ → ℕ) (a n value : ℕ) → ((b : ℕ) → bytes b < 256) → (b : ℕ) → stored bytes a n value b < 256
small-stored bytes a n value small b = by (nat_le a b && nat_lt b (a + n))
  where
    by : (t : Bool) → cond t (byte_of value n (b - a)) (bytes b) < 256
    by true = omega arith
    by false = small b

pub small-write : (v : StoreView) (p a n value : ℕ) → IsSmall v → IsSmall (after_write v p a n value)
small-write v p a n value small = by (v.owned p (line_at v a))
  where
    by : (b : Bool) → IsSmall (cond b (record v { bytes = stored v.bytes a n value }) v)
    by true = small-stored v.bytes a n value small
    by false = small

pub small-wish : (v : StoreView) (p line : ℕ) (own : Bool) → IsSmall v → IsSmall (after_wish v p line own)
small-wish v p line own small = by (takes_wish v p line own && not (is_covered v p line own))
  where
    by : (b : Bool) → IsSmall (cond b (with_wish v p (record { line = line; own = own })) v)
    by true = small
    by false = small

pub small-tick : (v w : StoreView) (lost : List (Node × Line)) → Ticks v w lost → IsSmall v → IsSmall w
small-tick v w lost ticks small a = subst (λ (b : ℕ). b < 256) (sym (ap (λ (u : StoreView). u.bytes a) ticks.same)) (small a)
