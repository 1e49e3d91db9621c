-- What no write and no wish changes: which addresses are mapped, the nodes, the size of lines, and the time.
use Rattle.std.proofs.Common.{◌≡◌, ℕ, Bool, true, false, not, ◌&&◌, cond, refl, ap, ◌∙◌}
use Rattle.memory_contracts.specs.Store.{StoreView, after_wish, after_write, line_at, is_covered, stored, takes_wish, with_wish}

pub record IsShapedAs (old new : StoreView) : Type 0 where
  pub mapped : new.mapped ≡ old.mapped
  pub nodes : new.nodes ≡ old.nodes
  pub line_bytes : new.line_bytes ≡ old.line_bytes
  pub ticks : new.ticks ≡ old.ticks

pub shape-same : (old new : StoreView) → new ≡ old → IsShapedAs old new
shape-same old new e = record {
  mapped = ap (λ (v : StoreView). v.mapped) e;
  nodes = ap (λ (v : StoreView). v.nodes) e;
  line_bytes = ap (λ (v : StoreView). v.line_bytes) e;
  ticks = ap (λ (v : StoreView). v.ticks) e;
}

either : (v x y : StoreView) → IsShapedAs v x → IsShapedAs v y → (b : Bool) → IsShapedAs v (cond b x y)
either v x y of_x of_y true = of_x
either v x y of_x of_y false = of_y

itself : (v : StoreView) → IsShapedAs v v
itself v = record { mapped = refl; nodes = refl; line_bytes = refl; ticks = refl }

shape-along : (v x new : StoreView) → new ≡ x → IsShapedAs v x → IsShapedAs v new
shape-along v x new e is =
    let same = shape-same x new e in
    record {
      mapped = same.mapped ∙ is.mapped;
      nodes = same.nodes ∙ is.nodes;
      line_bytes = same.line_bytes ∙ is.line_bytes;
      ticks = same.ticks ∙ is.ticks;
    }

pub shape-write : (v new : StoreView) (p a n value : ℕ) → new ≡ after_write v p a n value → IsShapedAs v new
shape-write v new p a n value e =
    shape-along v (after_write v p a n value) new e
    (either v (record v { bytes = stored v.bytes a n value }) v (record { mapped = refl; nodes = refl; line_bytes = refl; ticks = refl }) (itself v) (v.owned p (line_at v a)))

pub shape-wish : (v new : StoreView) (p line : ℕ) (own : Bool) → new ≡ after_wish v p line own → IsShapedAs v new
shape-wish v new p line own e =
    shape-along v (after_wish v p line own) new e
    (either v (with_wish v p (record { line = line; own = own })) v (record { mapped = refl; nodes = refl; line_bytes = refl; ticks = refl }) (itself v) (takes_wish v p line own && not (is_covered v p line own)))
