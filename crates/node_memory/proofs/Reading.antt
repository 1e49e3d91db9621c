-- A value that is read in the bytes of a line is the one at its address.
use Rattle.std.proofs.Common.{◌≡◌, ℕ, zero, suc, ◌+◌, ◌*◌, ◌/◌, ◌%◌, ◌<◌, ◌≤◌, Bool, true, false, List, Option, None, Some, cond, is_some, option_map, slice_index, refl, sym, ap, ◌∙◌, arith}
use Rattle.std.proofs.Math.Nat.{mul_assoc}
use Rattle.std.proofs.lemmas.Nat.{div-add-mod', div-mul-add, mod-mul-add}
use Rattle.rsim_base.specs.Bytes.{count_of}
use Rattle.rsim_base.specs.declared.memory.Size.{Size}
use Rattle.rsim_base.specs.declared.memory.Size.TheVariants.{B1, B2, B4, B8}
use Rattle.cache_levels.specs.Levels as level
use Rattle.cache_levels.specs.Levels.{near, touched_levels, touched_line}
use Rattle.cache_levels.specs.Sizes.{IsLineSize}
use Rattle.cache_levels.specs.declared.levels.LineCopy.{LineCopy}
use Rattle.memory_contracts.specs.Protocol.Content.{bytes_of}
use Rattle.memory_contracts.specs.Protocol.NodeTable.{granted}
use Rattle.memory_contracts.specs.Store.{value_at}
use Rattle.miss_registers.specs.Misses.{victim_of}
use Rattle.node_memory.specs.Nodes.{NodeView, byte_in, copy_of, kept_as, line_at, read_of}
use Rattle.node_memory.specs.Sound.{IsSound}
use Rattle.node_memory.proofs.Below.{CacheLaws}
use Rattle.node_memory.proofs.Held.{copies_of, held-copy}
use Rattle.node_memory.proofs.LineViews.{LineView}
use Rattle.node_memory.proofs.Touching.{alike-touched, view-alike}

value-agrees : (f g : ℕ → ℕ) (a b n : ℕ) → ((k : ℕ) → k < n → f (a + k) ≡ g (b + k)) → value_at f a n ≡ value_at g b n
value-agrees f g a b zero same = refl
value-agrees f g a b (suc n) same =
    let lower = value-agrees f g a b n (λ k below. same k (omega (arith, below))) in
    let last = same n (omega arith) in
    omega (arith, lower, last)

-- no aligned access reaches past the end of its line
aligned-fits : (bytes a : ℕ) (n : Size) → IsLineSize bytes → a % count_of n ≡ 0 → a % bytes + count_of n ≤ bytes
aligned-fits bytes a n size aligned =
    let low = size.low in
    let words = size.words in
    let parts = div-add-mod' a bytes in
    let eights : bytes ≡ bytes / 8 * 8 = omega (arith, words) in
    let product : a / bytes * bytes ≡ a / bytes * (bytes / 8) * 8 = ap (λ x. a / bytes * x) eights ∙ sym (mul_assoc (a / bytes) (bytes / 8) 8) in
    by n (a / bytes * (bytes / 8)) (a % bytes) (bytes / 8) aligned (omega (arith, parts, product)) eights (omega (arith, low))
  where
    by : (n : Size) (p r m : ℕ) → a % count_of n ≡ 0 → a ≡ p * 8 + r → bytes ≡ m * 8 → r < bytes → r + count_of n ≤ bytes
    by B1 p r m aligned parts eights below = omega (arith, below)
    by B2 p r m aligned parts eights below = let even : a % 2 ≡ 0 = aligned in omega (arith, even, parts, eights, below)
    by B4 p r m aligned parts eights below = let even : a % 4 ≡ 0 = aligned in omega (arith, even, parts, eights, below)
    by B8 p r m aligned parts eights below = let even : a % 8 ≡ 0 = aligned in omega (arith, even, parts, eights, below)

-- a byte behind the first, in the same line
byte-behind : (v : NodeView) (a k : ℕ) → 0 < v.levels.line_bytes → a % v.levels.line_bytes + k < v.levels.line_bytes → byte_in v (a + k) ≡ slice_index (bytes_of (copy_of v (line_at v a))) (a % v.levels.line_bytes + k)
byte-behind v a k some below =
    let n = v.levels.line_bytes in
    let parts : a + k ≡ a / n * n + (a % n + k) = omega (arith, div-add-mod' a n) in
    let line : (a + k) / n ≡ a / n = ap (λ x. x / n) parts ∙ div-mul-add (a / n) n (a % n + k) below in
    let place : (a + k) % n ≡ a % n + k = ap (λ x. x % n) parts ∙ mod-mul-add (a / n) n (a % n + k) below in
    ap (λ l. slice_index (bytes_of (copy_of v l)) ((a + k) % n)) line ∙ ap (slice_index (bytes_of (copy_of v (line_at v a)))) place

bytes-kept : (copy : Option LineCopy) (slot : Option (Option (List ℕ))) (bytes : List ℕ) → option_map (λ (c : LineCopy). c.bytes) copy ≡ Some bytes → bytes_of (kept_as copy slot) ≡ bytes
bytes-kept None slot bytes is = absurd cc
bytes-kept (Some copy) slot bytes is = by copy.owned ∙ (let same : copy.bytes ≡ bytes = cc in same)
  where
    by : (b : Bool) → bytes_of (granted b copy.bytes) ≡ copy.bytes
    by true = refl
    by false = refl

pub read-value : CacheLaws → (v : NodeView) (a : ℕ) (n : Size) (bytes : List ℕ) → IsSound v → a % count_of n ≡ 0 →
    option_map (λ (c : LineCopy). c.bytes) (level.copy_of (line_at v a) (touched_levels (line_at v a) v.levels)) ≡ Some bytes →
    value_at (slice_index bytes) (a % v.levels.line_bytes) (count_of n) ≡ value_at (byte_in v) a (count_of n)
read-value laws v a n bytes sound aligned is =
    let line = line_at v a in
    let size = sound.levels.line_bytes in
    let low = size.low in
    let fits = aligned-fits v.levels.line_bytes a n size aligned in
    let view = view-alike v.levels (touched_levels line v.levels) v.misses line (alike-touched laws line v.levels (touched_line line v.levels.first) sound.levels.second) in
    let there = bytes-kept (level.copy_of line v.levels) (victim_of v.misses line) bytes (sym (ap (λ (x : LineView). option_map (λ (c : LineCopy). c.bytes) x.copy) view) ∙ is) in
    value-agrees (slice_index bytes) (byte_in v) (a % v.levels.line_bytes) a (count_of n)
    (λ k below. ap (λ (bs : List ℕ). slice_index bs (a % v.levels.line_bytes + k)) (sym there) ∙ sym (byte-behind v a k (omega (arith, low)) (omega (arith, fits, below))))

pub read-near : (v : NodeView) (a : ℕ) (n : Size) → near (line_at v a) v.levels ≡ true → read_of v a n ≡ Some (value_at (byte_in v) a (count_of n))
read-near v a n there = ap {B = Option ℕ} (λ b. cond b (Some (value_at (byte_in v) a (count_of n))) None) there

-- a line that is near has bytes
pub near-has_bytes : CacheLaws → (line : ℕ) (v : NodeView) → IsSound v → near line v.levels ≡ true → option_map (λ (c : LineCopy). c.bytes) (level.copy_of line (touched_levels line v.levels)) ≡ None → ⊥
near-has_bytes laws line v sound there none =
    let held : is_some (level.copy_of line v.levels) ≡ true = sym (held-copy line v.levels (copies_of laws v.levels sound.levels)) ∙ sound.levels.near_is_held line there in
    let view = view-alike v.levels (touched_levels line v.levels) v.misses line (alike-touched laws line v.levels (touched_line line v.levels.first) sound.levels.second) in
    by (level.copy_of line v.levels) held (sym (ap (λ (x : LineView). option_map (λ (c : LineCopy). c.bytes) x.copy) view) ∙ none)
  where
    by : (copy : Option LineCopy) → is_some copy ≡ true → option_map (λ (c : LineCopy). c.bytes) copy ≡ None → ⊥
    by None some none = cc
    by (Some copy) some none = cc
