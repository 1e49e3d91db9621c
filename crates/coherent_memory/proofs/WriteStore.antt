-- A write is one of the store.
use Rattle.std.proofs.Common.{◌≡◌, ℕ, ◌/◌, ◌%◌, ◌<◌, ◌≤◌, ◌==◌, Bool, true, false, cond, List, Option, None, Some, length, slice_get, slice_index, option_and_then, refl, sym, ap, ◌∙◌, arith, true≢false}
use Rattle.std.specs.Option.{option_map_or}
use Rattle.std.proofs.Math.Logic.{∥∥₁_elim}
use Rattle.std.proofs.Math.Nat.{ℕ_set}
use Rattle.std.proofs.lemmas.Bool.{cond_both, eq-eqb, eqb-true, ne_eqb}
use Rattle.rsim_base.specs.Bytes.{count_of}
use Rattle.rsim_base.specs.declared.memory.Size.{Size}
use Rattle.rsim_base.specs.Limits.{line_room}
use Rattle.memory_contracts.specs.Protocol.Content.{bytes_of}
use Rattle.memory_contracts.specs.Protocol.Laws.{OwnedHasContent, SharedHasContent}
use Rattle.memory_contracts.specs.Protocol.Lines.{Copy, Owned}
use Rattle.memory_contracts.specs.Protocol.NodeTable.{granted, is_held}
use Rattle.memory_contracts.specs.Store as store
use Rattle.memory_contracts.specs.Store.{StoreView, Wish, stored}
use Rattle.memory_contracts.specs.Updates.{with_at}
use Rattle.cache_levels.specs.Bytes.{written_at}
use Rattle.cache_levels.specs.Laws.{WriteReadsBack}
use Rattle.cache_levels.specs.Levels.{owned, touched_levels, written}
use Rattle.cache_levels.specs.Sizes.{IsLineSize}
use Rattle.cache_levels.specs.Sound.{AreSound}
use Rattle.cache_levels.specs.declared.levels.LineCopy.{LineCopy}
use Rattle.cache_sets.specs.Caches.{slot_of}
use Rattle.miss_registers.specs.Misses.{victim_of}
use Rattle.node_memory.specs.Laws.{WriteFollows}
use Rattle.node_memory.specs.Nodes.{NodeView, after_write, copy_of, kept_as, line_at}
use Rattle.node_memory.specs.Sides.{Side}
use Rattle.node_memory.specs.Sound.{IsSound}
use Rattle.coherent_memory.specs.SystemInvariants.{IsFine}
use Rattle.coherent_memory.specs.Laws.{HasWritten, NearAfterWrite, WritingKeeps}
use Rattle.coherent_memory.specs.Stores.{Shape, byte_at, store_of}
use Rattle.coherent_memory.specs.Systems.{System, content, is_kept}
use Rattle.coherent_memory.specs.Turns.{with_node}
use Rattle.coherent_memory.proofs.Accessing.{same-node}
use Rattle.coherent_memory.proofs.Meanings.{HasSame, byte-kept, same-wishes, with_node-store}
use Rattle.coherent_memory.proofs.Places.{All-at_place}
use Rattle.coherent_memory.proofs.ReadStore.{is_own, owned-is}
use Rattle.coherent_memory.proofs.Soundness.{owned-held}
use Rattle.coherent_memory.proofs.Stored.{stored-line}
use Rattle.coherent_memory.proofs.Values.{byte_at-kept, held_has-content}

-- what a write leaves beside the bytes
pub record ChangesBytes (v w : NodeView) : Type 0 where
  pub bytes : w.levels.line_bytes ≡ v.levels.line_bytes
  pub coming : w.coming ≡ v.coming
  pub wishes : w.wishes ≡ v.wishes

pub write-bytes : (a : ℕ) (n : Size) (value : ℕ) (v : NodeView) → ChangesBytes v (after_write a n value v)
write-bytes a n value v =
    cond_both (owned (line_at v a) v.levels) (record v { levels = touched_levels (line_at v a) (written a n value v.levels) }) v (λ (w : NodeView). ChangesBytes v w)
    (λ _. record { bytes = refl; coming = refl; wishes = refl })
    (λ _. record { bytes = refl; coming = refl; wishes = refl })

-- a line that is owned has room for the longest
granted-bytes : (own : Bool) (bytes : List ℕ) → bytes_of (granted own bytes) ≡ bytes
granted-bytes true bytes = refl
granted-bytes false bytes = refl

owned-length : (v : NodeView) (l : ℕ) → AreSound v.levels → owned l v.levels ≡ true → length (bytes_of (copy_of v l)) ≡ line_room
owned-length v l sound own = by-slot (slot_of l v.levels.second) own
  where
    by-copy : (k : ℕ) (o : Option LineCopy) → slice_get v.levels.copies k ≡ o → option_map_or (λ (c : LineCopy). c.owned) o false ≡ true → length (bytes_of (kept_as o (victim_of v.misses l))) ≡ line_room
    by-copy k None at own = absurd (true≢false (sym own))
    by-copy k (Some copy) at own = ap (λ (bs : List ℕ). length bs) (granted-bytes copy.owned copy.bytes) ∙ All-at_place (λ (c : LineCopy). length c.bytes ≡ line_room) v.levels.copies k copy sound.bytes at

    by-slot : (o : Option ℕ) → option_map_or (λ (c : LineCopy). c.owned) (option_and_then (slice_get v.levels.copies) o) false ≡ true → length (bytes_of (kept_as (option_and_then (slice_get v.levels.copies) o) (victim_of v.misses l))) ≡ line_room
    by-slot None own = absurd (true≢false (sym own))
    by-slot (Some k) own = by-copy k (slice_get v.levels.copies k) refl own

-- the node has of each line what it had
module _ (follows : WriteFollows) (nears : NearAfterWrite) (a : ℕ) (n : Size) (value : ℕ) (v : NodeView) (sound : IsSound v) (owns : owned (line_at v a) v.levels ≡ true) where
  abbrev bytes : List ℕ
  bytes = written_at (a % v.levels.line_bytes) n value (bytes_of (copy_of v (line_at v a)))

  copy-written : (l : ℕ) → copy_of (after_write a n value v) l ≡ with_at (copy_of v) (line_at v a) (Owned bytes) l
  copy-written l = ap (λ (side : Side). side.copies l) (follows a n value v sound owns)

  stays : (f : Copy → Bool) → f (Owned bytes) ≡ f (copy_of v (line_at v a)) → (l : ℕ) → f (with_at (copy_of v) (line_at v a) (Owned bytes) l) ≡ f (copy_of v l)
  stays f here l = by (l == line_at v a) refl
    where
      by : (b : Bool) → (l == line_at v a) ≡ b → f (cond b (Owned bytes) (copy_of v l)) ≡ f (copy_of v l)
      by true e = here ∙ ap (λ (k : ℕ). f (copy_of v k)) (sym (eqb-true l (line_at v a) e))
      by false e = refl

  pub write-same : HasSame v (after_write a n value v)
  write-same = record {
    held = λ l. ap is_held (copy-written l) ∙ stays is_held (sym (owned-held v (line_at v a) owns)) l;
    near = λ l. nears a l n value v sound;
    owned = λ l.
        owned-is (after_write a n value v) l
        ∙ (ap is_own (copy-written l)
        ∙ (stays is_own (sym (sym (owned-is v (line_at v a)) ∙ owns)) l
        ∙ sym (owned-is v l)));
  }

module _ (shared : SharedHasContent) (own : OwnedHasContent) (reads : WriteReadsBack) (shape : Shape) (s : System) (p a : ℕ) (n : Size) (value : ℕ) (below : p < shape.nodes) (size : IsLineSize shape.line_bytes)
    (bytes : (s.nodes p).levels.line_bytes ≡ shape.line_bytes) (aligned : a % count_of n ≡ 0) (sound : IsSound (s.nodes p)) (owns : owned (a / shape.line_bytes) (s.nodes p).levels ≡ true) where
  abbrev lb : ℕ
  lb = shape.line_bytes

  abbrev after : System
  after = with_node p (after_write a n value (s.nodes p)) s

  -- memory after the write
  module _ (fine : IsFine shape.nodes s) (done : HasWritten shape.nodes a n value (s.nodes p) s after) where
    kept-here : is_kept shape.nodes s (a / lb) ≡ true
    kept-here = (fine.right.nodes p below).copies (a / lb) (owned-held (s.nodes p) (a / lb) owns)

    long : lb ≤ length (content shape.nodes s (a / lb))
    long =
        let held = owned-held (s.nodes p) (a / lb) owns in
        let is : length (content shape.nodes s (a / lb)) ≡ line_room =
        ap (λ (bs : List ℕ). length bs) (sym (held_has-content shared own shape.nodes s p (a / lb) fine below held)) ∙ owned-length (s.nodes p) (a / lb) sound.levels owns in
        let high = size.high in
        omega (arith, is, high)

    line-is : line_at (s.nodes p) a ≡ a / lb
    line-is = ap (λ (w : ℕ). a / w) bytes

    content-written : (l : ℕ) → l ≡ a / lb → content shape.nodes after l ≡ written_at (a % lb) n value (content shape.nodes s (a / lb))
    content-written l same =
        done.content l (ap (is_kept shape.nodes s) same ∙ kept-here)
        ∙ (ap (λ (b : Bool). cond b (written_at (a % (s.nodes p).levels.line_bytes) n value (content shape.nodes s l)) (content shape.nodes s l)) (eq-eqb l (line_at (s.nodes p) a) (same ∙ sym line-is))
        ∙ (ap (λ (w : ℕ). written_at (a % w) n value (content shape.nodes s l)) bytes
        ∙ ap (λ (k : ℕ). written_at (a % lb) n value (content shape.nodes s k)) same))

    content-other : (l : ℕ) → (l ≡ a / lb → ⊥) → is_kept shape.nodes s l ≡ true → content shape.nodes after l ≡ content shape.nodes s l
    content-other l other kept =
        done.content l kept
        ∙ ap (λ (b : Bool). cond b (written_at (a % (s.nodes p).levels.line_bytes) n value (content shape.nodes s l)) (content shape.nodes s l))
        (ne_eqb l (line_at (s.nodes p) a) (λ same. other (same ∙ line-is)))

    byte-was : (c : ℕ) → c / lb ≡ a / lb → byte_at shape s c ≡ slice_index (content shape.nodes s (a / lb)) (c % lb)
    byte-was c same =
        byte_at-kept shape s c (ap (is_kept shape.nodes s) same ∙ kept-here) ∙ ap (λ (l : ℕ). slice_index (content shape.nodes s l) (c % lb)) same

    byte-is : (c : ℕ) → c / lb ≡ a / lb → byte_at shape after c ≡ slice_index (written_at (a % lb) n value (content shape.nodes s (a / lb))) (c % lb)
    byte-is c same =
        byte_at-kept shape after c (done.lines (c / lb) ∙ (ap (is_kept shape.nodes s) same ∙ kept-here)) ∙ ap (λ (bs : List ℕ). slice_index bs (c % lb)) (content-written (c / lb) same)

    byte-others : (c : ℕ) → (c / lb ≡ a / lb → ⊥) → byte_at shape after c ≡ byte_at shape s c
    byte-others c other =
        byte-kept (is_kept shape.nodes s (c / lb)) (is_kept shape.nodes after (c / lb)) (content shape.nodes s (c / lb)) (content shape.nodes after (c / lb)) (c % lb) (done.lines (c / lb)) (content-other (c / lb) other)

    byte-stored : (b : ℕ) → byte_at shape after b ≡ stored (byte_at shape s) a (count_of n) value b
    byte-stored b = stored-line reads lb a n value size aligned (content shape.nodes s (a / lb)) long (byte_at shape s) (byte_at shape after) b byte-was byte-is byte-others

  module _ (follows : WriteFollows) (nears : NearAfterWrite) (law : WritingKeeps) (fine : ∥ IsFine shape.nodes s ∥₁) (ticks : ℕ) where
    owns-line : owned (line_at (s.nodes p) a) (s.nodes p).levels ≡ true
    owns-line = ap (λ (w : ℕ). owned (a / w) (s.nodes p).levels) bytes ∙ owns

    bytes-stored : byte_at shape after ≡ stored (byte_at shape s) a (count_of n) value
    bytes-stored = λ i b. (∥∥₁_elim fine (ℕ_set (byte_at shape after b) (stored (byte_at shape s) a (count_of n) value b))
        (λ (f : IsFine shape.nodes s). byte-stored f (law shape.nodes p a n value s f below sound owns-line) b)) i

    pub store-owned : store_of shape ticks after ≡ record (store_of shape ticks s) { bytes = stored (byte_at shape s) a (count_of n) value }
    store-owned =
        with_node-store shape ticks s p (after_write a n value (s.nodes p)) (stored (byte_at shape s) a (count_of n) value) bytes-stored (write-same follows nears a n value (s.nodes p) sound owns-line)
        ∙ ap (λ (f : ℕ → List Wish). record (store_of shape ticks s) { bytes = stored (byte_at shape s) a (count_of n) value; wishes = f })
        (ap (λ (ws : List Wish). with_at (λ q. (s.nodes q).wishes) p ws) (write-bytes a n value (s.nodes p)).wishes ∙ same-wishes (λ q. (s.nodes q).wishes) p)

-- the laws that a write stands on
pub record WriteLaws : Type 0 where
  pub shared : SharedHasContent
  pub owned : OwnedHasContent
  pub reads : WriteReadsBack
  pub follows : WriteFollows
  pub nears : NearAfterWrite
  pub keeps : WritingKeeps

pub write-store : WriteLaws → (shape : Shape) (ticks : ℕ) (s t : System) (p a : ℕ) (n : Size) (value : ℕ) → ∥ IsFine shape.nodes s ∥₁ → p < shape.nodes → IsLineSize shape.line_bytes →
    (s.nodes p).levels.line_bytes ≡ shape.line_bytes → a % count_of n ≡ 0 → IsSound (s.nodes p) → t ≡ with_node p (after_write a n value (s.nodes p)) s →
    store_of shape ticks t ≡ store.after_write (store_of shape ticks s) p a (count_of n) value
write-store laws shape ticks s t p a n value fine below size bytes aligned sound is = ap (store_of shape ticks) is ∙ by (owned (a / shape.line_bytes) (s.nodes p).levels) refl
  where
    v : NodeView
    v = s.nodes p

    by : (b : Bool) → owned (a / shape.line_bytes) (s.nodes p).levels ≡ b →
        store_of shape ticks (with_node p (after_write a n value (s.nodes p)) s) ≡ cond b (record (store_of shape ticks s) { bytes = stored (byte_at shape s) a (count_of n) value }) (store_of shape ticks s)
    by true owns = store-owned laws.shared laws.owned laws.reads shape s p a n value below size bytes aligned sound owns laws.follows laws.nears laws.keeps fine ticks
    by false owns =
        let unowned : owned (line_at (s.nodes p) a) (s.nodes p).levels ≡ false = ap (λ (w : ℕ). owned (a / w) (s.nodes p).levels) bytes ∙ owns in
        let same : after_write a n value (s.nodes p) ≡ s.nodes p =
        ap (λ (b : Bool). cond b (record (s.nodes p) { levels = touched_levels (line_at (s.nodes p) a) (written a n value (s.nodes p).levels) }) (s.nodes p)) unowned in
        ap (store_of shape ticks) (same-node p (after_write a n value (s.nodes p)) s same)
