-- A node writes into a line that it owns: the content of that line changes, and of no other.
use Rattle.std.proofs.Common.{◌≡◌, ℕ, ◌<◌, ◌%◌, ◌==◌, Bool, true, false, cond, List, [], All, Option, None, Some, refl, sym, ap, subst, ◌∙◌, true≢false}
use Rattle.std.specs.Option.{option_map_or}
use Rattle.std.proofs.lemmas.Bool.{eqb-true}
use Rattle.std.proofs.lemmas.List.{append-nil}
use Rattle.machine_config.specs.declared.config.Protocol.TheVariants.{Msi}
use Rattle.memory_contracts.specs.Protocol.Coherent.{Coherent}
use Rattle.memory_contracts.specs.Protocol.Content.{bytes_of}
use Rattle.memory_contracts.specs.Protocol.Events.{Moment, Writes}
use Rattle.memory_contracts.specs.Protocol.Lines.{Owned, cell, with_cell, with_stance}
use Rattle.memory_contracts.specs.Protocol.NodeTable as table
use Rattle.memory_contracts.specs.Protocol.NodeTable.{granted, is_held}
use Rattle.memory_contracts.specs.Store.{Wish}
use Rattle.memory_contracts.specs.Updates.{with_at}
use Rattle.cache_levels.specs.Bytes.{written_at}
use Rattle.cache_levels.specs.Levels as level
use Rattle.cache_levels.specs.Levels.{LevelsView, owned}
use Rattle.cache_levels.specs.declared.levels.LineCopy.{LineCopy}
use Rattle.miss_registers.specs.Misses.{victim_of}
use Rattle.node_memory.specs.Nodes.{NodeView, after_write, copy_of, kept_as, line_at}
use Rattle.node_memory.specs.Sides.{Side, side_of}
use Rattle.coherent_memory.specs.SystemInvariants.{IsRight}
use Rattle.coherent_memory.specs.Laws.{WritingKeeps, written_in}
use Rattle.coherent_memory.specs.Systems.{System, content, is_kept, line_of}
use Rattle.coherent_memory.specs.Turns.{with_node}
use Rattle.coherent_memory.proofs.Keeping.{ProtocolLaws}
use Rattle.coherent_memory.proofs.NodeLaws.{NodeLaws}
use Rattle.coherent_memory.proofs.NodeRights.{IsRightSide, right-copies, right-node, right-side}
use Rattle.coherent_memory.proofs.Places.{with_at-other, with_at-same}
use Rattle.coherent_memory.proofs.Rights.{right_with_node}
use Rattle.coherent_memory.proofs.Sides.{ChangesAt, changes-away, changes-there, copy-there, register-there, seen, seen-other, seen-own, standing}

-- ---- a line that the caches own

owned-copy : (v : NodeView) (line : ℕ) → owned line v.levels ≡ true → copy_of v line ≡ Owned (bytes_of (copy_of v line))
owned-copy v line = by (level.copy_of line v.levels) (victim_of v.misses line)
  where
    by : (o : Option LineCopy) (slot : Option (Option (List ℕ))) → option_map_or (λ (copy : LineCopy). copy.owned) o false ≡ true → kept_as o slot ≡ Owned (bytes_of (kept_as o slot))
    by None slot e = absurd (true≢false (sym e))
    by (Some copy) slot e = subst (λ own. granted own copy.bytes ≡ Owned (bytes_of (granted own copy.bytes))) (sym e) refl

-- ---- what is no part of the side

module _ (levels : LevelsView) (v : NodeView) where
  cond-at : (b : Bool) → (cond b (record v { levels = levels }) v).at ≡ v.at
  cond-at true = refl
  cond-at false = refl

  cond-wishes : (b : Bool) → (cond b (record v { levels = levels }) v).wishes ≡ v.wishes
  cond-wishes true = refl
  cond-wishes false = refl

-- ---- the lines, where line k is changed

-- a side where line k is owned with other bytes
abbrev changed : ℕ → List ℕ → Side → Side
changed k bytes a = record a { copies = with_at a.copies k (Owned bytes) }

changed-changes : (k : ℕ) (bytes : List ℕ) (a : Side) → ChangesAt k [] (Owned bytes) (a.registers k) a (changed k bytes a)
changed-changes k bytes a = record {
  there_copy = with_at-same a.copies k (Owned bytes);
  there_register = refl;
  copies = λ l other. with_at-other a.copies k (Owned bytes) l other;
  registers = λ l other. refl;
  outbox = sym (append-nil a.outbox);
}

module _ (laws : ProtocolLaws) (n p : ℕ) (s : System) (below : p < n) (k : ℕ) (change : List ℕ → List ℕ) (bytes : List ℕ) (owns : copy_of (s.nodes p) k ≡ Owned bytes) where
  changed-there : (g : List ℕ) → Coherent n g (line_of n s k) → Coherent n (change g) (seen n s p (changed k (change bytes) (side_of (s.nodes p))) k)
  changed-there g co =
      let a = side_of (s.nodes p) in
      let l = line_of n s k in
      let before : Moment = record { content = g; line = l } in
      let after : Moment = record { content = change g; line = with_stance p (table.after_write (change bytes) (l.at p).stance) l } in
      let done : Coherent n (change g) (with_cell p (cell (table.after_write (change bytes) (l.at p).stance) (l.at p).words) l) =
      (laws.events Msi n (Writes p change) before after co (below, bytes, copy-there n s p a k ∙ owns, refl)).0 in
      laws.order n (change g) _ _ (changes-there n p s k [] (Owned (change bytes)) (a.registers k) a (changed k (change bytes) a) (changed-changes k (change bytes) a))
      (subst (λ r. Coherent n (change g) (with_cell p (standing (Owned (change bytes)) r (l.at p)) l)) (register-there n s p a k) done)

  changed-away : (l : ℕ) (g : List ℕ) → (l == k) ≡ false → Coherent n g (line_of n s l) → Coherent n g (seen n s p (changed k (change bytes) (side_of (s.nodes p))) l)
  changed-away l g other co =
      let a = side_of (s.nodes p) in
      laws.order n g _ _ (changes-away n p s k [] (Owned (change bytes)) (a.registers k) a (changed k (change bytes) a) (changed-changes k (change bytes) a) l other)
      (subst (λ m. Coherent n g m) (sym (seen-own n s p l)) co)

  changed-keeps : (l : ℕ) (g : List ℕ) → Coherent n g (line_of n s l) → Coherent n (cond (l == k) (change g) g) (seen n s p (changed k (change bytes) (side_of (s.nodes p))) l)
  changed-keeps l g co = by (l == k) refl
    where
      by : (b : Bool) → (l == k) ≡ b → Coherent n (cond b (change g) g) (seen n s p (changed k (change bytes) (side_of (s.nodes p))) l)
      by true e =
          let same = eqb-true l k e in
          subst (λ x. Coherent n (change g) (seen n s p (changed k (change bytes) (side_of (s.nodes p))) x)) (sym same)
          (changed-there g (subst (λ x. Coherent n g (line_of n s x)) same co))
      by false e = changed-away l g e co

right-changed : (n : ℕ) (kept : ℕ → Bool) (k : ℕ) (bytes : List ℕ) (a : Side) → is_held (a.copies k) ≡ true → IsRightSide n kept a → IsRightSide n kept (changed k bytes a)
right-changed n kept k bytes a there right = record {
  nodes = right.nodes;
  outbox = right.outbox;
  copies = right-copies kept a.copies k (Owned bytes) right.copies (λ held. right.copies k there);
}

-- ---- all of memory

pub writing_keeps : ProtocolLaws → NodeLaws → WritingKeeps
writing_keeps laws node n p a size value s fine below sound owns =
    let v = s.nodes p in
    let k = line_at v a in
    let w = after_write a size value v in
    let t = with_node p w s in
    let old = bytes_of (copy_of v k) in
    let change : List ℕ → List ℕ = written_at (a % v.levels.line_bytes) size value in
    let follows : side_of w ≡ changed k (change old) (side_of v) = node.write a size value v sound owns in
    let owned_there = owned-copy v k owns in
    let before = fine.right.nodes p below in
    let contents : ℕ → List ℕ = written_in a size value v (content n s) in
    let lines : (l : ℕ) → is_kept n s l ≡ true → Coherent n (contents l) (line_of n t l) = λ l kept.
    subst (λ m. Coherent n (contents l) m) (seen-other n s p w l)
    (subst (λ (b : Side). Coherent n (contents l) (seen n s p b l)) (sym follows)
    (changed-keeps laws n p s below k change old owned_there l (content n s l) (fine.lines l kept))) in
    let written = level.touched_levels k (level.written a size value v.levels) in
    let right : IsRight n (is_kept n s) t = right_with_node p w fine.right (λ inside. right-node n (is_kept n s) p w
    (cond-at written v (owned k v.levels) ∙ before.at)
    (subst (λ (ws : List Wish). All (λ (w : Wish). is_kept n s w.line ≡ true) ws) (sym (cond-wishes written v (owned k v.levels))) before.wishes)
    (subst (λ (b : Side). IsRightSide n (is_kept n s) b) (sym follows)
    (right-changed n (is_kept n s) k (change old) (side_of v) (ap is_held owned_there) (right-side n (is_kept n s) p v before)))) in
    record {
      fine = record {
        some = fine.some;
        right = right;
        lines = λ l kept. subst (λ g. Coherent n g (line_of n t l)) (sym (laws.current n (contents l) (line_of n t l) (lines l kept))) (lines l kept);
      };
      lines = λ l. refl;
      content = λ l kept. laws.current n (contents l) (line_of n t l) (lines l kept);
    }
