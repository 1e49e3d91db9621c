-- A node begins its part of a tick: lines stay coherent where a line leaves, and where one is asked for.
use Rattle.std.proofs.Common.{◌≡◌, ℕ, ◌<◌, Bool, true, false, cond, List, [], ◌∷◌, ◌++◌, All, Option, None, Some, ⊎_elim, refl, sym, ap, subst, ◌∙◌, true≢false}
use Rattle.std.specs.Option.{option_map_or}
use Rattle.std.proofs.lemmas.List.Elements.{All-cons, All-contains, All-head, All-nil, All-tail}
use Rattle.rsim_base.specs.declared.memory.Line.{Line}
use Rattle.machine_config.specs.declared.config.Protocol.TheVariants.{Msi}
use Rattle.memory_contracts.specs.Protocol.Coherent.{Coherent}
use Rattle.memory_contracts.specs.Protocol.Events.{Evicts, Moment, Starts, becomes, is_to_home}
use Rattle.memory_contracts.specs.Protocol.Lines.{Absent, Cell, Copy, Emptied, Evicting, Owned, Shared, all_mailed, cell, mailed, with_cell}
use Rattle.memory_contracts.specs.Protocol.Messages.{GetM, GetS, Message, Put, get}
use Rattle.memory_contracts.specs.Protocol.NodeTable.{after_eviction, after_start, evicted, may_start, put_back}
use Rattle.memory_contracts.specs.Store.{IsLeftOf, Wish}
use Rattle.memory_contracts.specs.Updates.{with_at}
use Rattle.cache_levels.specs.Levels.{evicted as evicted_for, with_room}
use Rattle.cache_levels.specs.declared.levels.Evicted.{Evicted}
use Rattle.node_memory.specs.Nodes.{NodeView, copy_of, with_mails}
use Rattle.node_memory.specs.Sides.{Begins, evicts, starts, stays, MayStart, Side, asks_for, evicts_line, side_of}
use Rattle.node_memory.specs.Starting.{Begun, arrived, begins, first_begins, has_to_wait, is_absent, meets, met, put_for, slots_with, starts as starts_wish, starts_absent, starts_shared, uncovered}
use Rattle.coherent_memory.specs.Laws.{BeginKeeps}
use Rattle.coherent_memory.specs.Systems.{System, content, is_kept, line_of}
use Rattle.coherent_memory.specs.Turns.{begun}
use Rattle.coherent_memory.proofs.Keeping.{ProtocolLaws, keeps}
use Rattle.coherent_memory.proofs.Leaving.{evicted-not_held}
use Rattle.coherent_memory.proofs.NodeLaws.{NodeLaws}
use Rattle.coherent_memory.proofs.NodeRights.{IsRightSide, right-copies, right-node, right-sends, right-side}
use Rattle.coherent_memory.proofs.Places.{eqb-sym, with_at-other, with_at-same}
use Rattle.coherent_memory.proofs.Rights.{right_with_node}
use Rattle.coherent_memory.proofs.Sides.{ChangesAt, cell-at, copy-there, register-there, seen, seen-other, seen-own, side-step, side_cell, stance-at, standing}

-- ---- a side that asks for a line, or evicts one

asks-changes : (line : ℕ) (own : Bool) (a : Side) → ChangesAt line (get own ∷ []) (a.copies line) true a (asks_for line own a)
asks-changes line own a = record {
  there_copy = refl;
  there_register = with_at-same a.registers line true;
  copies = λ l other. refl;
  registers = λ l other. with_at-other a.registers line true l other;
  outbox = refl;
}

evicts-changes : (line : ℕ) (a : Side) → ChangesAt line (put_back (a.copies line)) (evicted (a.copies line)) (a.registers line) a (evicts_line line a)
evicts-changes line a = record {
  there_copy = with_at-same a.copies line (evicted (a.copies line));
  there_register = refl;
  copies = λ l other. with_at-other a.copies line (evicted (a.copies line)) l other;
  registers = λ l other. refl;
  outbox = refl;
}

-- ---- the protocol's events

asking-cell : (own : Bool) (copy : Copy) (c : Cell) → c.stance.copy ≡ copy → cell (after_start own c.stance) c.words ≡ mailed (get own) (standing copy true c)
asking-cell true copy c e = ap (λ k. cell (record c.stance { copy = k; register = true; asked = GetM ∷ c.stance.asked }) c.words) e
asking-cell false copy c e = ap (λ k. cell (record c.stance { copy = k; register = true; asked = GetS ∷ c.stance.asked }) c.words) e

evicting-cell : (copy : Copy) (register : Bool) (c : Cell) → c.stance.copy ≡ copy → c.stance.register ≡ register → cell (after_eviction c.stance) c.words ≡ all_mailed (put_back copy) (standing (evicted copy) register c)
evicting-cell copy register c e f =
    ap (λ k. cell (record c.stance { copy = evicted k; asked = put_back k ++ c.stance.asked }) c.words) e
    ∙ ap (λ r. cell (record c.stance { copy = evicted copy; register = r; asked = put_back copy ++ c.stance.asked }) c.words) f
    ∙ by copy
  where
    by : (copy : Copy) → cell (record c.stance { copy = evicted copy; register = register; asked = put_back copy ++ c.stance.asked }) c.words ≡ all_mailed (put_back copy) (standing (evicted copy) register c)
    by Absent = refl
    by (Shared bytes) = refl
    by (Owned bytes) = refl
    by (Evicting bytes) = refl
    by Emptied = refl

module _ (laws : ProtocolLaws) (n p : ℕ) (s : System) (below : p < n) where
  asks-there : (w : Wish) (a : Side) → MayStart w a → (g : List ℕ) → Coherent n g (seen n s p a w.line)
      → Coherent n g (with_cell p (all_mailed (get w.own ∷ []) (standing (a.copies w.line) true (side_cell n s p a w.line))) (line_of n s w.line))
  asks-there w a may g co =
      let c = side_cell n s p a w.line in
      let l = line_of n s w.line in
      let before : Moment = record { content = g; line = seen n s p a w.line } in
      let after : Moment = becomes (with_cell p (cell (after_start w.own ((with_cell p c l).at p).stance) ((with_cell p c l).at p).words) (with_cell p c l)) before in
      let copy : ((with_cell p c l).at p).stance.copy ≡ a.copies w.line = ap (λ (d : Cell). d.stance.copy) (cell-at p c l) ∙ copy-there n s p a w.line in
      let register : ((with_cell p c l).at p).stance.register ≡ a.registers w.line = ap (λ (d : Cell). d.stance.register) (cell-at p c l) ∙ register-there n s p a w.line in
      let done = (laws.events Msi n (Starts p w.own) before after co (below, ap (may_start w.own) copy ∙ may.copy, register ∙ may.register, refl)).0 in
      subst (λ d. Coherent n g (with_cell p d l)) (asking-cell w.own (a.copies w.line) c (copy-there n s p a w.line))
      (subst (λ m. Coherent n g m) (stance-at p (after_start w.own) c l) done)

  evicts-there : (line : ℕ) (a : Side) (g : List ℕ) → Coherent n g (seen n s p a line)
      → Coherent n g (with_cell p (all_mailed (put_back (a.copies line)) (standing (evicted (a.copies line)) (a.registers line) (side_cell n s p a line))) (line_of n s line))
  evicts-there line a g co =
      let c = side_cell n s p a line in
      let l = line_of n s line in
      let before : Moment = record { content = g; line = seen n s p a line } in
      let after : Moment = becomes (with_cell p (cell (after_eviction ((with_cell p c l).at p).stance) ((with_cell p c l).at p).words) (with_cell p c l)) before in
      let done = (laws.events Msi n (Evicts p) before after co (below, refl)).0 in
      subst (λ d. Coherent n g (with_cell p d l)) (evicting-cell (a.copies line) (a.registers line) c (copy-there n s p a line) (register-there n s p a line))
      (subst (λ m. Coherent n g m) (stance-at p after_eviction c l) done)

  asks-keep : (w : Wish) (a : Side) → MayStart w a → (l : ℕ) (g : List ℕ) → Coherent n g (seen n s p a l) → Coherent n g (seen n s p (asks_for w.line w.own a) l)
  asks-keep w a may = side-step laws n p s w.line (get w.own ∷ []) (a.copies w.line) true a (asks_for w.line w.own a) (asks-changes w.line w.own a) (asks-there w a may)

  evicts-keep : (line : ℕ) (a : Side) → (l : ℕ) (g : List ℕ) → Coherent n g (seen n s p a l) → Coherent n g (seen n s p (evicts_line line a) l)
  evicts-keep line a = side-step laws n p s line (put_back (a.copies line)) (evicted (a.copies line)) (a.registers line) a (evicts_line line a) (evicts-changes line a) (evicts-there line a)

  begins-keep : (wishes : List Wish) (a b : Side) (lost : List ℕ) → Begins wishes a b lost → (l : ℕ) (g : List ℕ) → Coherent n g (seen n s p a l) → Coherent n g (seen n s p b l)
  begins-keep wishes a b _ (stays same) l g co = subst (λ (c : Side). Coherent n g (seen n s p c l)) (sym same) co
  begins-keep wishes a b _ (starts w among may same) l g co = subst (λ (c : Side). Coherent n g (seen n s p c l)) (sym same) (asks-keep w a may l g co)
  begins-keep wishes a b _ (evicts w victim among may leave same) l g co =
      let still : (evicts_line victim a).copies w.line ≡ a.copies w.line = with_at-other a.copies victim (evicted (a.copies victim)) w.line (eqb-sym victim w.line false leave.other) in
      let may_still : MayStart w (evicts_line victim a) = record { copy = ap (may_start w.own) still ∙ may.copy; register = may.register } in
      subst (λ (c : Side). Coherent n g (seen n s p c l)) (sym same) (asks-keep w (evicts_line victim a) may_still l g (evicts-keep victim a l g co))

-- ---- what a node has is where it belongs

asks-home : (own : Bool) → is_to_home (get own) ≡ true
asks-home true = refl
asks-home false = refl

puts-home : (copy : Copy) → All (λ m. is_to_home m ≡ true) (put_back copy)
puts-home Absent = All-nil (λ m. is_to_home m ≡ true)
puts-home (Shared bytes) = All-nil (λ m. is_to_home m ≡ true)
puts-home (Owned bytes) = All-cons (λ m. is_to_home m ≡ true) (Put bytes) [] refl (All-nil (λ m. is_to_home m ≡ true))
puts-home (Evicting bytes) = All-nil (λ m. is_to_home m ≡ true)
puts-home Emptied = All-nil (λ m. is_to_home m ≡ true)

module _ (n : ℕ) (kept : ℕ → Bool) where
  right-asks : (line : ℕ) (own : Bool) (a : Side) → kept line ≡ true → IsRightSide n kept a → IsRightSide n kept (asks_for line own a)
  right-asks line own a there right = right-sends n kept line (get own ∷ []) (record a { registers = with_at a.registers line true }) there (All-cons (λ m. is_to_home m ≡ true) (get own) [] (asks-home own) (All-nil (λ m. is_to_home m ≡ true)))
      (record { nodes = right.nodes; outbox = right.outbox; copies = right.copies })

  right-evicts : (line : ℕ) (a : Side) → kept line ≡ true → IsRightSide n kept a → IsRightSide n kept (evicts_line line a)
  right-evicts line a there right = right-sends n kept line (put_back (a.copies line)) (record a { copies = with_at a.copies line (evicted (a.copies line)) }) there (puts-home (a.copies line))
      (record { nodes = right.nodes; outbox = right.outbox; copies = right-copies kept a.copies line (evicted (a.copies line)) right.copies (λ held. absurd (true≢false (sym held ∙ evicted-not_held (a.copies line)))) })

  right-begins : (wishes : List Wish) (a b : Side) (lost : List ℕ) → Begins wishes a b lost → All (λ (w : Wish). kept w.line ≡ true) wishes → IsRightSide n kept a → IsRightSide n kept b
  right-begins wishes a b _ (stays same) wished right = subst (λ (c : Side). IsRightSide n kept c) (sym same) right
  right-begins wishes a b _ (starts w among may same) wished right =
      subst (λ (c : Side). IsRightSide n kept c) (sym same) (right-asks w.line w.own a (All-contains (λ (w : Wish). kept w.line ≡ true) wishes w wished among) right)
  right-begins wishes a b _ (evicts w victim among may leave same) wished right =
      subst (λ (c : Side). IsRightSide n kept c) (sym same)
      (right-asks w.line w.own (evicts_line victim a) (All-contains (λ (w : Wish). kept w.line ≡ true) wishes w wished among)
      (right-evicts victim a (right.copies victim leave.held) right))

-- ---- what is no part of the side

put-at : (e : Option Line) (v : NodeView) (ms : List Message) → (option_map_or (λ (line : Line). with_mails line.0 ms v) e v).at ≡ v.at
put-at None v ms = refl
put-at (Some line) v ms = refl

starts-at : (w : Wish) (e : Option Evicted) (v : NodeView) → (starts_absent w e v).after.at ≡ v.at
starts-at w None v = refl
starts-at w (Some e) v = put-at e.line (record v { levels = with_room w.line v.levels; misses = slots_with e v.misses }) (put_for e)

either-at : (b : Bool) (x y : Begun) (at : ℕ) → x.after.at ≡ at → y.after.at ≡ at → (cond b x y).after.at ≡ at
either-at true x y at e f = e
either-at false x y at e f = f

first-at : (now : ℕ) (ws : List Wish) (v : NodeView) → (first_begins now ws v).after.at ≡ v.at
first-at now [] v = refl
first-at now (w ∷ ws) v =
    let u : NodeView = record v { wishes = ws } in
    let waits : Begun = record { answer = false; after = record v { wishes = w ∷ ws }; lost = [] } in
    either-at (meets w.own (copy_of v w.line)) (met now w u) (cond (has_to_wait w v) waits (starts_wish w u)) v.at refl
    (either-at (has_to_wait w v) waits (starts_wish w u) v.at refl
    (either-at (is_absent (copy_of v w.line)) (starts_absent w (evicted_for w.line v.levels) u) (starts_shared w u) v.at (starts-at w (evicted_for w.line v.levels) u) refl))

begins-at : (now : ℕ) (v : NodeView) → (begins now v).after.at ≡ v.at
begins-at now v = first-at now (uncovered (arrived now v).misses (arrived now v).wishes) (arrived now v)

left-all : (P : Wish → Type 0) (left all : List Wish) → IsLeftOf left all → All P all → All P left
left-all P left [] none each = subst (λ (ws : List Wish). All P ws) (sym none) (All-nil P)
left-all P left (w ∷ all) is each = ⊎_elim
    (λ skipped. left-all P left all skipped (All-tail P w all each))
    (λ there. subst (λ (ws : List Wish). All P ws) (sym there.1) (All-cons P w there.0 (All-head P w all each) (left-all P there.0 all there.2 (All-tail P w all each))))
    is

-- ---- all of memory

pub begin_keeps : ProtocolLaws → NodeLaws → BeginKeeps
begin_keeps laws node n p now s fine below sound =
    let v = s.nodes p in
    let w = (begins now v).after in
    let begun_as = node.begin now v sound in
    let before = fine.right.nodes p below in
    keeps laws n s (begun p now s) fine.some refl
    (right_with_node p w fine.right (λ inside. right-node n (is_kept n s) p w
    (begins-at now v ∙ before.at)
    (left-all (λ (w : Wish). is_kept n s w.line ≡ true) w.wishes v.wishes (node.wishes now v) before.wishes)
    (right-begins n (is_kept n s) v.wishes (side_of v) (side_of w) (begins now v).lost begun_as before.wishes (right-side n (is_kept n s) p v before))))
    (λ l kept.
    subst (λ m. Coherent n (content n s l) m) (seen-other n s p w l)
    (begins-keep laws n p s below v.wishes (side_of v) (side_of w) (begins now v).lost begun_as l (content n s l)
    (subst (λ m. Coherent n (content n s l) m) (sym (seen-own n s p l)) (fine.lines l kept))))
