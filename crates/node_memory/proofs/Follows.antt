-- What the calls of a node mean to the protocol.
use Rattle.std.proofs.Common.{◌≡◌, ℕ, suc, ◌%◌, Bool, true, false, cond, List, [], ◌∷◌, ◌++◌, map, Option, Some, None, inl, inr, is_some, option_map, refl, sym, ap, subst, ◌∙◌, arith}
use Rattle.std.specs.List.{Contains}
use Rattle.std.specs.Option.{option_map_or}
use Rattle.rsim_base.specs.declared.memory.Size.{Size}
use Rattle.cache_levels.specs.Bytes.{written_at}
use Rattle.cache_levels.specs.Levels as level
use Rattle.cache_levels.specs.Levels.{LevelsView, near, owned, touched_levels, touched_line, written}
use Rattle.cache_levels.specs.declared.levels.LineCopy.{LineCopy}
use Rattle.memory_contracts.specs.Protocol.Content.{bytes_of}
use Rattle.memory_contracts.specs.Protocol.Lines.{Owned}
use Rattle.memory_contracts.specs.Protocol.NodeTable.{granted}
use Rattle.memory_contracts.specs.Store.{IsLeftOf, Wish}
use Rattle.memory_contracts.specs.Updates.{with_at}
use Rattle.miss_registers.specs.Misses.{MissView, covers, register_of, victim_of}
use Rattle.node_memory.specs.Fetched.{started}
use Rattle.node_memory.specs.Laws.{BeginFollows, HeldFollows, MessageFollows, ReadFollows, WishesLeave, WriteFollows}
use Rattle.node_memory.specs.Nodes.{NodeView, awaits, copy_of, kept_as, line_at, mail}
use Rattle.node_memory.specs.Rows.{change_at, step_at}
use Rattle.node_memory.specs.Sides.{Begins, Side, side_of}
use Rattle.node_memory.specs.Starting.{Begun, arrived, first_begins, has_to_wait, meets, met, starts, uncovered}
use Rattle.node_memory.proofs.Beginning.{MayBegin, starts-follow}
use Rattle.node_memory.proofs.Below.{CacheLaws}
use Rattle.node_memory.proofs.Fits.{AreFit, fit-sound, rows, view-message}
use Rattle.node_memory.proofs.Held.{AreCopies, copies_of, held-copy, held-is}
use Rattle.node_memory.proofs.LineViews.{LineView, changed, kept, line_view, with_at-map}
use Rattle.node_memory.proofs.Touching.{AreAlike, alike-touched, arrive-alike, copies-alike, fit-alike, view-alike, view-written, written_view}

-- ---- a message

pub message-follows : CacheLaws → MessageFollows
message-follows laws m v sound awaited =
    let old = line_view v.levels v.misses in
    let new = changed (change_at m v) (old m.line) in
    let row = rows m.message (old m.line) in
    let view = view-message laws m v sound awaited in
    let copy = λ (l : ℕ). ap kept (view l) ∙ (with_at-map kept old m.line new l ∙ ap (λ c. with_at (copy_of v) m.line c l) (row.copy (fit-sound laws v sound m.line))) in
    let register = λ (l : ℕ). ap (λ (x : LineView). is_some x.register) (view l) ∙ (with_at-map (λ x. is_some x.register) old m.line new l ∙ ap (λ b. with_at (awaits v) m.line b l) row.register) in
    λ i. record { nodes = v.nodes; copies = λ l. copy l i; registers = λ l. register l i; outbox = v.outbox ++ map (mail v m.line) (step_at m v).sent }

-- ---- what no line sees

side-alike : (v : NodeView) (levels : LevelsView) → AreAlike v.levels levels → side_of (record v { levels = levels }) ≡ side_of v
side-alike v levels alike = let copy = λ (l : ℕ). ap kept (view-alike v.levels levels v.misses l alike) in λ i. record { nodes = v.nodes; copies = λ l. copy l i; registers = awaits v; outbox = v.outbox }

pub read-follows : CacheLaws → ReadFollows
read-follows laws a v sound = by (near (line_at v a) v.levels)
  where
    by : (b : Bool) → side_of (cond b (record v { levels = touched_levels (line_at v a) v.levels }) v) ≡ side_of v
    by true = side-alike v (touched_levels (line_at v a) v.levels) (alike-touched laws (line_at v a) v.levels (touched_line (line_at v a) v.levels.first) sound.levels.second)
    by false = refl

pub held-follows : CacheLaws → HeldFollows
held-follows laws v sound l = held-copy l v.levels (copies_of laws v.levels sound.levels) ∙ sym (held-is (level.copy_of l v.levels) (victim_of v.misses l))

-- ---- a write

written-owned : (at : ℕ) (n : Size) (value : ℕ) (x : LineView) (copy : Option LineCopy) → x.copy ≡ copy → option_map_or (λ (c : LineCopy). c.owned) copy false ≡ true → kept (written_view at n value x) ≡ Owned (written_at at n value (bytes_of (kept x)))
written-owned at n value x None is owns = absurd cc
written-owned at n value x (Some copy) is owns =
    ap (λ o. kept_as (option_map (λ (c : LineCopy). record c { bytes = written_at at n value c.bytes }) o) x.slot) is
    ∙ (ap (λ b. granted b (written_at at n value copy.bytes)) owns
    ∙ sym (ap (λ c. Owned (written_at at n value (bytes_of c))) (ap (λ o. kept_as o x.slot) is ∙ ap (λ b. granted b copy.bytes) owns)))

pub write-follows : CacheLaws → WriteFollows
write-follows laws a n value v sound owns = ap (λ b. side_of (cond b (record v { levels = touched_levels line (written a n value v.levels) }) v)) owns ∙ (λ i. record { nodes = v.nodes; copies = λ l. copy l i; registers = awaits v; outbox = v.outbox })
  where
    line : ℕ
    line = line_at v a

    old : ℕ → LineView
    old = line_view v.levels v.misses

    new : LineView
    new = written_view (a % v.levels.line_bytes) n value (old line)

    copy : (l : ℕ) → copy_of (record v { levels = touched_levels line (written a n value v.levels) }) l ≡ with_at (copy_of v) line (Owned (written_at (a % v.levels.line_bytes) n value (bytes_of (copy_of v line)))) l
    copy l =
        ap kept (view-written laws a n value v.levels v.misses l sound.levels)
        ∙ (with_at-map kept old line new l ∙ ap (λ c. with_at (copy_of v) line c l) (written-owned (a % v.levels.line_bytes) n value (old line) (old line).copy refl owns))

-- ---- the beginning of a tick

abbrev Follows : List Wish → Side → Begun → Type 0
Follows wishes old begun = Begins wishes old (side_of begun.after) begun.lost

contains-behind : (w x : Wish) (ws : List Wish) → Contains ws x → Contains (w ∷ ws) x
contains-behind w x ws (k, below, here) = (suc k, omega (arith, below), here)

uncovered-among : (misses : MissView) (ws : List Wish) (w : Wish) (rest : List Wish) → uncovered misses ws ≡ w ∷ rest → Contains ws w
uncovered-among misses [] w rest is = absurd cc
uncovered-among misses (x ∷ xs) w rest is = by (covers (register_of misses x.line) x.own) is (uncovered-among misses xs w rest)
  where
    by : (b : Bool) → cond b (uncovered misses xs) (x ∷ xs) ≡ w ∷ rest → (uncovered misses xs ≡ w ∷ rest → Contains xs w) → Contains (x ∷ xs) w
    by true is behind = contains-behind x w xs (behind is)
    by false is behind = let same : x ≡ w = cc in (0, omega arith, same)

first-follows : (now : ℕ) (wishes ws : List Wish) (v : NodeView) (s : Side) → side_of v ≡ s → AreCopies v.levels → AreFit v.levels v.misses → ((w : Wish) (rest : List Wish) → ws ≡ w ∷ rest → Contains wishes w) → Follows wishes s (first_begins now ws v)
first-follows now wishes [] v s same copies fit among = Begins.stays same
first-follows now wishes (w ∷ ws) v s same copies fit among = by_meets (meets w.own (copy_of v w.line)) refl
  where
    waiting : Begun
    waiting = record { answer = false; after = record v { wishes = w ∷ ws }; lost = [] }

    by_wait : (b : Bool) → has_to_wait w v ≡ b → meets w.own (copy_of v w.line) ≡ false → Follows wishes s (cond b waiting (starts w (record v { wishes = ws })))
    by_wait true ready unmet = Begins.stays same
    by_wait false ready unmet =
        let may : MayBegin w (record v { wishes = ws }) = record { unmet = unmet; ready = ready } in
        subst (λ s. Follows wishes s (starts w (record v { wishes = ws }))) same (starts-follow wishes w (record v { wishes = ws }) (among w ws refl) copies fit may)

    by_meets : (b : Bool) → meets w.own (copy_of v w.line) ≡ b → Follows wishes s (cond b (met now w (record v { wishes = ws })) (cond (has_to_wait w v) waiting (starts w (record v { wishes = ws }))))
    by_meets true unmet = Begins.stays same
    by_meets false unmet = by_wait (has_to_wait w v) refl unmet

pub begin-follows : CacheLaws → BeginFollows
begin-follows laws now v sound =
    let u = arrived now v in
    let alike = arrive-alike laws v.latency now v.coming v.levels sound.levels.second in
    let copies = copies-alike v.levels u.levels (copies_of laws v.levels sound.levels) alike in
    first-follows now v.wishes (uncovered v.misses v.wishes) u (side_of v) (side-alike v u.levels alike) copies
    (fit-alike v.levels u.levels v.misses alike (fit-sound laws v sound))
    (λ w rest is. uncovered-among v.misses v.wishes w rest is)

-- ---- wishes only leave

left-same : (ws : List Wish) → IsLeftOf ws ws
left-same [] = refl
left-same (w ∷ ws) = inr (ws, refl, left-same ws)

left-uncovered : (misses : MissView) (left ws : List Wish) → IsLeftOf left (uncovered misses ws) → IsLeftOf left ws
left-uncovered misses left [] is = is
left-uncovered misses left (w ∷ ws) is = by (covers (register_of misses w.line) w.own) is (left-uncovered misses left ws)
  where
    by : (b : Bool) → IsLeftOf left (cond b (uncovered misses ws) (w ∷ ws)) → (IsLeftOf left (uncovered misses ws) → IsLeftOf left ws) → IsLeftOf left (w ∷ ws)
    by true is rest = inl (rest is)
    by false is rest = is

first-left : (now : ℕ) (ws : List Wish) (v : NodeView) → IsLeftOf (first_begins now ws v).after.wishes ws
first-left now [] v = refl
first-left now (w ∷ ws) v = by (meets w.own (copy_of v w.line)) (has_to_wait w v)
  where
    waiting : Begun
    waiting = record { answer = false; after = record v { wishes = w ∷ ws }; lost = [] }

    by : (b d : Bool) → IsLeftOf (cond b (met now w (record v { wishes = ws })) (cond d waiting (starts w (record v { wishes = ws })))).after.wishes (w ∷ ws)
    by true d = inl (left-same ws)
    by false true = left-same (w ∷ ws)
    by false false = inl (subst (λ left. IsLeftOf left ws) (sym (started w (record v { wishes = ws })).0) (left-same ws))

pub wishes-leave : WishesLeave
wishes-leave now v = left-uncovered v.misses (first_begins now (uncovered v.misses v.wishes) (arrived now v)).after.wishes v.wishes (first-left now (uncovered v.misses v.wishes) (arrived now v))
