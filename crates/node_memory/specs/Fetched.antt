-- Lines on their way to the first level were fetched before: as they arrive, and as a node begins its part of a tick.
use Rattle.std.proofs.Common.{◌≡◌, ℕ, suc, ◌+◌, ◌<◌, Bool, true, false, cond, List, [], ◌∷◌, Option, Some, None, refl, sym, subst, arith}
use Rattle.std.proofs.lemmas.List.Elements.{All-push}
use Rattle.rsim_base.specs.declared.memory.Line.{Line}
use Rattle.cache_levels.specs.Levels as level
use Rattle.cache_levels.specs.Levels.{LevelsView}
use Rattle.cache_levels.specs.declared.levels.Evicted.{Evicted}
use Rattle.memory_contracts.specs.Store.{Wish}
use Rattle.node_memory.specs.Nodes.{Coming, NodeView, copy_of}
use Rattle.node_memory.specs.Sound.{AreBefore}
use Rattle.node_memory.specs.Starting.{Begun, arrive, arrived, asks, begins, evicts, first_begins, has_to_wait, is_absent, is_due, meets, met, near_if_held, starts, starts_absent, starts_shared, uncovered}

-- ---- lines arrive

-- what a list of lines has, if it is left of one in which each has it
pub left : (latency now : ℕ) (P : List Coming → Type 0) → ((c : Coming) (cs : List Coming) → P (c ∷ cs) → P cs) → (cs : List Coming) (levels : LevelsView) → P cs → P (arrive latency now cs levels).coming
left latency now P tail [] levels all = all
left latency now P tail (c ∷ cs) levels all = by (is_due latency now c) (left latency now P tail cs (near_if_held c.line levels) (tail c cs all))
  where
    by : (b : Bool) → P (arrive latency now cs (near_if_held c.line levels)).coming → P (cond b (arrive latency now cs (near_if_held c.line levels)) (record { levels = levels; coming = c ∷ cs })).coming
    by true rest = rest
    by false rest = all

pub before-tail : (now : ℕ) (c : Coming) (cs : List Coming) → AreBefore now (c ∷ cs) → AreBefore now cs
before-tail now c cs before = λ k d below. before (suc k) d (omega (arith, below))

pub arrive-before : (latency now : ℕ) (cs : List Coming) (levels : LevelsView) → AreBefore now cs → AreBefore now (arrive latency now cs levels).coming
arrive-before latency now = left latency now (AreBefore now) (before-tail now)

-- ---- a wish starts

-- a start leaves the wishes, and the lines on their way
pub started : (w : Wish) (v : NodeView) → ((starts w v).after.wishes ≡ v.wishes) × ((starts w v).after.coming ≡ v.coming)
started w v = by (is_absent (copy_of v w.line)) (level.evicted w.line v.levels)
  where
    leaving : (e : Evicted) (line : Option Line) → let after = asks w.line w.own (evicts w.line (record e { line = line }) v) in (after.wishes ≡ v.wishes) × (after.coming ≡ v.coming)
    leaving e None = (refl, refl)
    leaving e (Some line) = (refl, refl)

    by : (b : Bool) (e : Option Evicted) → let after = (cond b (starts_absent w e v) (starts_shared w v)).after in (after.wishes ≡ v.wishes) × (after.coming ≡ v.coming)
    by true None = (refl, refl)
    by true (Some e) = leaving e e.line
    by false e = (refl, refl)

-- ---- lines on their way were fetched before the next tick

before-next : (now : ℕ) (cs : List Coming) → AreBefore now cs → AreBefore (now + 1) cs
before-next now cs before = λ k d below. omega (arith, before k d below)

first-before : (now : ℕ) (ws : List Wish) (v : NodeView) → AreBefore now v.coming → AreBefore (now + 1) (first_begins now ws v).after.coming
first-before now [] v before = before-next now v.coming before
first-before now (w ∷ ws) v before = by (meets w.own (copy_of v w.line)) (has_to_wait w v)
  where
    fetched : Coming
    fetched = record { line = w.line; since = now }

    waiting : Begun
    waiting = record { answer = false; after = record v { wishes = w ∷ ws }; lost = [] }

    by : (b d : Bool) → AreBefore (now + 1) (cond b (met now w (record v { wishes = ws })) (cond d waiting (starts w (record v { wishes = ws })))).after.coming
    by true d = All-push (λ (c : Coming). c.since < now + 1) v.coming fetched (before-next now v.coming before) (omega arith)
    by false true = before-next now v.coming before
    by false false = subst (λ cs. AreBefore (now + 1) cs) (sym (started w (record v { wishes = ws })).1) (before-next now v.coming before)

pub begins-before : (now : ℕ) (v : NodeView) → AreBefore now v.coming → AreBefore (now + 1) (begins now v).after.coming
begins-before now v before = first-before now (uncovered v.misses v.wishes) (arrived now v) (arrive-before v.latency now v.coming v.levels before)
