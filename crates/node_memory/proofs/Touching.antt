-- Changes of recency, which no line sees: a line comes near, is read or written.
use Rattle.std.proofs.Common.{◌≡◌, ℕ, ◌/◌, ◌%◌, Bool, true, false, cond, List, [], ◌∷◌, length, Option, Some, None, option_map, refl, sym, ap, subst, ◌∙◌}
use Rattle.std.specs.Option.{option_map_or}
use Rattle.rsim_base.specs.declared.memory.Size.{Size}
use Rattle.cache_sets.specs.Caches.{CacheView, slot_count, slot_of, touched}
use Rattle.cache_sets.specs.Lookups.{LooksUpAsBefore}
use Rattle.cache_sets.specs.Sound.{IsSound}
use Rattle.cache_levels.specs.Bytes.{written_at}
use Rattle.cache_levels.specs.Levels.{LevelsView, brought, held, touched_levels, touched_line, with_line, written}
use Rattle.cache_levels.specs.Sound.{AreSound}
use Rattle.cache_levels.specs.declared.levels.LineCopy.{LineCopy}
use Rattle.cache_levels.specs.Slots.{copy_in}
use Rattle.memory_contracts.specs.Updates.{with_at}
use Rattle.miss_registers.specs.Misses.{MissView}
use Rattle.node_memory.specs.Nodes.{Coming, NodeView, line_at}
use Rattle.node_memory.specs.Sound as node
use Rattle.node_memory.specs.Starting.{arrive, is_due, near_if_held}
use Rattle.node_memory.proofs.Below.{CacheLaws}
use Rattle.node_memory.proofs.Fits.{AreFit, IsFit, fit-sound, fit-with_at, sound-with}
use Rattle.node_memory.proofs.Held.{AreCopies}
use Rattle.node_memory.proofs.LineViews.{LineView, line_view, view-with_at, with_at-same}
use Rattle.cache_sets.specs.Recency.{IsSound-touched, slot_count-touched}

-- every line looks the same
pub record AreAlike (old new : LevelsView) : Type 0 where
  pub second : IsSound new.second
  pub looks : LooksUpAsBefore old.second new.second
  pub copies : new.copies ≡ old.copies
  pub slots : slot_count new.second ≡ slot_count old.second
  pub line_bytes : new.line_bytes ≡ old.line_bytes

pub view-alike : (old new : LevelsView) (misses : MissView) (l : ℕ) → AreAlike old new → line_view new misses l ≡ line_view old misses l
view-alike old new misses l alike =
    let copy = ap (λ copies. copy_in copies (slot_of l new.second)) alike.copies ∙ ap (copy_in old.copies) (alike.looks.slot l) in
    let way = alike.looks.reserved l in
    λ i. record { copy = copy i; slot = (line_view old misses l).slot; register = (line_view old misses l).register; way = way i }

pub copies-alike : (old new : LevelsView) → AreCopies old → AreAlike old new → AreCopies new
copies-alike old new copies alike = record { laws = copies.laws; second = alike.second; copies = ap length alike.copies ∙ (copies.copies ∙ sym alike.slots) }

alike-same : (levels : LevelsView) → IsSound levels.second → AreAlike levels levels
alike-same levels sound = record { second = sound; looks = record { slot = λ l. refl; reserved = λ l. refl }; copies = refl; slots = refl; line_bytes = refl }

alike-then : (a b c : LevelsView) → AreAlike a b → AreAlike b c → AreAlike a c
alike-then a b c first then = record {
  second = then.second;
  looks = record { slot = λ l. then.looks.slot l ∙ first.looks.slot l; reserved = λ l. then.looks.reserved l ∙ first.looks.reserved l };
  copies = then.copies ∙ first.copies;
  slots = then.slots ∙ first.slots;
  line_bytes = then.line_bytes ∙ first.line_bytes;
}

abbrev touched_by : CacheView → Option ℕ → CacheView
touched_by cache slot = option_map_or (λ s. touched s cache) slot cache

pub alike-touched : CacheLaws → (line : ℕ) (levels : LevelsView) (first : CacheView) → IsSound levels.second → AreAlike levels (record levels { first = first; second = touched_line line levels.second })
alike-touched laws line levels first sound = by (slot_of line levels.second) refl
  where
    by : (slot : Option ℕ) → slot_of line levels.second ≡ slot → AreAlike levels (record levels { first = first; second = touched_by levels.second slot })
    by None e = record { second = sound; looks = record { slot = λ l. refl; reserved = λ l. refl }; copies = refl; slots = refl; line_bytes = refl }
    by (Some slot) e =
        let within = (laws.apart levels.second sound).within line slot e in
        record { second = IsSound-touched slot levels.second sound; looks = laws.touch slot levels.second sound within; copies = refl; slots = slot_count-touched slot levels.second; line_bytes = refl }

-- ---- lines come near

near-alike : CacheLaws → (line : ℕ) (levels : LevelsView) → IsSound levels.second → AreAlike levels (near_if_held line levels)
near-alike laws line levels sound = by (held line levels)
  where
    by : (b : Bool) → AreAlike levels (cond b (brought line levels) levels)
    by true = alike-touched laws line levels (with_line line levels.first) sound
    by false = alike-same levels sound

pub arrive-alike : CacheLaws → (latency now : ℕ) (cs : List Coming) (levels : LevelsView) → IsSound levels.second → AreAlike levels (arrive latency now cs levels).levels
arrive-alike laws latency now [] levels sound = alike-same levels sound
arrive-alike laws latency now (c ∷ cs) levels sound =
    let near = near-alike laws c.line levels sound in
    by (is_due latency now c) (alike-then levels (near_if_held c.line levels) (arrive latency now cs (near_if_held c.line levels)).levels near (arrive-alike laws latency now cs (near_if_held c.line levels) near.second))
  where
    by : (b : Bool) → AreAlike levels (arrive latency now cs (near_if_held c.line levels)).levels → AreAlike levels (cond b (arrive latency now cs (near_if_held c.line levels)) (record { levels = levels; coming = c ∷ cs })).levels
    by true rest = rest
    by false rest = alike-same levels sound

-- ---- a line is written

abbrev pub with_bytes : ℕ → Size → ℕ → LineCopy → LineCopy
with_bytes at n value copy = record copy { bytes = written_at at n value copy.bytes }

abbrev pub written_view : ℕ → Size → ℕ → LineView → LineView
written_view at n value x = record x { copy = option_map (with_bytes at n value) x.copy }

pub view-written : CacheLaws → (a : ℕ) (n : Size) (value : ℕ) (levels : LevelsView) (misses : MissView) (l : ℕ) → AreSound levels →
    line_view (touched_levels (a / levels.line_bytes) (written a n value levels)) misses l
    ≡ with_at (line_view levels misses) (a / levels.line_bytes) (written_view (a % levels.line_bytes) n value (line_view levels misses (a / levels.line_bytes))) l
view-written laws a n value levels misses l sound =
    let line = a / levels.line_bytes in
    let old = line_view levels misses in
    let new = written a n value levels in
    view-alike new (touched_levels line new) misses l (alike-touched laws line new (touched_line line new.first) sound.second)
    ∙ view-with_at old line (written_view (a % levels.line_bytes) n value (old line)) (line_view new misses l) l
    (laws.changed line (with_bytes (a % levels.line_bytes) n value) levels sound l) (with_at-same (λ k. (old k).slot) line l) (with_at-same (λ k. (old k).register) line l) (with_at-same (λ k. (old k).way) line l)

-- ---- what is true of a node stays true

pub fit-alike : (old new : LevelsView) (misses : MissView) → AreAlike old new → AreFit old misses → AreFit new misses
fit-alike old new misses alike fit l = subst IsFit (sym (view-alike old new misses l alike)) (fit l)

pub sound-alike : CacheLaws → (v : NodeView) (levels : LevelsView) → node.IsSound v → AreAlike v.levels levels → AreSound levels → node.IsSound (record v { levels = levels })
sound-alike laws v levels sound alike sound_levels =
    sound-with laws v levels v.misses v.wishes v.coming v.outbox sound sound_levels (fit-alike v.levels levels v.misses alike (fit-sound laws v sound)) sound.wishes sound.coming sound.outbox

pub sound-touched : CacheLaws → (line : ℕ) (v : NodeView) (levels : LevelsView) → node.IsSound v → levels ≡ touched_levels line v.levels → AreSound levels → node.IsSound (record v { levels = levels })
sound-touched laws line v levels sound is sound_levels = sound-alike laws v levels sound (subst (λ (levels : LevelsView). AreAlike v.levels levels) (sym is) (alike-touched laws line v.levels (touched_line line v.levels.first) sound.levels.second)) sound_levels

fit-written : (at : ℕ) (n : Size) (value : ℕ) (x : LineView) → IsFit x → IsFit (written_view at n value x)
fit-written at n value x fit = by x.copy fit
  where
    by : (copy : Option LineCopy) → IsFit (record x { copy = copy }) → IsFit (record x { copy = option_map (with_bytes at n value) copy })
    by None fit = fit
    by (Some copy) fit = record { way = fit.way; held = fit.held; awaited = fit.awaited; unowned = fit.unowned }

pub sound-written : CacheLaws → (a : ℕ) (n : Size) (value : ℕ) (v : NodeView) (levels : LevelsView) → node.IsSound v → levels ≡ touched_levels (line_at v a) (written a n value v.levels) → AreSound levels → node.IsSound (record v { levels = levels })
sound-written laws a n value v levels sound is sound_levels =
    let line = line_at v a in
    let old = line_view v.levels v.misses in
    let new = written_view (a % v.levels.line_bytes) n value (old line) in
    let fits = fit-with_at old line new (fit-sound laws v sound) (fit-written (a % v.levels.line_bytes) n value (old line) (fit-sound laws v sound line)) in
    sound-with laws v levels v.misses v.wishes v.coming v.outbox sound sound_levels
    (λ l. subst IsFit (sym (ap (λ levels. line_view levels v.misses l) is ∙ view-written laws a n value v.levels v.misses l sound.levels)) (fits l)) sound.wishes sound.coming sound.outbox
