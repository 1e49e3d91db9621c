-- What is true of a node, line by line, and that a message keeps it.
use Rattle.std.proofs.Common.{◌≡◌, ◌≢◌, ℕ, ◌==◌, ◌≤◌, Bool, true, false, cond, List, length, Option, Some, None, is_some, option_map, refl, sym, ap, subst, ◌∙◌}
use Rattle.std.specs.Option.{option_map_or}
use Rattle.cache_sets.specs.Caches.{reserved_slot}
use Rattle.cache_levels.specs.Levels.{LevelsView}
use Rattle.cache_levels.specs.Sound.{AreSound}
use Rattle.cache_levels.specs.declared.levels.LineCopy.{LineCopy}
use Rattle.cache_levels.specs.Slots.{fill_slot}
use Rattle.memory_contracts.specs.Protocol.Messages.{Message, Inv, Recall, Grant}
use Rattle.memory_contracts.specs.Protocol.NodeTable.{node_takes}
use Rattle.memory_contracts.specs.Letters.{Letter, Mail}
use Rattle.memory_contracts.specs.Store.{Wish, most_wishes}
use Rattle.memory_contracts.specs.Updates.{with_at}
use Rattle.miss_registers.specs.Misses.{MissView}
use Rattle.node_memory.specs.Nodes.{Coming, NodeView, awaits, kept_as, most_mails}
use Rattle.node_memory.specs.Rows.{Allows, after_message, change_at, change_by, is_grant, levels_after, misses_after}
use Rattle.node_memory.specs.Sound.{IsSound, are_rising}
use Rattle.node_memory.specs.declared.table.Change.{Change}
use Rattle.node_memory.specs.declared.table.Change.TheVariants.{Lose, Share, Fill, EmptySlot, FreeSlot}
use Rattle.node_memory.proofs.Below.{CacheLaws}
use Rattle.node_memory.proofs.Held.{AreCopies, copies_of, held-copy}
use Rattle.node_memory.proofs.LineViews.{LineView, changed, kept, line_view, unowned, view-changed}

abbrev pub owned_in : Option LineCopy → Bool
owned_in copy = option_map_or (λ copy. copy.owned) copy false

pub record IsFit (x : LineView) : Type 0 where
  pub way : is_some x.register ≡ is_some x.way
  pub held : is_some x.copy ≡ true → x.slot ≡ None
  pub awaited : is_some x.register ≡ true → x.slot ≡ None
  pub unowned : is_some x.register ≡ true → owned_in x.copy ≡ false

abbrev pub AreFit : LevelsView → MissView → Type 0
AreFit levels misses = (l : ℕ) → IsFit (line_view levels misses l)

pub fit-sound : CacheLaws → (v : NodeView) → IsSound v → AreFit v.levels v.misses
fit-sound laws v sound l = record {
  way = sound.ways l;
  held = λ there. sound.slotless_held l (held-copy l v.levels (copies_of laws v.levels sound.levels) ∙ there);
  awaited = sound.slotless_awaited l;
  unowned = sound.unowned l;
}

-- a node that has changed, and of which all that has to be true is
pub sound-with : CacheLaws → (v : NodeView) (levels : LevelsView) (misses : MissView) (wishes : List Wish) (coming : List Coming) (outbox : List Mail) → IsSound v →
    AreSound levels → AreFit levels misses → length wishes ≤ most_wishes → are_rising 0 coming ≡ true → length outbox ≤ most_mails →
    IsSound (record v { levels = levels; misses = misses; wishes = wishes; coming = coming; outbox = outbox })
sound-with laws v levels misses wishes coming outbox sound sound_levels fit few rising room = record {
  nodes = sound.nodes;
  few = sound.few;
  latency = sound.latency;
  levels = sound_levels;
  ways = λ l. (fit l).way;
  slotless_held = λ l there. (fit l).held (sym (held-copy l levels (copies_of laws levels sound_levels)) ∙ there);
  slotless_awaited = λ l. (fit l).awaited;
  unowned = λ l. (fit l).unowned;
  wishes = few;
  coming = rising;
  outbox = room;
}

-- a node whose caches and misses are as before
pub sound-waiting : (v : NodeView) (wishes : List Wish) (coming : List Coming) → IsSound v → length wishes ≤ most_wishes → are_rising 0 coming ≡ true → IsSound (record v { wishes = wishes; coming = coming })
sound-waiting v wishes coming sound few rising = record {
  nodes = sound.nodes;
  few = sound.few;
  latency = sound.latency;
  levels = sound.levels;
  ways = sound.ways;
  slotless_held = sound.slotless_held;
  slotless_awaited = sound.slotless_awaited;
  unowned = sound.unowned;
  wishes = few;
  coming = rising;
  outbox = sound.outbox;
}

pub fit-with_at : (f : ℕ → LineView) (line : ℕ) (x : LineView) → ((l : ℕ) → IsFit (f l)) → IsFit x → (l : ℕ) → IsFit (with_at f line x l)
fit-with_at f line x fit new l = by (l == line)
  where
    by : (b : Bool) → IsFit (cond b x (f l))
    by true = new
    by false = fit l

-- ---- a change of a line

-- a line that is lost or shared is held, and one that is filled has its way
abbrev pub AllowsLine : Change → LineView → Type 0
AllowsLine Lose x = is_some x.copy ≡ true
AllowsLine Share x = is_some x.copy ≡ true
AllowsLine (Fill own bytes) x = x.way ≢ None
AllowsLine change x = Unit {0}

pub allows-from : (change : Change) (line : ℕ) (levels : LevelsView) (misses : MissView) → AreCopies levels → AllowsLine change (line_view levels misses line) → Allows change line levels
allows-from Lose line levels misses sound allowed = held-copy line levels sound ∙ allowed
allows-from Share line levels misses sound allowed = held-copy line levels sound ∙ allowed
allows-from (Fill own bytes) line levels misses sound allowed = allowed
allows-from change line levels misses sound allowed = tt

some-map : {A B : Type 0} (f : A → B) (o : Option A) → is_some (option_map f o) ≡ is_some o
some-map f None = refl
some-map f (Some x) = refl

unowned-none : (copy : Option LineCopy) → owned_in (option_map unowned copy) ≡ false
unowned-none None = refl
unowned-none (Some copy) = refl

some-way : (x : LineView) → IsFit x → x.way ≢ None → is_some x.register ≡ true
some-way x fit some = fit.way ∙ by x.way some
  where
    by : (o : Option ℕ) → o ≢ None → is_some o ≡ true
    by None some = absurd (some refl)
    by (Some slot) some = refl

fit-changed : (change : Change) (x : LineView) → IsFit x → AllowsLine change x → IsFit (changed change x)
fit-changed Lose x fit allowed = record { way = fit.way; held = λ there. absurd cc; awaited = fit.awaited; unowned = λ awaited. refl }
fit-changed Share x fit allowed = record { way = fit.way; held = λ there. fit.held allowed; awaited = fit.awaited; unowned = λ awaited. unowned-none x.copy }
fit-changed (Fill own bytes) x fit allowed = record { way = refl; held = λ there. fit.awaited (some-way x fit allowed); awaited = λ awaited. absurd cc; unowned = λ awaited. absurd cc }
fit-changed EmptySlot x fit allowed = record {
  way = fit.way;
  held = λ there. ap (option_map (λ slot. None)) (fit.held there);
  awaited = λ awaited. ap (option_map (λ slot. None)) (fit.awaited awaited);
  unowned = fit.unowned;
}
fit-changed FreeSlot x fit allowed = record { way = fit.way; held = λ there. refl; awaited = λ awaited. refl; unowned = fit.unowned }
fit-changed change x fit allowed = fit

-- ---- the rows

-- the code's row and the protocol's for a message do the same to a line
pub record IsRowOf (m : Message) (x : LineView) : Type 0 where
  pub allowed : IsFit x → (is_grant m ≡ true → is_some x.register ≡ true) → AllowsLine (change_by m (kept x)) x
  pub copy : IsFit x → kept (changed (change_by m (kept x)) x) ≡ (node_takes m (kept x) (is_some x.register)).copy
  pub register : is_some (changed (change_by m (kept x)) x).register ≡ (node_takes m (kept x) (is_some x.register)).register

abbrev held_line : Bool → List ℕ → Option (Option (List ℕ)) → Option Bool → Option ℕ → LineView
held_line owned bytes slot register way = record { copy = Some (record { owned = owned; bytes = bytes }); slot = slot; register = register; way = way }

abbrev other_line : Option (Option (List ℕ)) → Option Bool → Option ℕ → LineView
other_line slot register way = record { copy = None; slot = slot; register = register; way = way }

way-awaited : (x : LineView) → IsFit x → is_some x.register ≡ true → x.way ≢ None
way-awaited x fit awaited none = let there : is_some x.way ≡ true = sym fit.way ∙ awaited in let gone : is_some x.way ≡ false = ap is_some none in cc

rows-held : (m : Message) (owned : Bool) (bytes : List ℕ) (slot : Option (Option (List ℕ))) (register : Option Bool) (way : Option ℕ) → IsRowOf m (held_line owned bytes slot register way)
rows-held Inv false bytes slot register way = record { allowed = λ fit awaited. refl; copy = λ fit. ap (kept_as None) (fit.held refl); register = refl }
rows-held (Recall true) true bytes slot register way = record { allowed = λ fit awaited. refl; copy = λ fit. ap (kept_as None) (fit.held refl); register = refl }
rows-held (Recall false) true bytes slot register way = record { allowed = λ fit awaited. refl; copy = λ fit. refl; register = refl }
rows-held (Grant own new) false bytes slot register way = record { allowed = λ fit awaited. way-awaited (held_line false bytes slot register way) fit (awaited refl); copy = λ fit. refl; register = refl }
rows-held m true bytes slot register way = record { allowed = λ fit awaited. tt; copy = λ fit. refl; register = refl }
rows-held (Recall true) false bytes slot register way = record { allowed = λ fit awaited. tt; copy = λ fit. refl; register = refl }
rows-held m false bytes slot register way = record { allowed = λ fit awaited. tt; copy = λ fit. refl; register = refl }

rows-other : (m : Message) (slot : Option (Option (List ℕ))) (register : Option Bool) (way : Option ℕ) → IsRowOf m (other_line slot register way)
rows-other (Grant own new) None register way = record { allowed = λ fit awaited. way-awaited (other_line None register way) fit (awaited refl); copy = λ fit. refl; register = refl }
rows-other (Recall true) None register way = record { allowed = λ fit awaited. tt; copy = λ fit. refl; register = refl }
rows-other m None register way = record { allowed = λ fit awaited. tt; copy = λ fit. refl; register = refl }
rows-other (Recall true) (Some None) register way = record { allowed = λ fit awaited. tt; copy = λ fit. refl; register = refl }
rows-other m (Some None) register way = record { allowed = λ fit awaited. tt; copy = λ fit. refl; register = refl }
rows-other (Recall true) (Some (Some bytes)) register way = record { allowed = λ fit awaited. tt; copy = λ fit. refl; register = refl }
rows-other m (Some (Some bytes)) register way = record { allowed = λ fit awaited. tt; copy = λ fit. refl; register = refl }

pub rows : (m : Message) (x : LineView) → IsRowOf m x
rows m x = by x.copy
  where
    by : (copy : Option LineCopy) → IsRowOf m (record x { copy = copy })
    by None = rows-other m x.slot x.register x.way
    by (Some copy) = rows-held m copy.owned copy.bytes x.slot x.register x.way

-- ---- a message

pub message-allowed : CacheLaws → (m : Letter) (v : NodeView) → IsSound v → (is_grant m.message ≡ true → awaits v m.line ≡ true) → AllowsLine (change_at m v) (line_view v.levels v.misses m.line)
message-allowed laws m v sound awaited = (rows m.message (line_view v.levels v.misses m.line)).allowed (fit-sound laws v sound m.line) awaited

pub view-message : CacheLaws → (m : Letter) (v : NodeView) → IsSound v → (is_grant m.message ≡ true → awaits v m.line ≡ true) → (l : ℕ) →
    line_view (after_message m v).levels (after_message m v).misses l ≡ with_at (line_view v.levels v.misses) m.line (changed (change_at m v) (line_view v.levels v.misses m.line)) l
view-message laws m v sound awaited l =
    view-changed laws (change_at m v) m.line l v.levels v.misses sound.levels (allows-from (change_at m v) m.line v.levels v.misses (copies_of laws v.levels sound.levels) (message-allowed laws m v sound awaited))

-- the levels and the misses are changed so, and there is room for what is sent
pub sound-message : CacheLaws → (m : Letter) (v : NodeView) (levels : LevelsView) (misses : MissView) (outbox : List Mail) → IsSound v → (is_grant m.message ≡ true → awaits v m.line ≡ true) →
    levels ≡ levels_after (change_at m v) m.line v.levels → misses ≡ misses_after (change_at m v) m.line v.misses → AreSound levels → length outbox ≤ most_mails → IsSound (record v { levels = levels; misses = misses; outbox = outbox })
sound-message laws m v levels misses outbox sound awaited levels_are misses_are sound_levels room =
    let old = line_view v.levels v.misses in
    let fits = fit-with_at old m.line (changed (change_at m v) (old m.line)) (fit-sound laws v sound) (fit-changed (change_at m v) (old m.line) (fit-sound laws v sound m.line) (message-allowed laws m v sound awaited)) in
    sound-with laws v levels misses v.wishes v.coming outbox sound sound_levels (λ l. subst IsFit (sym (view-of l)) (fits l)) sound.wishes sound.coming room
  where
    view-of : (l : ℕ) → line_view levels misses l ≡ with_at (line_view v.levels v.misses) m.line (changed (change_at m v) (line_view v.levels v.misses m.line)) l
    view-of l = ap (λ levels. line_view levels misses l) levels_are ∙ (ap (λ misses. line_view (levels_after (change_at m v) m.line v.levels) misses l) misses_are ∙ view-message laws m v sound awaited l)

pub line_bytes-after : (change : Change) (line : ℕ) (levels : LevelsView) → (levels_after change line levels).line_bytes ≡ levels.line_bytes
line_bytes-after (Fill own bytes) line levels = by (reserved_slot line levels.second)
  where
    by : (slot : Option ℕ) → (fill_slot line own bytes levels slot).line_bytes ≡ levels.line_bytes
    by None = refl
    by (Some slot) = refl
line_bytes-after change line levels = refl
