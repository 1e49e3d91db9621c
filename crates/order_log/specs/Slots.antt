-- The slots of a log. Each is an access that has its place, be it retired or not, or one that has lost it.
use Rattle.std.specs.Prelude.{◌≡◌, ℕ, zero, suc, ◌+◌, ◌-◌, ◌%◌, ◌^◌, ◌<◌, ◌==◌, Bool, true, false, not, ◌&&◌, if◌then◌else◌, List, [], ◌∷◌, length, map, slice_index_or}
use Rattle.std.specs.List.{flat_map, filter}
use Rattle.rsim_base.specs.declared.memory.Access.{Access}
use Rattle.order_log.specs.declared.slots.Slot.{Slot}
use Rattle.order_log.specs.declared.slots.State.{State}
use Rattle.order_log.specs.declared.slots.State.TheVariants.{Waiting, Retired, Dropped}
use Rattle.order_log.specs.declared.span.Span.{Span}
use Rattle.order_log.specs.declared.waiting.Entry.{Entry}
use Rattle.order_log.specs.Entries.{is_meant}
use Rattle.order_log.specs.Log.{Place, placed}

-- the place that a slot stands for, if it has one
abbrev pub shown : State → Access → List Place
shown Waiting a = placed a false ∷ []
shown Retired a = placed a true ∷ []
shown Dropped a = []

abbrev pub places_of : List Slot → List Place
places_of slots = flat_map (λ s. shown s.state s.access) slots

abbrev pub waits : State → Bool
waits Waiting = true
waits Retired = false
waits Dropped = false

abbrev pub same_state : State → State → Bool
same_state Waiting s = waits s
same_state Retired Retired = true
same_state Retired Waiting = false
same_state Retired Dropped = false
same_state Dropped Dropped = true
same_state Dropped Waiting = false
same_state Dropped Retired = false

-- the first slot is in this state
abbrev pub front_is : State → List Slot → Bool
front_is state [] = false
front_is state (s ∷ slots) = same_state s.state state

-- ---- numbers of slots, which go round at 2^64

-- how far a slot is behind the first
abbrev pub offset : ℕ → ℕ → ℕ
offset first slot = (slot + (2 ^ 64 - first)) % 2 ^ 64

abbrev pub entry_at : ℕ → Access → Entry
entry_at number a = record { node = a.node; index = a.index; slot = number % 2 ^ 64 }

-- the entries of the slots that wait and whose accesses belong here, where the first slot has this number
abbrev pub entries : (Access → Bool) → ℕ → List Slot → List Entry
entries belongs number [] = []
entries belongs number (s ∷ slots) =
    if waits s.state && belongs s.access then entry_at number s.access ∷ entries belongs (number + 1) slots else entries belongs (number + 1) slots

-- both have the same entries, wherever they belong
abbrev pub SameEntries : ℕ → List Slot → ℕ → List Slot → Type 0
SameEntries first slots first' slots' = (belongs : Access → Bool) → entries belongs first' slots' ≡ entries belongs first slots

-- ---- changes

-- the slot that stands there is in this state
abbrev pub state_at : ℕ → State → List Slot → List Slot
state_at k state [] = []
state_at zero state (s ∷ slots) = record s { state = state } ∷ slots
state_at (suc k) state (s ∷ slots) = s ∷ state_at k state slots

-- the slot of the entry is in this state, if it is of processor p in the span
abbrev pub marked : ℕ → ℕ → Span → State → Entry → List Slot → List Slot
marked first p span state e slots = if is_meant p span e.node.0 e.index then state_at (offset first e.slot) state slots else slots

-- a slot that waits is in this state, if it is of processor p in the span
abbrev pub changed : ℕ → Span → State → Slot → Slot
changed p span state s = if waits s.state && is_meant p span s.access.node.0 s.access.index then record s { state = state } else s

-- what belongs here is all that is of processor p, and maybe more
abbrev pub HasAllOf : (Access → Bool) → ℕ → Type 0
HasAllOf belongs p = (a : Access) → (a.node.0 == p) ≡ true → belongs a ≡ true

-- by the entries of a list that has all of processor p's, all its slots in the span that wait are in this state
abbrev pub MarksAll : ℕ → List Entry → ℕ → Span → State → List Slot → List Slot → Type 0
MarksAll first es p span state old new =
    (belongs : Access → Bool) → HasAllOf belongs p → es ≡ entries belongs first old → new ≡ map (changed p span state) old

-- the places, where those of processor p in the span that are not retired change their state
abbrev pub is_changed : ℕ → Span → Place → Bool
is_changed p span x = not x.retired && is_meant p span x.access.node.0 x.access.index

abbrev pub after_change : ℕ → Span → State → List Place → List Place
after_change p span Waiting places = places
after_change p span Retired places = map (λ x. if is_changed p span x then record x { retired = true } else x) places
after_change p span Dropped places = filter (λ x. not (is_changed p span x)) places

-- ---- what is kept

-- the access is of a node whose entries are in this one of n lists
abbrev pub is_in_list : ℕ → ℕ → Access → Bool
is_in_list n b a = a.node.0 % n == b

-- each list has the entries of its nodes
pub record AreListed (first : ℕ) (slots : List Slot) (lists : List (List Entry)) : Type 0 where
  pub some : 0 < length lists
  pub each : (b : ℕ) → b < length lists → slice_index_or lists b [] ≡ entries (is_in_list (length lists) b) first slots
