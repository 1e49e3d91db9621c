-- Slots that are given a new state by their entries.
use Rattle.std.proofs.Common.{◌≡◌, ℕ, zero, suc, ◌+◌, ◌%◌, ◌^◌, ◌<◌, ◌==◌, Bool, true, false, cond, List, [], ◌∷◌, ◌++◌, length, map, get_or, refl, sym, ap, ◌∙◌, append_assoc, add-zero, arith}
use Rattle.std.proofs.Math.ListN.{set}
use Rattle.std.proofs.lemmas.List.{length_push}
use Rattle.std.proofs.lemmas.Bool.{false≢true, and_from, and_parts}
use Rattle.rsim_base.specs.declared.memory.Access.{Access}
use Rattle.order_log.specs.declared.slots.Slot.{Slot}
use Rattle.order_log.specs.declared.slots.State.{State}
use Rattle.order_log.specs.declared.span.Span.{Span}
use Rattle.order_log.specs.declared.waiting.Entry.{Entry}
use Rattle.order_log.specs.Entries.{is_meant}
use Rattle.order_log.specs.Slots.{offset, entry_at, entries, state_at, marked, changed, waits}
use Rattle.order_log.proofs.Listing.{is_entered, entries-in, entries-out, entered-not, entered-other, changed-yes, changed-waits_not, changed-meant_not}

-- the slots of all these entries
abbrev pub all_marked : ℕ → ℕ → Span → State → List Entry → List Slot → List Slot
all_marked first p span state [] slots = slots
all_marked first p span state (e ∷ es) slots = all_marked first p span state es (marked first p span state e slots)

abbrev in_state : Slot → State → Slot
in_state s state = record s { state = state }

-- what a write of the state does
pub set-state_at : (slots : List Slot) (k : ℕ) (x : Slot) (state : State) → k < length slots → x ≡ get_or slots k x → set slots k (in_state x state) ≡ state_at k state slots
set-state_at [] k x state within is = absurd (omega arith)
set-state_at (s ∷ slots) zero x state within is = ap (λ (y : Slot). in_state y state ∷ slots) is
set-state_at (s ∷ slots) (suc k) x state within is = ap (λ (ys : List Slot). s ∷ ys) (set-state_at slots k x state (omega arith) is)

state_at_behind : (before : List Slot) (s : Slot) (slots : List Slot) (state : State) → state_at (length before) state (before ++ s ∷ slots) ≡ before ++ in_state s state ∷ slots
state_at_behind [] s slots state = refl
state_at_behind (x ∷ before) s slots state = ap (λ (ys : List Slot). x ∷ ys) (state_at_behind before s slots state)

offset_behind : (first k : ℕ) → first < 2 ^ 64 → k < 2 ^ 64 → offset first ((first + k) % 2 ^ 64) ≡ k
offset_behind first k fits small = omega arith

module _ (first p : ℕ) (span : Span) (state : State) (belongs : Access → Bool) (own : (a : Access) → (a.node.0 == p) ≡ true → belongs a ≡ true) (fits : first < 2 ^ 64) where
  abbrev Marks : List Slot → List Slot → Type 0
  Marks before slots = all_marked first p span state (entries belongs (first + length before) slots) (before ++ slots) ≡ before ++ map (changed p span state) slots

  -- one slot more before, which does not change
  step_on : (before : List Slot) (s : Slot) (slots : List Slot) → Marks (before ++ s ∷ []) slots
      → all_marked first p span state (entries belongs (first + length before + 1) slots) (before ++ s ∷ slots) ≡ before ++ s ∷ map (changed p span state) slots
  step_on before s slots rest =
      let count : first + length (before ++ s ∷ []) ≡ first + length before + 1 = omega (arith, length_push before s) in
      let joined : (ys : List Slot) → (before ++ s ∷ []) ++ ys ≡ before ++ s ∷ ys = λ ys. append_assoc before (s ∷ []) ys in
      ap (λ (n : ℕ). all_marked first p span state (entries belongs n slots) (before ++ s ∷ slots)) (sym count)
      ∙ (ap (all_marked first p span state (entries belongs (first + length (before ++ s ∷ [])) slots)) (sym (joined slots))
      ∙ (rest ∙ joined (map (changed p span state) slots)))

  -- what one entry does to its slot
  marked-no : (e : Entry) (slots : List Slot) → is_meant p span e.node.0 e.index ≡ false → marked first p span state e slots ≡ slots
  marked-no e slots em = ap (λ (m : Bool). cond m (state_at (offset first e.slot) state slots) slots) em

  marked-yes : (before : List Slot) (s : Slot) (slots : List Slot) → length before < 2 ^ 64 → is_meant p span s.access.node.0 s.access.index ≡ true
      → marked first p span state (entry_at (first + length before) s.access) (before ++ s ∷ slots) ≡ before ++ in_state s state ∷ slots
  marked-yes before s slots small em =
      let at = offset first ((first + length before) % 2 ^ 64) in
      ap (λ (m : Bool). cond m (state_at at state (before ++ s ∷ slots)) (before ++ s ∷ slots)) em
      ∙ (ap (λ (k : ℕ). state_at k state (before ++ s ∷ slots)) (offset_behind first (length before) fits small) ∙ state_at_behind before s slots state)

  abbrev marks_from : List Slot → List Slot → List Slot → List Slot
  marks_from before slots now = all_marked first p span state (entries belongs (first + length before + 1) slots) now

  -- a slot that has no entry
  pass : (before : List Slot) (s : Slot) (slots : List Slot) → is_entered belongs s ≡ false → changed p span state s ≡ s → Marks (before ++ s ∷ []) slots → Marks before (s ∷ slots)
  pass before s slots is same rest =
      ap (λ (es : List Entry). all_marked first p span state es (before ++ s ∷ slots)) (entries-out belongs (first + length before) s slots is)
      ∙ (step_on before s slots rest ∙ ap (λ (x : Slot). before ++ x ∷ map (changed p span state) slots) (sym same))

  -- one that has an entry, and becomes x
  meet : (before : List Slot) (s x : Slot) (slots : List Slot) → is_entered belongs s ≡ true → changed p span state s ≡ x
      → marked first p span state (entry_at (first + length before) s.access) (before ++ s ∷ slots) ≡ before ++ x ∷ slots → Marks (before ++ x ∷ []) slots → Marks before (s ∷ slots)
  meet before s x slots is becomes mark rest =
      ap (λ (es : List Entry). all_marked first p span state es (before ++ s ∷ slots)) (entries-in belongs (first + length before) s slots is)
      ∙ (ap (marks_from before slots) mark ∙ (step_on before x slots rest ∙ ap (λ (y : Slot). before ++ y ∷ map (changed p span state) slots) (sym becomes)))

  step : (before : List Slot) (s : Slot) (slots : List Slot) → length before < 2 ^ 64 → ((x : Slot) → Marks (before ++ x ∷ []) slots)
      → (w b m : Bool) → waits s.state ≡ w → belongs s.access ≡ b → is_meant p span s.access.node.0 s.access.index ≡ m → Marks before (s ∷ slots)
  step before s slots small rest false b m ew eb em = pass before s slots (entered-not belongs s ew) (changed-waits_not p span state s ew) (rest s)
  step before s slots small rest true false false ew eb em = pass before s slots (entered-other belongs s eb) (changed-meant_not p span state s ew em) (rest s)
  step before s slots small rest true false true ew eb em = absurd (false≢true (sym eb ∙ own s.access ((and_parts _ _ em).0)))
  step before s slots small rest true true false ew eb em =
      meet before s s slots (and_from _ _ ew eb) (changed-meant_not p span state s ew em) (marked-no (entry_at (first + length before) s.access) (before ++ s ∷ slots) em) (rest s)
  step before s slots small rest true true true ew eb em =
      meet before s (in_state s state) slots (and_from _ _ ew eb) (changed-yes p span state s ew em) (marked-yes before s slots small em) (rest (in_state s state))

  marks : (before slots : List Slot) → length before + length slots < 2 ^ 64 → Marks before slots
  marks before [] small = refl
  marks before (s ∷ slots) small =
      step before s slots (omega arith) (λ x. marks (before ++ x ∷ []) slots (omega (arith, length_push before x)))
      (waits s.state) (belongs s.access) (is_meant p span s.access.node.0 s.access.index) refl refl refl

  -- all slots of the processor in the span that wait are given the state, by the entries of a list that has them all
  pub all_marked-entries : (slots : List Slot) → length slots < 2 ^ 64 → all_marked first p span state (entries belongs first slots) slots ≡ map (changed p span state) slots
  all_marked-entries slots small = ap (λ (n : ℕ). all_marked first p span state (entries belongs n slots) slots) (sym (add-zero first)) ∙ marks [] slots (omega arith)
