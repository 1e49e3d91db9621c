-- The places of slots.
use Rattle.std.proofs.Common.{◌≡◌, ℕ, Bool, true, false, cond, not, List, [], ◌∷◌, ◌++◌, map, drop, refl, sym, ap, ◌∙◌}
use Rattle.std.proofs.lemmas.Bool.{false≢true}
use Rattle.std.proofs.lemmas.List.{map-append}
use Rattle.std.proofs.lemmas.List.Elements.{filter-append}
use Rattle.rsim_base.specs.declared.memory.Access.{Access}
use Rattle.order_log.specs.declared.slots.Slot.{Slot}
use Rattle.order_log.specs.declared.slots.State.{State}
use Rattle.order_log.specs.declared.slots.State.TheVariants.{Waiting, Retired, Dropped}
use Rattle.order_log.specs.declared.span.Span.{Span}
use Rattle.order_log.specs.Entries.{is_meant}
use Rattle.order_log.specs.Log.{Place, placed}
use Rattle.order_log.specs.Slots.{shown, places_of, changed, after_change, front_is, same_state, waits}

-- the slot of an access
abbrev slot_of : Access → State → Slot
slot_of a state = record { access = a; state = state }

abbrev shown_of : Slot → List Place
shown_of s = shown s.state s.access

module _ (p : ℕ) (span : Span) where
  retired-one : (a : Access) (state : State) → shown_of (changed p span Retired (slot_of a state)) ≡ after_change p span Retired (shown state a)
  retired-one a Waiting = by (is_meant p span a.node.0 a.index)
    where
      by : (m : Bool) → shown_of (cond m (slot_of a Retired) (slot_of a Waiting)) ≡ cond m (placed a true) (placed a false) ∷ []
      by true = refl
      by false = refl
  retired-one a Retired = refl
  retired-one a Dropped = refl

  dropped-one : (a : Access) (state : State) → shown_of (changed p span Dropped (slot_of a state)) ≡ after_change p span Dropped (shown state a)
  dropped-one a Waiting = by (is_meant p span a.node.0 a.index)
    where
      by : (m : Bool) → shown_of (cond m (slot_of a Dropped) (slot_of a Waiting)) ≡ cond (not m) (placed a false ∷ []) []
      by true = refl
      by false = refl
  dropped-one a Retired = refl
  dropped-one a Dropped = refl

  -- the places of changed slots are the changed places
  pub places_of-changed : (state : State) (slots : List Slot) → waits state ≡ false → places_of (map (changed p span state) slots) ≡ after_change p span state (places_of slots)
  places_of-changed Waiting slots leaves = absurd (false≢true (sym leaves))
  places_of-changed Retired [] leaves = refl
  places_of-changed Retired (s ∷ slots) leaves =
      ap (λ (xs : List Place). xs ++ places_of (map (changed p span Retired) slots)) (retired-one s.access s.state)
      ∙ (ap (λ (xs : List Place). after_change p span Retired (shown_of s) ++ xs) (places_of-changed Retired slots leaves)
      ∙ sym (map-append _ (shown_of s) (places_of slots)))
  places_of-changed Dropped [] leaves = refl
  places_of-changed Dropped (s ∷ slots) leaves =
      ap (λ (xs : List Place). xs ++ places_of (map (changed p span Dropped) slots)) (dropped-one s.access s.state)
      ∙ (ap (λ (xs : List Place). after_change p span Dropped (shown_of s) ++ xs) (places_of-changed Dropped slots leaves)
      ∙ sym (filter-append _ (shown_of s) (places_of slots)))

-- a dropped slot at the front stands for nothing
pub places_of-drop : (slots : List Slot) → front_is Dropped slots ≡ true → places_of (drop 1 slots) ≡ places_of slots
places_of-drop [] front = refl
places_of-drop (s ∷ slots) front = by s.state front
  where
    by : (state : State) → same_state state Dropped ≡ true → places_of slots ≡ shown state s.access ++ places_of slots
    by Dropped front = refl
    by Waiting front = absurd (false≢true front)
    by Retired front = absurd (false≢true front)
