-- The lists follow the slots.
use Rattle.std.proofs.Common.{◌≡◌, ℕ, ◌+◌, ◌%◌, ◌^◌, ◌<◌, ◌==◌, true, false, List, [], ◌∷◌, ◌++◌, ◌≤◌, length, map, drop, refl, sym, ap, subst, ◌∙◌, ⊎_elim, add-zero, arith}
use Rattle.std.specs.List.{All}
use Rattle.std.proofs.Math.ListN.{set}
use Rattle.std.proofs.lemmas.Bool.{cases_eq, eq-eqb, ne_eqb, eqb-true, false≢true}
use Rattle.std.proofs.lemmas.List.{append-nil, get_or-set_same, get_or-set_other, length-set}
use Rattle.rsim_base.specs.declared.memory.Access.{Access}
use Rattle.order_log.specs.declared.slots.Slot.{Slot}
use Rattle.order_log.specs.declared.slots.State.{State}
use Rattle.order_log.specs.declared.slots.State.TheVariants.{Waiting, Retired, Dropped}
use Rattle.order_log.specs.declared.span.Span.{Span}
use Rattle.order_log.specs.declared.waiting.Entry.{Entry}
use Rattle.order_log.specs.Entries.{list_number, list_of, without}
use Rattle.order_log.specs.Slots.{MarksAll, entries, offset, changed, front_is, same_state, waits, AreListed, SameEntries, is_in_list}
use Rattle.order_log.proofs.Listing.{entries-in, entries-out, entered-not, entries-append, entries-round, entries-changed, entries-apart, entries-within}

-- ---- where the entries stay

pub AreListed-same : (first first' : ℕ) (slots slots' : List Slot) (lists : List (List Entry)) → AreListed first slots lists → SameEntries first slots first' slots' → AreListed first' slots' lists
AreListed-same first first' slots slots' lists kept same = record {
  some = kept.some;
  each = λ b within. kept.each b within ∙ sym (same (is_in_list (length lists) b));
}

-- a slot at the end that does not wait has no entry
pub SameEntries-append : (first : ℕ) (slots : List Slot) (s : Slot) → waits s.state ≡ false → SameEntries first slots first (slots ++ s ∷ [])
SameEntries-append first slots s not_waiting belongs =
    entries-append belongs first slots s
    ∙ (ap (λ (es : List Entry). entries belongs first slots ++ es) (entries-out belongs (first + length slots) s [] (entered-not belongs s not_waiting))
    ∙ append-nil (entries belongs first slots))

same_state-waits : (x y : State) → same_state x y ≡ true → waits y ≡ false → waits x ≡ false
same_state-waits Waiting y same is = absurd (false≢true (sym is ∙ same))
same_state-waits Retired y same is = refl
same_state-waits Dropped y same is = refl

-- nor has one at the front
pub SameEntries-drop : (first : ℕ) (slots : List Slot) (state : State) → waits state ≡ false → front_is state slots ≡ true → SameEntries first slots ((first + 1) % 2 ^ 64) (drop 1 slots)
SameEntries-drop first [] state not_waiting front belongs = absurd (false≢true front)
SameEntries-drop first (s ∷ slots) state not_waiting front belongs =
    entries-round belongs ((first + 1) % 2 ^ 64) (first + 1) slots (omega arith)
    ∙ sym (entries-out belongs first s slots (entered-not belongs s (same_state-waits s.state state front not_waiting)))

-- ---- where a list is written

AreListed-set : (first : ℕ) (slots slots' : List Slot) (lists : List (List Entry)) (b : ℕ) (es : List Entry) → AreListed first slots lists → b < length lists
    → es ≡ entries (is_in_list (length lists) b) first slots'
    → ((other : ℕ) → (other ≡ b → ⊥) → entries (is_in_list (length lists) other) first slots ≡ entries (is_in_list (length lists) other) first slots')
    → AreListed first slots' (set lists b es)
AreListed-set first slots slots' lists b es kept within own others =
    let count = length-set lists b es in
    record {
      some = let some = kept.some in omega arith;
      each = λ k below.
          let there : k < length lists = omega arith in
          rw count
          (⊎_elim
          (λ (same : k ≡ b). rw same (get_or-set_same lists b es [] within ∙ own))
          (λ (other : k ≡ b → ⊥). get_or-set_other lists b k es [] other ∙ (kept.each k there ∙ others k other))
          (cases_eq k b));
    }

number_within : (node : ℕ) (lists : List (List Entry)) → 0 < length lists → list_number node lists < length lists
number_within node lists some = omega arith

-- an access more that waits
pub AreListed-push : (first number : ℕ) (slots : List Slot) (lists : List (List Entry)) (a : Access) → AreListed first slots lists → number ≡ (first + length slots) % 2 ^ 64
    → AreListed first (slots ++ record { access = a; state = Waiting } ∷ []) (set lists (list_number a.node.0 lists) (list_of a.node.0 lists ++ record { node = a.node; index = a.index; slot = number } ∷ []))
AreListed-push first number slots lists a kept is_number =
    let s : Slot = record { access = a; state = Waiting } in
    let b = list_number a.node.0 lists in
    let n = length lists in
    let within = number_within a.node.0 lists kept.some in
    AreListed-set first slots (slots ++ s ∷ []) lists b _ kept within
    (ap (λ (es : List Entry). es ++ record { node = a.node; index = a.index; slot = number } ∷ []) (kept.each b within)
    ∙ (ap (λ (k : ℕ). entries (is_in_list n b) first slots ++ record { node = a.node; index = a.index; slot = k } ∷ []) is_number
    ∙ sym (entries-append (is_in_list n b) first slots s
    ∙ ap (λ (es : List Entry). entries (is_in_list n b) first slots ++ es) (entries-in (is_in_list n b) (first + length slots) s [] (eq-eqb (a.node.0 % n) b refl)))))
    (λ other apart.
    sym (entries-append (is_in_list n other) first slots s
    ∙ (ap (λ (es : List Entry). entries (is_in_list n other) first slots ++ es) (entries-out (is_in_list n other) (first + length slots) s [] (ne_eqb (a.node.0 % n) other (λ e. apart (sym e))))
    ∙ append-nil (entries (is_in_list n other) first slots))))

-- slots of one processor that do not wait any longer
pub AreListed-changed : (first p : ℕ) (span : Span) (state : State) (slots : List Slot) (lists : List (List Entry)) → waits state ≡ false → AreListed first slots lists
    → AreListed first (map (changed p span state) slots) (set lists (list_number p lists) (without p span (list_of p lists)))
AreListed-changed first p span state slots lists leaves kept =
    let b = list_number p lists in
    let n = length lists in
    let within = number_within p lists kept.some in
    AreListed-set first slots (map (changed p span state) slots) lists b _ kept within
    (ap (without p span) (kept.each b within) ∙ entries-changed p span state (is_in_list n b) leaves first slots)
    (λ other apart. entries-apart p span state (is_in_list n other) (λ a own. ne_eqb (a.node.0 % n) other (λ e. apart (sym e ∙ ap (λ (q : ℕ). q % n) (eqb-true a.node.0 p own)))) leaves first slots)

-- ---- the list of one node

own_list : (n p : ℕ) (a : Access) → (a.node.0 == p) ≡ true → is_in_list n (p % n) a ≡ true
own_list n p a own = eq-eqb (a.node.0 % n) (p % n) (ap (λ (q : ℕ). q % n) (eqb-true a.node.0 p own))

-- the slots of its entries are there
pub list_of-within : (first p n : ℕ) (slots : List Slot) (lists : List (List Entry)) → AreListed first slots lists → first < 2 ^ 64 → n < 2 ^ 64 → length slots ≤ n
    → All (λ e. offset first e.slot < n) (list_of p lists)
list_of-within first p n slots lists kept fits small within =
    let there = number_within p lists kept.some in
    let belongs = is_in_list (length lists) (list_number p lists) in
    let P : Entry → Type 0 = λ e. offset first e.slot < n in
    subst (All P) (ap (λ (k : ℕ). entries belongs k slots) (add-zero first) ∙ sym (kept.each (list_number p lists) there)) (entries-within belongs first 0 n slots fits small (omega arith))

-- by its entries all slots of the node in the span are marked
pub MarksAll-listed : (first p : ℕ) (span : Span) (state : State) (es : List Entry) (slots slots' : List Slot) (lists : List (List Entry)) → AreListed first slots lists
    → es ≡ list_of p lists → MarksAll first es p span state slots slots' → slots' ≡ map (changed p span state) slots
MarksAll-listed first p span state es slots slots' lists kept is marks =
    let b = list_number p lists in
    marks (is_in_list (length lists) b) (own_list (length lists) p) (is ∙ kept.each b (number_within p lists kept.some))
