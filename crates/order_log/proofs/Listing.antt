-- The entries of the slots that wait, and how they follow the slots.
use Rattle.std.proofs.Common.{◌≡◌, ℕ, zero, suc, ◌+◌, ◌%◌, ◌^◌, ◌<◌, ◌≤◌, ◌==◌, Bool, true, false, cond, ◌&&◌, List, [], ◌∷◌, ◌++◌, length, map, refl, sym, ap, subst, ◌∙◌, add-zero, arith}
use Rattle.std.specs.List.{All}
use Rattle.std.proofs.lemmas.Bool.{and_right, and_parts}
use Rattle.rsim_base.specs.declared.memory.Access.{Access}
use Rattle.order_log.specs.declared.slots.Slot.{Slot}
use Rattle.order_log.specs.declared.slots.State.{State}
use Rattle.order_log.specs.declared.span.Span.{Span}
use Rattle.order_log.specs.declared.waiting.Entry.{Entry}
use Rattle.order_log.specs.Entries.{is_meant, without}
use Rattle.order_log.specs.Slots.{offset, entry_at, entries, changed, waits}

-- ---- one slot

abbrev pub is_entered : (Access → Bool) → Slot → Bool
is_entered belongs s = waits s.state && belongs s.access

module _ (belongs : Access → Bool) where
  pub entries-in : (n : ℕ) (s : Slot) (slots : List Slot) → is_entered belongs s ≡ true → entries belongs n (s ∷ slots) ≡ entry_at n s.access ∷ entries belongs (n + 1) slots
  entries-in n s slots is = ap (λ (t : Bool). cond t (entry_at n s.access ∷ entries belongs (n + 1) slots) (entries belongs (n + 1) slots)) is

  pub entries-out : (n : ℕ) (s : Slot) (slots : List Slot) → is_entered belongs s ≡ false → entries belongs n (s ∷ slots) ≡ entries belongs (n + 1) slots
  entries-out n s slots is = ap (λ (t : Bool). cond t (entry_at n s.access ∷ entries belongs (n + 1) slots) (entries belongs (n + 1) slots)) is

  pub entered-not : (s : Slot) → waits s.state ≡ false → is_entered belongs s ≡ false
  entered-not s is = ap (λ (w : Bool). w && belongs s.access) is

  pub entered-other : (s : Slot) → belongs s.access ≡ false → is_entered belongs s ≡ false
  entered-other s is = and_right (waits s.state) (belongs s.access) is

  -- ---- more slots

  -- the same entries behind another number that is the same modulo 2^64
  pub entries-round : (m n : ℕ) (slots : List Slot) → m % 2 ^ 64 ≡ n % 2 ^ 64 → entries belongs m slots ≡ entries belongs n slots
  entries-round m n [] same = refl
  entries-round m n (s ∷ slots) same =
      let rest = entries-round (m + 1) (n + 1) slots (omega arith) in
      let entry = ap (λ (k : ℕ). let e : Entry = record { node = s.access.node; index = s.access.index; slot = k } in e) same in
      ap (λ (es : List Entry). cond (is_entered belongs s) (entry_at m s.access ∷ es) es) rest
      ∙ ap (λ (e : Entry). cond (is_entered belongs s) (e ∷ entries belongs (n + 1) slots) (entries belongs (n + 1) slots)) entry

  -- one slot more at the end
  pub entries-append : (n : ℕ) (slots : List Slot) (s : Slot) → entries belongs n (slots ++ s ∷ []) ≡ entries belongs n slots ++ entries belongs (n + length slots) (s ∷ [])
  entries-append n [] s = ap (λ (k : ℕ). entries belongs k (s ∷ [])) (sym (add-zero n))
  entries-append n (x ∷ slots) s =
      let count : n + 1 + length slots ≡ n + length (x ∷ slots) = omega arith in
      let rest = entries-append (n + 1) slots s ∙ ap (λ (k : ℕ). entries belongs (n + 1) slots ++ entries belongs k (s ∷ [])) count in
      ap (λ (es : List Entry). cond (is_entered belongs x) (entry_at n x.access ∷ es) es) rest
      ∙ out (is_entered belongs x) (entry_at n x.access) (entries belongs (n + 1) slots) (entries belongs (n + length (x ∷ slots)) (s ∷ []))
    where
      out : (t : Bool) (e : Entry) (es zs : List Entry) → cond t (e ∷ (es ++ zs)) (es ++ zs) ≡ cond t (e ∷ es) es ++ zs
      out true e es zs = refl
      out false e es zs = refl

  -- the slots of the entries are there
  pub entries-within : (first k n : ℕ) (slots : List Slot) → first < 2 ^ 64 → n < 2 ^ 64 → k + length slots ≤ n → All (λ e. offset first e.slot < n) (entries belongs (first + k) slots)
  entries-within first k n [] fits small within = λ j d none. absurd (omega arith)
  entries-within first k n (s ∷ slots) fits small within =
      let P : Entry → Type 0 = λ e. offset first e.slot < n in
      let count : first + (k + 1) ≡ first + k + 1 = omega arith in
      let rest : All (λ e. offset first e.slot < n) (entries belongs (first + k + 1) slots) = subst (λ (m : ℕ). All P (entries belongs m slots)) count (entries-within first (k + 1) n slots fits small (omega arith)) in
      by (is_entered belongs s) (entry_at (first + k) s.access) (entries belongs (first + k + 1) slots) (omega arith) rest
    where
      by : (t : Bool) (e : Entry) (es : List Entry) → offset first e.slot < n → All (λ x. offset first x.slot < n) es → All (λ x. offset first x.slot < n) (cond t (e ∷ es) es)
      by true e es head rest zero d below = head
      by true e es head rest (suc j) d below = rest j d (omega arith)
      by false e es head rest j d below = rest j d below

-- ---- slots that change

module _ (p : ℕ) (span : Span) (state : State) where
  pub changed-yes : (s : Slot) → waits s.state ≡ true → is_meant p span s.access.node.0 s.access.index ≡ true → changed p span state s ≡ record s { state = state }
  changed-yes s ew em = rw (ew, em) refl

  pub changed-waits_not : (s : Slot) → waits s.state ≡ false → changed p span state s ≡ s
  changed-waits_not s ew = rw ew refl

  pub changed-meant_not : (s : Slot) → waits s.state ≡ true → is_meant p span s.access.node.0 s.access.index ≡ false → changed p span state s ≡ s
  changed-meant_not s ew em = rw (ew, em) refl

  abbrev afterwards : List Slot → List Slot
  afterwards slots = map (changed p span state) slots

  -- in the list of the processor they have no entries any longer, where they do not wait
  module _ (belongs : Access → Bool) (leaves : waits state ≡ false) where
    gone : (n : ℕ) (s : Slot) (slots : List Slot) → without p span (entries belongs (n + 1) slots) ≡ entries belongs (n + 1) (afterwards slots)
        → (w b m : Bool) → waits s.state ≡ w → belongs s.access ≡ b → is_meant p span s.access.node.0 s.access.index ≡ m
        → without p span (entries belongs n (s ∷ slots)) ≡ entries belongs n (afterwards (s ∷ slots))
    gone n s slots rest false b m ew eb em =
        ap (without p span) (entries-out belongs n s slots (entered-not belongs s ew)) ∙ (rest
        ∙ sym (ap (λ (x : Slot). entries belongs n (x ∷ afterwards slots)) (changed-waits_not s ew) ∙ entries-out belongs n s (afterwards slots) (entered-not belongs s ew)))
    gone n s slots rest true false false ew eb em =
        ap (without p span) (entries-out belongs n s slots (entered-other belongs s eb)) ∙ (rest
        ∙ sym (ap (λ (x : Slot). entries belongs n (x ∷ afterwards slots)) (changed-meant_not s ew em) ∙ entries-out belongs n s (afterwards slots) (entered-other belongs s eb)))
    gone n s slots rest true false true ew eb em =
        ap (without p span) (entries-out belongs n s slots (entered-other belongs s eb)) ∙ (rest
        ∙ sym (ap (λ (x : Slot). entries belongs n (x ∷ afterwards slots)) (changed-yes s ew em) ∙ entries-out belongs n (record s { state = state }) (afterwards slots) (entered-not belongs (record s { state = state }) leaves)))
    gone n s slots rest true true false ew eb em =
        let is : is_entered belongs s ≡ true = rw (ew, eb) refl in
        let stays : (es : List Entry) → without p span (entry_at n s.access ∷ es) ≡ entry_at n s.access ∷ without p span es = λ es. rw em refl in
        ap (without p span) (entries-in belongs n s slots is) ∙ (stays (entries belongs (n + 1) slots) ∙ (ap (λ (es : List Entry). entry_at n s.access ∷ es) rest
        ∙ sym (ap (λ (x : Slot). entries belongs n (x ∷ afterwards slots)) (changed-meant_not s ew em) ∙ entries-in belongs n s (afterwards slots) is)))
    gone n s slots rest true true true ew eb em =
        let is : is_entered belongs s ≡ true = rw (ew, eb) refl in
        let leaves_list : (es : List Entry) → without p span (entry_at n s.access ∷ es) ≡ without p span es = λ es. rw em refl in
        ap (without p span) (entries-in belongs n s slots is) ∙ (leaves_list (entries belongs (n + 1) slots) ∙ (rest
        ∙ sym (ap (λ (x : Slot). entries belongs n (x ∷ afterwards slots)) (changed-yes s ew em) ∙ entries-out belongs n (record s { state = state }) (afterwards slots) (entered-not belongs (record s { state = state }) leaves))))

    pub entries-changed : (n : ℕ) (slots : List Slot) → without p span (entries belongs n slots) ≡ entries belongs n (afterwards slots)
    entries-changed n [] = refl
    entries-changed n (s ∷ slots) =
        gone n s slots (entries-changed (n + 1) slots) (waits s.state) (belongs s.access) (is_meant p span s.access.node.0 s.access.index) refl refl refl

  -- in a list that has none of the processor's they change nothing
  module _ (belongs : Access → Bool) (apart : (a : Access) → (a.node.0 == p) ≡ true → belongs a ≡ false) (leaves : waits state ≡ false) where
    kept : (n : ℕ) (s : Slot) (slots : List Slot) → entries belongs (n + 1) slots ≡ entries belongs (n + 1) (afterwards slots)
        → (w m : Bool) → waits s.state ≡ w → is_meant p span s.access.node.0 s.access.index ≡ m
        → entries belongs n (s ∷ slots) ≡ entries belongs n (afterwards (s ∷ slots))
    kept n s slots rest false m ew em =
        ap (λ (es : List Entry). cond (is_entered belongs s) (entry_at n s.access ∷ es) es) rest ∙ sym (ap (λ (x : Slot). entries belongs n (x ∷ afterwards slots)) (changed-waits_not s ew))
    kept n s slots rest true false ew em =
        ap (λ (es : List Entry). cond (is_entered belongs s) (entry_at n s.access ∷ es) es) rest ∙ sym (ap (λ (x : Slot). entries belongs n (x ∷ afterwards slots)) (changed-meant_not s ew em))
    kept n s slots rest true true ew em =
        entries-out belongs n s slots (entered-other belongs s (apart s.access ((and_parts _ _ em).0))) ∙ (rest
        ∙ sym (ap (λ (x : Slot). entries belongs n (x ∷ afterwards slots)) (changed-yes s ew em) ∙ entries-out belongs n (record s { state = state }) (afterwards slots) (entered-not belongs (record s { state = state }) leaves)))

    pub entries-apart : (n : ℕ) (slots : List Slot) → entries belongs n slots ≡ entries belongs n (afterwards slots)
    entries-apart n [] = refl
    entries-apart n (s ∷ slots) =
        kept n s slots (entries-apart (n + 1) slots) (waits s.state) (is_meant p span s.access.node.0 s.access.index) refl refl
