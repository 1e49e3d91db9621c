-- A table after a wake: who waited for the register does so no more, and all others are as before.
use Rattle.std.proofs.Common.{◌≡◌, ℕ, ◌+◌, ◌%◌, ◌<◌, Bool, true, false, not, ◌&&◌, ◌||◌, List, [], length, map, Option, refl, sym, ap, ◌∙◌, ⊎_elim, arith, set, get_or, get_or-set_other, Vec, Global}
use Rattle.std.proofs.lemmas.Bool.{and_parts, both_ways, cases_Bool}
use Rattle.std.proofs.lemmas.List.{get_or_read}
use Rattle.rsim_base.specs.declared.processor.PhysReg.{PhysReg}
use Rattle.ring_set.specs.Sets.{has}
use Rattle.ring_set.specs.declared.set.Places.{Places}
use Rattle.issue_queue.specs.Needs.{is_clear, needs_it, numbers, readers_at, without_reg}
use Rattle.issue_queue.specs.Words.{needs_now}
use Rattle.issue_queue.specs.Queues.{without, woken_entry}
use Rattle.issue_queue.specs.Tables.{IsSound, entries_of, entry_of, needs_at}
use Rattle.issue_queue.specs.declared.table.Table.TheInside.{Inside}
use Rattle.issue_queue.proofs.Gaps.{listed_same, map-listed}
use Rattle.issue_queue.proofs.Waits.{clear-needs_it, clear-without, needs_it-kept, needs_it-without, numbers-without, without-needs_it}

-- what the words are after a wake of r: `woken` are those of its readers that wait
pub record AreWoken (t : Inside) (r : ℕ) (woken cleared ready none : Places) (needs : Vec (List (Option PhysReg)) Global) (readers : Vec Places Global) : Type 0 where
  pub within : r < length t.readers.items
  pub woken_is : (j : ℕ) → has woken j ≡ ((has (readers_at t.readers.items r) j && has t.live j) && not (has t.issued j))
  pub len : length needs.items ≡ 128
  pub needs_is : (j : ℕ) → j < 128 → get_or needs.items j [] ≡ needs_now r (has woken j) (needs_at t j)
  pub cleared_is : (j : ℕ) → j < 128 → has cleared j ≡ (has woken j && is_clear (get_or needs.items j []))
  pub ready_is : (j : ℕ) → has ready j ≡ (has t.ready j || has cleared j)
  pub readers_is : readers.items ≡ set t.readers.items r none
  pub none_is : (j : ℕ) → has none j ≡ false

or_implied : (a b : Bool) → (a ≡ true → b ≡ true) → (a || b) ≡ b
or_implied true b h = sym (h refl)
or_implied false b h = refl

or_false : (a : Bool) → (a || false) ≡ a
or_false true = refl
or_false false = refl

module _ (t : Inside) (sound : IsSound t) (r : ℕ) (woken cleared ready none : Places) (needs : Vec (List (Option PhysReg)) Global) (readers : Vec Places Global) (are : AreWoken t r woken cleared ready none needs readers) where
  -- a held entry that is not woken does not wait for r
  missed : (p : ℕ) → p < 128 → has t.live p ≡ true → has woken p ≡ false → needs_it r (needs_at t p) ≡ false
  missed p lt live other =
      ⊎_elim
      (λ (waits : needs_it r (needs_at t p) ≡ true).
      let reads = sound.waited p r lt live waits in
      ⊎_elim
      (λ (issued : has t.issued p ≡ true). clear-needs_it r (needs_at t p) (sound.clear p lt live issued))
      (λ (waiting : has t.issued p ≡ false).
      let here : has woken p ≡ true = are.woken_is p ∙ (λ i. (reads i && live i) && not (waiting i)) in
      absurd (both_ways (has woken p) other here))
      (cases_Bool (has t.issued p)))
      (λ (e : needs_it r (needs_at t p) ≡ false). e)
      (cases_Bool (needs_it r (needs_at t p)))

  needs-taken : (p : ℕ) → p < 128 → has woken p ≡ true → get_or needs.items p [] ≡ map (without_reg r) (needs_at t p)
  needs-taken p lt here = are.needs_is p lt ∙ ap (λ b. needs_now r b (needs_at t p)) here

  needs-left : (p : ℕ) → p < 128 → has woken p ≡ false → get_or needs.items p [] ≡ needs_at t p
  needs-left p lt other = are.needs_is p lt ∙ ap (λ b. needs_now r b (needs_at t p)) other

  needs-woken : (p : ℕ) → p < 128 → has t.live p ≡ true → map (without r) (numbers (needs_at t p)) ≡ numbers (get_or needs.items p [])
  needs-woken p lt live =
      ⊎_elim
      (λ (here : has woken p ≡ true). numbers-without r (needs_at t p) ∙ ap numbers (sym (needs-taken p lt here)))
      (λ (other : has woken p ≡ false). without-needs_it r (needs_at t p) (missed p lt live other) ∙ ap numbers (sym (needs-left p lt other)))
      (cases_Bool (has woken p))

  pub entries-woken : entries_of (record t { ready = ready; needs = needs; readers = readers }) ≡ map (woken_entry r) (entries_of t)
  unfolding entries_of
  entries-woken =
      sym (map-listed (woken_entry r) (λ k. has t.live ((t.low + k) % 128)) (λ k. entry_of t (t.low + k)) 128
      ∙ listed_same
      (λ k. has t.live ((t.low + k) % 128)) (λ k. has t.live ((t.low + k) % 128))
      (λ k. woken_entry r (entry_of t (t.low + k))) (λ k. entry_of (record t { ready = ready; needs = needs; readers = readers }) (t.low + k)) 128
      (λ k lt. refl)
      (λ k lt live. ap (λ (ns : List (Option ℕ)). record (entry_of t (t.low + k)) { needs = ns }) (needs-woken ((t.low + k) % 128) (omega arith) live)))

  -- ---- the words agree again

  ready-woken : (p : ℕ) → p < 128 → has ready p ≡ (has t.live p && (not (has t.issued p) && is_clear (get_or needs.items p [])))
  ready-woken p lt =
      let clear : Bool = is_clear (get_or needs.items p []) in
      ⊎_elim
      (λ (here : has woken p ≡ true).
      let parts = and_parts (has (readers_at t.readers.items r) p && has t.live p) (not (has t.issued p)) (sym (are.woken_is p) ∙ here) in
      let live = (and_parts (has (readers_at t.readers.items r) p) (has t.live p) parts.0).1 in
      let old : has t.ready p ≡ is_clear (needs_at t p) = sound.ready p lt ∙ (λ i. live i && (parts.1 i && is_clear (needs_at t p))) in
      let now : has cleared p ≡ clear = are.cleared_is p lt ∙ ap (λ b. b && clear) here in
      let stays : is_clear (needs_at t p) ≡ true → clear ≡ true = λ e. ap is_clear (needs-taken p lt here) ∙ clear-without r (needs_at t p) e in
      are.ready_is p ∙ (λ i. old i || now i) ∙ or_implied (is_clear (needs_at t p)) clear stays
      ∙ (λ i. sym live i && (sym parts.1 i && clear)))
      (λ (other : has woken p ≡ false).
      let now : has cleared p ≡ false = are.cleared_is p lt ∙ ap (λ b. b && clear) other in
      are.ready_is p ∙ ap (λ b. has t.ready p || b) now ∙ or_false (has t.ready p) ∙ sound.ready p lt
      ∙ ap (λ (ns : List (Option PhysReg)). has t.live p && (not (has t.issued p) && is_clear ns)) (sym (needs-left p lt other)))
      (cases_Bool (has woken p))

  clear-woken : (p : ℕ) → p < 128 → has t.live p ≡ true → has t.issued p ≡ true → is_clear (get_or needs.items p []) ≡ true
  clear-woken p lt live issued =
      ⊎_elim
      (λ (here : has woken p ≡ true). ap is_clear (needs-taken p lt here) ∙ clear-without r (needs_at t p) (sound.clear p lt live issued))
      (λ (other : has woken p ≡ false). ap is_clear (needs-left p lt other) ∙ sound.clear p lt live issued)
      (cases_Bool (has woken p))

  -- who still waits for a register waited for it, and it is another one
  still : (p q : ℕ) → p < 128 → has t.live p ≡ true → needs_it q (get_or needs.items p []) ≡ true → (needs_it q (needs_at t p) ≡ true) × (q ≡ r → ⊥)
  still p q lt live waits =
      ⊎_elim
      (λ (here : has woken p ≡ true).
      let e : needs_it q (map (without_reg r) (needs_at t p)) ≡ true = ap (needs_it q) (sym (needs-taken p lt here)) ∙ waits in
      (needs_it-kept q r (needs_at t p) e, λ same. both_ways (needs_it q (map (without_reg r) (needs_at t p))) (ap (λ (x : ℕ). needs_it x (map (without_reg r) (needs_at t p))) same ∙ needs_it-without r (needs_at t p)) e))
      (λ (other : has woken p ≡ false).
      let e : needs_it q (needs_at t p) ≡ true = ap (needs_it q) (sym (needs-left p lt other)) ∙ waits in
      (e, λ same. both_ways (needs_it q (needs_at t p)) (ap (λ (x : ℕ). needs_it x (needs_at t p)) same ∙ missed p lt live other) e))
      (cases_Bool (has woken p))

  waited-woken : (p q : ℕ) → p < 128 → has t.live p ≡ true → needs_it q (get_or needs.items p []) ≡ true → has (readers_at readers.items q) p ≡ true
  waited-woken p q lt live waits =
      let s = still p q lt live waits in
      ap (λ (xs : List Places). has (readers_at xs q) p) are.readers_is
      ∙ ap (λ (x : Places). has x p) (get_or-set_other t.readers.items r q none (record { 0 = 0 }) s.1)
      ∙ sound.waited p q lt live s.0

  pub sound-woken : IsSound (record t { ready = ready; needs = needs; readers = readers })
  sound-woken = record {
    small = sound.small;
    needs = are.len;
    until = sound.until;
    ready = ready-woken;
    done = sound.done;
    clear = clear-woken;
    waited = waited-woken;
  }

-- from what the calls of a wake say
pub are_woken : (t : Inside) (r register : ℕ) (read both woken cleared ready none : Places) (needs : Vec (List (Option PhysReg)) Global) (readers : Vec Places Global)
    → register ≡ r → r < length t.readers.items → read ≡ get_or t.readers.items register read
    → ((j : ℕ) → has both j ≡ (has read j && has t.live j)) → ((j : ℕ) → has woken j ≡ (has both j && not (has t.issued j)))
    → length needs.items ≡ 128
    → ((j : ℕ) → j < 128 → get_or needs.items j [] ≡ needs_now r (has woken j) (needs_at t j))
    → ((j : ℕ) → j < 128 → has cleared j ≡ (has woken j && is_clear (get_or needs.items j [])))
    → ((j : ℕ) → has ready j ≡ (has t.ready j || has cleared j))
    → readers.items ≡ set t.readers.items register none → ((j : ℕ) → has none j ≡ false)
    → AreWoken t r woken cleared ready none needs readers
are_woken t r register read both woken cleared ready none needs readers same within reads both_is woken_is len needs_is cleared_is ready_is readers_is none_is =
    let in' : register < length t.readers.items = omega arith in
    let e : read ≡ readers_at t.readers.items r = get_or_read t.readers.items register read in' reads (record { 0 = 0 }) ∙ ap (readers_at t.readers.items) same in
    record {
      within = within;
      woken_is = λ j. woken_is j ∙ ap (λ b. b && not (has t.issued j)) (both_is j ∙ ap (λ x. has x j && has t.live j) e);
      len = len;
      needs_is = needs_is;
      cleared_is = cleared_is;
      ready_is = ready_is;
      readers_is = readers_is ∙ ap (λ (i : ℕ). set t.readers.items i none) same;
      none_is = none_is;
    }
