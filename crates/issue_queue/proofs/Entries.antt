-- The entries of a table: the first that may be issued or is finished, and what a change of the words leaves.
use Rattle.std.proofs.Common.{◌≡◌, ℕ, ◌+◌, ◌%◌, ◌<◌, ◌==◌, nat_le, Bool, true, false, not, cond, ◌&&◌, ◌||◌, List, [], ◌∷◌, length, map, Option, Some, None, slice_index, refl, sym, ap, ◌∙◌, subst, ⊎_elim, arith, set, get_or-set_same, get_or-set_other, Vec, Global}
use Rattle.std.specs.List.{filter, list_all}
use Rattle.std.specs.Option.{option_map_or}
use Rattle.std.proofs.lemmas.Bool.{and_parts, cases_eq, eq-eqb, ne_eqb, cond-true, cond-false}
use Rattle.rsim_base.specs.declared.processor.PhysReg.{PhysReg}
use Rattle.ring_set.specs.Sets.{aged, has, how_many, place_at}
use Rattle.ring_set.specs.declared.set.Places.{Places}
use Rattle.rsim_base.specs.declared.processor.Unit.{Unit}
use Rattle.issue_queue.specs.declared.units.ByUnit.{ByUnit}
use Rattle.issue_queue.specs.Units.{of_unit}
use Rattle.issue_queue.specs.Needs.{is_clear, numbers}
use Rattle.issue_queue.specs.Words.{IsFirst, LacksAges, unit_in}
use Rattle.issue_queue.specs.Queues.{is_finished, issued_until}
use Rattle.issue_queue.specs.Held.{Ends, EndsOf, Issues, IssuesOf, may_issue}
use Rattle.issue_queue.specs.Tables.{IsSound, entries_of, entry_of, held_of, needs_at, until_at}
use Rattle.issue_queue.specs.declared.table.Table.TheInside.{Inside}
use Rattle.issue_queue.proofs.Gaps.{filter-listed, found_first, found_none, length-listed, listed_same, map-listed}

pub length-entries : (t : Inside) (count head : ℕ) → head ≡ t.low % 128 → count ≡ how_many (aged t.live head) 128 → count ≡ length (entries_of t)
unfolding entries_of place_at
length-entries t count head at is =
    is ∙ sym (length-listed (λ k. has t.live ((t.low + k) % 128)) (aged t.live head) (λ k. entry_of t (t.low + k)) 128 (λ k lt.
    let e : (t.low + k) % 128 ≡ (head + k) % 128 = omega arith in ap (has t.live) e))

-- two of 128 numbers in a row have one place only where they are the same
pub same_place : (low k age : ℕ) → k < 128 → age < 128 → ((low + k) % 128 == (low + age) % 128) ≡ (low + k == low + age)
same_place low k age lk la =
    ⊎_elim
    (λ (e : k ≡ age). eq-eqb _ _ (ap (λ (x : ℕ). (low + x) % 128) e) ∙ sym (eq-eqb _ _ (ap (λ (x : ℕ). low + x) e)))
    (λ (ne : k ≡ age → ⊥). ne_eqb _ _ (λ e. ne (omega arith)) ∙ sym (ne_eqb _ _ (λ e. ne (omega arith))))
    (cases_eq k age)

-- ---- what the tests say of an entry

finished_if : (b : Bool) (until now : ℕ) → option_map_or (λ t. nat_le t now) (cond b (Some until) None) false ≡ (b && nat_le until now)
finished_if true until now = refl
finished_if false until now = refl

waiting_if : (b : Bool) (until : ℕ) → option_map_or (λ _. false) (cond b (Some until) None) true ≡ not b
waiting_if true until = refl
waiting_if false until = refl

ready-numbers : (needs : List (Option PhysReg)) → list_all (λ n. option_map_or (λ _. false) n true) (numbers needs) ≡ is_clear needs
ready-numbers [] = refl
ready-numbers (None ∷ needs) = ready-numbers needs
ready-numbers (Some r ∷ needs) = refl

regroup : (live issued clear able : Bool) → (live && (not issued && (clear && able))) ≡ ((live && (not issued && clear)) && able)
regroup true true clear able = refl
regroup true false clear able = refl
regroup false issued clear able = refl

and_swap : (a b : Bool) → (a && b) ≡ (b && a)
and_swap true true = refl
and_swap true false = refl
and_swap false true = refl
and_swap false false = refl

module _ (t : Inside) (sound : IsSound t) where
  finished-done : (k : ℕ) → (has t.live ((t.low + k) % 128) && is_finished t.tick (entry_of t (t.low + k))) ≡ has t.done ((t.low + k) % 128)
  finished-done k =
      let p : ℕ = (t.low + k) % 128 in
      ap (λ b. has t.live p && b) (finished_if (has t.issued p) (until_at t p) t.tick) ∙ sym (sound.done p (omega arith))

  may_issue-able : (able : ByUnit Bool) (set : Places) → ((j : ℕ) → has set j ≡ (has t.ready j && of_unit able (unit_in t.mul t.div j))) → (k : ℕ) → (has t.live ((t.low + k) % 128) && may_issue able (entry_of t (t.low + k))) ≡ has set ((t.low + k) % 128)
  may_issue-able able word is k =
      let p : ℕ = (t.low + k) % 128 in
      let live : Bool = has t.live p in
      let issued : Bool = has t.issued p in
      let fit : Bool = of_unit able (unit_in t.mul t.div p) in
      (λ i. live && (waiting_if issued (until_at t p) i && (ready-numbers (needs_at t p) i && fit)))
      ∙ regroup live issued (is_clear (needs_at t p)) fit
      ∙ ap (λ b. b && fit) (sym (sound.ready p (omega arith)))
      ∙ sym (is p)

  -- ---- who is finished

  pub ends_none : (result : Option ℕ) → LacksAges t.done t.low → result ≡ None → Ends (held_of t) result (held_of t)
  unfolding entries_of
  ends_none result none is =
      let found = found_none (is_finished t.tick) (λ k. has t.live ((t.low + k) % 128)) (λ k. entry_of t (t.low + k)) 128 (λ k lt. finished-done k ∙ none k lt) in
      subst (λ o. EndsOf (held_of t) o result (held_of t)) (sym found) (is, refl)

  pub ends_first : (age place : ℕ) (live done : Places) → IsFirst t.done t.low age → place ≡ (t.low + age) % 128 → ((j : ℕ) → has live j ≡ (not (j == place) && has t.live j)) → Ends (held_of t) (Some (t.low + age)) (held_of (record t { live = live; done = done }))
  unfolding entries_of
  ends_first age place live done first at is =
      let here = and_parts _ _ (finished-done age ∙ first.there) in
      let found = found_first (is_finished t.tick) (λ k. has t.live ((t.low + k) % 128)) (λ k. entry_of t (t.low + k)) 128 age first.within here.0 here.1 (λ k lt. finished-done k ∙ first.before k lt) in
      let left = filter-listed (λ e. not (e.seq == t.low + age)) (λ k. has t.live ((t.low + k) % 128)) (λ k. entry_of t (t.low + k)) 128 in
      let same = listed_same
      (λ k. has t.live ((t.low + k) % 128) && not (t.low + k == t.low + age)) (λ k. has live ((t.low + k) % 128))
      (λ k. entry_of t (t.low + k)) (λ k. entry_of t (t.low + k)) 128
      (λ k lt.
      let p : ℕ = (t.low + k) % 128 in
      and_swap (has t.live p) (not (t.low + k == t.low + age))
      ∙ ap (λ b. not b && has t.live p) (sym (same_place t.low k age lt first.within) ∙ ap (λ (x : ℕ). p == x) (sym at))
      ∙ sym (is p))
      (λ k lt live. refl) in
      subst (λ o. EndsOf (held_of t) o (Some (t.low + age)) (held_of (record t { live = live; done = done }))) (sym found) (refl, λ i. record (held_of t) { entries = sym (left ∙ same) i })

  -- ---- who may be issued

  pub issues_none : (able : ByUnit Bool) (ticks : ByUnit ℕ) (set : Places) (result : Option (ℕ × Unit)) → ((j : ℕ) → has set j ≡ (has t.ready j && of_unit able (unit_in t.mul t.div j))) → LacksAges set t.low → result ≡ None → Issues able ticks (held_of t) result (held_of t)
  unfolding entries_of
  issues_none able ticks word result is none same =
      let found = found_none (may_issue able) (λ k. has t.live ((t.low + k) % 128)) (λ k. entry_of t (t.low + k)) 128 (λ k lt. may_issue-able able word is k ∙ none k lt) in
      subst (λ o. IssuesOf ticks (held_of t) o result (held_of t)) (sym found) (same, refl)

  module _ (age place end : ℕ) (issued : Places) (until : Vec ℕ Global) (within : age < 128) (at : place ≡ (t.low + age) % 128) (is : (j : ℕ) → has issued j ≡ (j == place || has t.issued j)) (now : until.items ≡ set t.until.items place end) where
    entry-issued : (k : ℕ) → k < 128 → issued_until (t.low + age) end (entry_of t (t.low + k)) ≡ entry_of (record t { issued = issued; until = until }) (t.low + k)
    entry-issued k lt =
        let p : ℕ = (t.low + k) % 128 in
        let same : (p == place) ≡ (t.low + k == t.low + age) = ap (λ (x : ℕ). p == x) at ∙ same_place t.low k age lt within in
        let old = entry_of t (t.low + k) in
        ⊎_elim
        (λ (e : t.low + k ≡ t.low + age).
        let mine : (p == place) ≡ true = same ∙ eq-eqb _ _ e in
        let in' : place < length t.until.items = omega (arith, sound.until) in
        let value : slice_index until.items p ≡ end = ap (λ (xs : List ℕ). slice_index xs p) now ∙ ap (λ (x : ℕ). slice_index (set t.until.items place end) x) (ap (λ (x : ℕ). x % 128) e ∙ sym at) ∙ get_or-set_same t.until.items place end 0 in' in
        let taken : has issued p ≡ true = is p ∙ ap (λ b. b || has t.issued p) mine in
        cond-true _ _ _ (eq-eqb _ _ e) ∙ (λ i. record old { until = cond (sym taken i) (Some (sym value i)) None }))
        (λ (ne : t.low + k ≡ t.low + age → ⊥).
        let other : (p == place) ≡ false = same ∙ ne_eqb _ _ ne in
        let apart : p ≡ place → ⊥ = λ e. ne (omega arith) in
        let value : slice_index until.items p ≡ until_at t p = ap (λ (xs : List ℕ). slice_index xs p) now ∙ get_or-set_other t.until.items place p end 0 apart in
        let kept : has issued p ≡ has t.issued p = is p ∙ ap (λ b. b || has t.issued p) other in
        cond-false _ _ _ (ne_eqb _ _ ne) ∙ (λ i. record old { until = cond (sym kept i) (Some (sym value i)) None }))
        (cases_eq (t.low + k) (t.low + age))

    entries-issued : (ready : Places) → entries_of (record t { ready = ready; issued = issued; until = until }) ≡ map (issued_until (t.low + age) end) (entries_of t)
    unfolding entries_of
    entries-issued ready =
        sym (map-listed (issued_until (t.low + age) end) (λ k. has t.live ((t.low + k) % 128)) (λ k. entry_of t (t.low + k)) 128
        ∙ listed_same
        (λ k. has t.live ((t.low + k) % 128)) (λ k. has t.live ((t.low + k) % 128))
        (λ k. issued_until (t.low + age) end (entry_of t (t.low + k))) (λ k. entry_of (record t { issued = issued; until = until }) (t.low + k)) 128
        (λ k lt. refl) (λ k lt at. entry-issued k lt))

  pub issues_first : (able : ByUnit Bool) (ticks : ByUnit ℕ) (word : Places) (age place end : ℕ) (unit : Unit) (ready issued : Places) (until : Vec ℕ Global)
      → ((j : ℕ) → has word j ≡ (has t.ready j && of_unit able (unit_in t.mul t.div j))) → IsFirst word t.low age
      → place ≡ (t.low + age) % 128 → ((j : ℕ) → has issued j ≡ (j == place || has t.issued j)) → until.items ≡ set t.until.items place end
      → unit ≡ unit_in t.mul t.div place → end ≡ t.tick + of_unit ticks unit
      → Issues able ticks (held_of t) (Some (t.low + age, unit)) (held_of (record t { ready = ready; issued = issued; until = until }))
  unfolding entries_of
  issues_first able ticks word age place end unit ready issued until is first at taken now kind ends =
      let here = and_parts _ _ (may_issue-able able word is age ∙ first.there) in
      let found = found_first (may_issue able) (λ k. has t.live ((t.low + k) % 128)) (λ k. entry_of t (t.low + k)) 128 age first.within here.0 here.1 (λ k lt. may_issue-able able word is k ∙ first.before k lt) in
      let own : unit ≡ unit_in t.mul t.div ((t.low + age) % 128) = kind ∙ ap (unit_in t.mul t.div) at in
      let until_then : end ≡ t.tick + of_unit ticks (unit_in t.mul t.div ((t.low + age) % 128)) = ends ∙ ap (λ u. t.tick + of_unit ticks u) own in
      let after = entries-issued age place end issued until first.within at taken now ready ∙ ap (λ (n : ℕ). map (issued_until (t.low + age) n) (entries_of t)) until_then in
      subst (λ o. IssuesOf ticks (held_of t) o (Some (t.low + age, unit)) (held_of (record t { ready = ready; issued = issued; until = until }))) (sym found) (ap (λ u. Some (t.low + age, u)) own, λ i. record (held_of t) { entries = after i })

  -- ---- a cut

  pub entries-cut : (seq : ℕ) (live ready done : Places) → ((k : ℕ) → k < 128 → has live ((t.low + k) % 128) ≡ (has t.live ((t.low + k) % 128) && nat_le (t.low + k) seq)) → entries_of (record t { live = live; ready = ready; done = done }) ≡ filter (λ e. nat_le e.seq seq) (entries_of t)
  unfolding entries_of
  entries-cut seq live ready done is =
      sym (filter-listed (λ e. nat_le e.seq seq) (λ k. has t.live ((t.low + k) % 128)) (λ k. entry_of t (t.low + k)) 128
      ∙ listed_same
      (λ k. has t.live ((t.low + k) % 128) && nat_le (t.low + k) seq) (λ k. has live ((t.low + k) % 128))
      (λ k. entry_of t (t.low + k)) (λ k. entry_of t (t.low + k)) 128
      (λ k lt. sym (is k lt)) (λ k lt at. refl))
