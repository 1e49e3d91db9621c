-- A table after an entry joined: it stands last, and all others are as before.
use Rattle.std.proofs.Common.{◌≡◌, ℕ, ◌+◌, ◌-◌, ◌%◌, ◌^◌, ◌<◌, ◌≤◌, ◌==◌, nat_le, nat_lt, Bool, true, false, not, cond, ◌&&◌, ◌||◌, List, [], ◌∷◌, ◌++◌, length, Option, Some, None, refl, sym, ap, ◌∙◌, ⊎_elim, arith, set, get_or, Vec, Global, get_or-set_same, get_or-set_other, length-set}
use Rattle.std.specs.List.{All}
use Rattle.std.proofs.lemmas.Bool.{and_parts, cases_Bool, cases_eq, eq-eqb, ne_eqb, cond-true, cond-false, both_ways, leb-true, ltb-true}
use Rattle.std.proofs.lemmas.Bool.Decides.{nat_tests}
use Rattle.rsim_base.specs.declared.processor.PhysReg.{PhysReg}
use Rattle.ring_set.specs.Sets.{has}
use Rattle.ring_set.specs.declared.set.Places.{Places}
use Rattle.rsim_base.specs.declared.processor.Unit.{Unit}
use Rattle.rsim_base.specs.declared.processor.Unit.TheVariants.{Alu, Mul, Div}
use Rattle.issue_queue.specs.Units.{is_div, is_mul}
use Rattle.issue_queue.specs.Needs.{is_clear, needs_it, numbers, readers_at}
use Rattle.issue_queue.specs.Words.{unit_in}
use Rattle.issue_queue.specs.Queues.{Entry, entry}
use Rattle.issue_queue.specs.Tables.{IsSound, entries_of, entry_of, needs_at, until_at}
use Rattle.issue_queue.specs.declared.table.Table.TheInside.{Inside}
use Rattle.issue_queue.proofs.Gaps.{is_in, listed_all, listed_more, listed_same, listed_window}

-- what the fields are after an entry joined
pub record AreAdded (t : Inside) (seq : ℕ) (unit : Unit) (own : List (Option PhysReg)) (low place : ℕ) (live ready issued mul div : Places) (needs : Vec (List (Option PhysReg)) Global) (readers : Vec Places Global) : Type 0 where
  pub youngest : All (λ (e : Entry). e.seq < seq) (entries_of t)
  pub near : All (λ (e : Entry). seq < e.seq + 128) (entries_of t)
  pub small : seq < 2 ^ 63
  pub low_is : low ≡ seq - 127
  pub place_is : place ≡ seq % 128
  pub live_is : (j : ℕ) → has live j ≡ ((j == place) || has t.live j)
  pub ready_is : (j : ℕ) → has ready j ≡ cond (j == place) (is_clear own) (has t.ready j)
  pub issued_is : (j : ℕ) → has issued j ≡ (not (j == place) && has t.issued j)
  pub mul_is : (j : ℕ) → has mul j ≡ cond (j == place) (is_mul unit) (has t.mul j)
  pub div_is : (j : ℕ) → has div j ≡ cond (j == place) (is_div unit) (has t.div j)
  pub needs_is : needs.items ≡ set t.needs.items place own
  pub readers_is : (r j : ℕ) → has (readers_at readers.items r) j ≡ (((j == place) && needs_it r own) || has (readers_at t.readers.items r) j)
  pub len : length readers.items ≡ length t.readers.items

both_true : (a b : Bool) → (a ≡ true → b ≡ true) → (b ≡ true → a ≡ true) → a ≡ b
both_true true b f g = sym (f refl)
both_true false true f g = g refl
both_true false false f g = refl

kind_of : (unit : Unit) → cond (is_mul unit) Mul (cond (is_div unit) Div Alu) ≡ unit
kind_of Alu = refl
kind_of Mul = refl
kind_of Div = refl

module _ (t : Inside) (sound : IsSound t) (seq : ℕ) (unit : Unit) (own : List (Option PhysReg)) (low place : ℕ) (live ready issued mul div : Places) (needs : Vec (List (Option PhysReg)) Global) (readers : Vec Places Global) (are : AreAdded t seq unit own low place live ready issued mul div needs readers) where
  abbrev new : Inside
  new = record t { low = low; live = live; ready = ready; issued = issued; mul = mul; div = div; needs = needs; readers = readers }

  -- a held number is below the new one, and near it
  below : (k : ℕ) → k < 128 → has t.live ((t.low + k) % 128) ≡ true → (t.low + k < seq) × (seq < t.low + k + 128)
  unfolding entries_of
  below k lt at = (
    listed_all (λ (e : Entry). e.seq < seq) (λ j. has t.live ((t.low + j) % 128)) (λ j. entry_of t (t.low + j)) 128 are.youngest k lt at,
    listed_all (λ (e : Entry). seq < e.seq + 128) (λ j. has t.live ((t.low + j) % 128)) (λ j. entry_of t (t.low + j)) 128 are.near k lt at,
  )

  -- the held number at a place
  held_at : (p : ℕ) → p < 128 → has t.live p ≡ true → let k : ℕ = (p + 128 - t.low % 128) % 128 in (t.low + k < seq) × (seq < t.low + k + 128)
  held_at p lt at =
      let k : ℕ = (p + 128 - t.low % 128) % 128 in
      let e : p ≡ (t.low + k) % 128 = omega (arith, lt) in
      below k (omega arith) (ap (has t.live) (sym e) ∙ at)

  place_free : has t.live place ≡ false
  place_free =
      ⊎_elim
      (λ (at : has t.live place ≡ true).
      let lt : place < 128 = omega (arith, are.place_is) in
      let b = held_at place lt at in
      absurd (omega (arith, are.place_is, b.0, b.1)))
      (λ (e : has t.live place ≡ false). e)
      (cases_Bool (has t.live place))

  -- ---- what the fields say at another place, and at this one

  live_other : (p : ℕ) → (p == place) ≡ false → has live p ≡ has t.live p
  live_other p e = are.live_is p ∙ ap (λ b. b || has t.live p) e

  issued_other : (p : ℕ) → (p == place) ≡ false → has issued p ≡ has t.issued p
  issued_other p e = are.issued_is p ∙ ap (λ b. not b && has t.issued p) e

  ready_other : (p : ℕ) → (p == place) ≡ false → has ready p ≡ has t.ready p
  ready_other p e = are.ready_is p ∙ cond-false (p == place) _ _ e

  mul_other : (p : ℕ) → (p == place) ≡ false → has mul p ≡ has t.mul p
  mul_other p e = are.mul_is p ∙ cond-false (p == place) _ _ e

  div_other : (p : ℕ) → (p == place) ≡ false → has div p ≡ has t.div p
  div_other p e = are.div_is p ∙ cond-false (p == place) _ _ e

  needs_other : (p : ℕ) → (p ≡ place → ⊥) → get_or needs.items p [] ≡ needs_at t p
  needs_other p ne = ap (λ (xs : List (List (Option PhysReg))). get_or xs p []) are.needs_is ∙ get_or-set_other t.needs.items place p own [] ne

  live_here : (p : ℕ) → (p == place) ≡ true → has live p ≡ true
  live_here p e = are.live_is p ∙ ap (λ b. b || has t.live p) e

  issued_here : (p : ℕ) → (p == place) ≡ true → has issued p ≡ false
  issued_here p e = are.issued_is p ∙ ap (λ b. not b && has t.issued p) e

  needs_here : (p : ℕ) → p ≡ place → get_or needs.items p [] ≡ own
  needs_here p e =
      let lt : place < length t.needs.items = omega (arith, are.place_is, sound.needs) in
      ap (λ (xs : List (List (Option PhysReg))). get_or xs p []) are.needs_is
      ∙ ap (λ (x : ℕ). get_or (set t.needs.items place own) x []) e
      ∙ get_or-set_same t.needs.items place own [] lt

  -- ---- the words agree again

  ready_sound : (p : ℕ) → p < 128 → has ready p ≡ (has live p && (not (has issued p) && is_clear (get_or needs.items p [])))
  ready_sound p lt =
      ⊎_elim
      (λ (e : p ≡ place).
      let b : (p == place) ≡ true = eq-eqb _ _ e in
      are.ready_is p ∙ cond-true (p == place) _ _ b
      ∙ (λ i. sym (live_here p b) i && (not (sym (issued_here p b) i) && is_clear (sym (needs_here p e) i))))
      (λ (ne : p ≡ place → ⊥).
      let b : (p == place) ≡ false = ne_eqb _ _ ne in
      ready_other p b ∙ sound.ready p lt
      ∙ (λ i. sym (live_other p b) i && (not (sym (issued_other p b) i) && is_clear (sym (needs_other p ne) i))))
      (cases_eq p place)

  done_sound : (p : ℕ) → p < 128 → has t.done p ≡ (has live p && (has issued p && nat_le (until_at t p) t.tick))
  done_sound p lt =
      let due : Bool = nat_le (until_at t p) t.tick in
      ⊎_elim
      (λ (e : p ≡ place).
      let b : (p == place) ≡ true = eq-eqb _ _ e in
      sound.done p lt ∙ ap (λ x. x && (has t.issued p && due)) (ap (has t.live) e ∙ place_free)
      ∙ (λ i. sym (live_here p b) i && (sym (issued_here p b) i && due)))
      (λ (ne : p ≡ place → ⊥).
      let b : (p == place) ≡ false = ne_eqb _ _ ne in
      sound.done p lt ∙ (λ i. sym (live_other p b) i && (sym (issued_other p b) i && due)))
      (cases_eq p place)

  clear_sound : (p : ℕ) → p < 128 → has live p ≡ true → has issued p ≡ true → is_clear (get_or needs.items p []) ≡ true
  clear_sound p lt at taken =
      ⊎_elim
      (λ (e : p ≡ place). absurd (both_ways (has issued p) (issued_here p (eq-eqb _ _ e)) taken))
      (λ (ne : p ≡ place → ⊥).
      let b : (p == place) ≡ false = ne_eqb _ _ ne in
      ap is_clear (needs_other p ne) ∙ sound.clear p lt (sym (live_other p b) ∙ at) (sym (issued_other p b) ∙ taken))
      (cases_eq p place)

  waited_sound : (p r : ℕ) → p < 128 → has live p ≡ true → needs_it r (get_or needs.items p []) ≡ true → has (readers_at readers.items r) p ≡ true
  waited_sound p r lt at waits =
      ⊎_elim
      (λ (e : p ≡ place).
      let b : (p == place) ≡ true = eq-eqb _ _ e in
      let mine : needs_it r own ≡ true = ap (needs_it r) (sym (needs_here p e)) ∙ waits in
      are.readers_is r p ∙ (λ i. (b i && mine i) || has (readers_at t.readers.items r) p))
      (λ (ne : p ≡ place → ⊥).
      let b : (p == place) ≡ false = ne_eqb _ _ ne in
      are.readers_is r p ∙ ap (λ x. (x && needs_it r own) || has (readers_at t.readers.items r) p) b
      ∙ sound.waited p r lt (sym (live_other p b) ∙ at) (ap (needs_it r) (sym (needs_other p ne)) ∙ waits))
      (cases_eq p place)

  pub sound-added : IsSound (record t { low = low; live = live; ready = ready; issued = issued; mul = mul; div = div; needs = needs; readers = readers })
  sound-added = record {
    small = omega (arith, are.low_is, are.small);
    needs = ap length are.needs_is ∙ length-set t.needs.items place own ∙ sound.needs;
    until = sound.until;
    ready = ready_sound;
    done = done_sound;
    clear = clear_sound;
    waited = waited_sound;
  }

  -- ---- the list

  -- the tests over all numbers, before and after
  abbrev was : ℕ → Bool
  was s = is_in t.low 128 s && has t.live (s % 128)

  abbrev is_now : ℕ → Bool
  is_now s = is_in low 128 s && has live (s % 128)

  in-yes : (l s : ℕ) → l ≤ s → s < l + 128 → is_in l 128 s ≡ true
  in-yes l s a b = grind (arith, nat_tests)

  -- who was held is near the new one
  was_near : (s : ℕ) → was s ≡ true → (s < seq) × (seq < s + 128)
  was_near s e =
      let parts = and_parts (is_in t.low 128 s) (has t.live (s % 128)) e in
      let bounds = and_parts (nat_le t.low s) (nat_lt s (t.low + 128)) parts.0 in
      let first : t.low ≤ s = leb-true t.low s bounds.0 in
      let last : s < t.low + 128 = ltb-true s (t.low + 128) bounds.1 in
      let k : ℕ = s - t.low in
      let at : t.low + k ≡ s = omega (arith, first) in
      let b = below k (omega (arith, first, last)) (ap (λ (x : ℕ). has t.live (x % 128)) at ∙ parts.1) in
      (omega (arith, at, b.0), omega (arith, at, b.1))

  none_after : (s : ℕ) → seq ≤ s → was s ≡ false
  none_after s le =
      ⊎_elim
      (λ (e : was s ≡ true). let b = was_near s e in absurd (omega (arith, b.0)))
      (λ (e : was s ≡ false). e)
      (cases_Bool (was s))

  -- a held number at the place of a number of the new window is that number
  was_there : (s : ℕ) → low ≤ s → s < low + 128 → has t.live (s % 128) ≡ true → is_in t.low 128 s ≡ true
  was_there s a b at =
      let p : ℕ = s % 128 in
      let k : ℕ = (p + 128 - t.low % 128) % 128 in
      let h = held_at p (omega arith) at in
      let same : s ≡ t.low + k = omega (arith, a, b, h.0, h.1, are.low_is) in
      in-yes t.low s (omega (arith, same)) (omega (arith, same))

  live_then : (s : ℕ) → low ≤ s → s < low + 128 → (s ≡ seq → ⊥) → has live (s % 128) ≡ has t.live (s % 128)
  live_then s a b ne = live_other (s % 128) (ne_eqb _ _ (λ e. ne (omega (arith, a, b, e, are.low_is, are.place_is))))

  -- another number is held where it was
  joined_other : (s : ℕ) → (s ≡ seq → ⊥) → is_now s ≡ was s
  joined_other s ne = both_true (is_now s) (was s)
      (λ e.
      let parts = and_parts (is_in low 128 s) (has live (s % 128)) e in
      let bounds = and_parts (nat_le low s) (nat_lt s (low + 128)) parts.0 in
      let first : low ≤ s = leb-true low s bounds.0 in
      let last : s < low + 128 = ltb-true s (low + 128) bounds.1 in
      let at : has t.live (s % 128) ≡ true = sym (live_then s first last ne) ∙ parts.1 in
      (λ i. was_there s first last at i && at i))
      (λ e.
      let b = was_near s e in
      let first : low ≤ s = omega (arith, b.0, b.1, are.low_is) in
      let last : s < low + 128 = omega (arith, b.0, b.1, are.low_is) in
      let parts = and_parts (is_in t.low 128 s) (has t.live (s % 128)) e in
      (λ i. in-yes low s first last i && (live_then s first last ne ∙ parts.1) i))

  joined : (s : ℕ) → is_now s ≡ (s == seq || was s)
  joined s =
      ⊎_elim
      (λ (e : s ≡ seq).
      let first : low ≤ s = omega (arith, e, are.low_is) in
      let last : s < low + 128 = omega (arith, e, are.low_is) in
      let at : s % 128 ≡ place = omega (arith, e, are.place_is) in
      (λ i. in-yes low s first last i && live_here (s % 128) (eq-eqb _ _ at) i)
      ∙ ap (λ b. b || was s) (sym (eq-eqb _ _ e)))
      (λ (ne : s ≡ seq → ⊥).
      joined_other s ne ∙ ap (λ b. b || was s) (sym (ne_eqb _ _ ne)))
      (cases_eq s seq)

  -- ---- the entries of the numbers

  entry_there : (s : ℕ) → was s ≡ true → entry_of t s ≡ entry_of new s
  entry_there s e =
      let b = was_near s e in
      let p : ℕ = s % 128 in
      let ne : p ≡ place → ⊥ = λ x. omega (arith, b.0, b.1, x, are.place_is) in
      let other : (p == place) ≡ false = ne_eqb _ _ ne in
      λ i. record {
        seq = s;
        unit = cond (sym (mul_other p other) i) Mul (cond (sym (div_other p other) i) Div Alu);
        needs = numbers (sym (needs_other p ne) i);
        until = cond (sym (issued_other p other) i) (Some (until_at t p)) None;
      }

  entry_here : entry_of new seq ≡ entry seq unit own
  entry_here =
      let p : ℕ = seq % 128 in
      let at : p ≡ place = sym are.place_is in
      let b : (p == place) ≡ true = eq-eqb _ _ at in
      let is_mul_here : has mul p ≡ is_mul unit = are.mul_is p ∙ cond-true (p == place) _ _ b in
      let is_div_here : has div p ≡ is_div unit = are.div_is p ∙ cond-true (p == place) _ _ b in
      let kind : unit_in mul div p ≡ unit = (λ i. cond (is_mul_here i) Mul (cond (is_div_here i) Div Alu)) ∙ kind_of unit in
      λ i. record {
        seq = seq;
        unit = kind i;
        needs = numbers (needs_here p at i);
        until = cond (issued_here p b i) (Some (until_at t p)) None;
      }

  pub entries-added : entries_of (record t { low = low; live = live; ready = ready; issued = issued; mul = mul; div = div; needs = needs; readers = readers }) ≡ entries_of t ++ entry seq unit own ∷ []
  unfolding entries_of
  entries-added =
      let all : ℕ = t.low + seq + 128 in
      let more = listed_more was (λ s. entry_of new s) all seq (omega arith) none_after in
      let before = listed_window t.low 128 all (λ s. has t.live (s % 128)) (λ s. entry_of t s) (omega arith)
      ∙ listed_same was was (λ s. entry_of t s) (λ s. entry_of new s) all (λ k lt. refl) (λ k lt at. entry_there k at) in
      let after = listed_window low 128 all (λ s. has live (s % 128)) (λ s. entry_of new s) (omega (arith, are.low_is))
      ∙ listed_same is_now (λ s. s == seq || was s) (λ s. entry_of new s) (λ s. entry_of new s) all (λ k lt. joined k) (λ k lt at. refl) in
      after ∙ sym more ∙ (λ i. sym before i ++ entry_here i ∷ [])
