-- The entries of lines in the slots of a slab: which value a line has, and what a change of one slot leaves.
use Rattle.std.proofs.Common.{◌≡◌, ◌≢◌, ℕ, zero, suc, ◌==◌, true, false, cond, List, [], ◌∷◌, map, filter_map, Option, Some, None, option_map, ◌⊎◌, inl, inr, ⊎_elim, get_or, refl, sym, ap, ◌∙◌, subst}
use Rattle.std.specs.Ordering.{nat_cmp, eq_by_cmp}
use Rattle.std.specs.Cmp.{unsigned_tied}
use Rattle.std.specs.FinMap.{find}
use Rattle.std.proofs.lemmas.Bool.{eqb-true, eqb-false, eq-eqb, ne_eqb, cases_eq}
use Rattle.std.proofs.lemmas.Option.{none-some, same_Some}
use Rattle.slab.specs.Slab.{Slab, get, Updates}
use Rattle.miss_registers.specs.declared.line_table.Entry.{Entry}
use Rattle.miss_registers.specs.LineMap.{entry_of, AreApart}

-- what stands under each key, from 0 on
abbrev pub Slots : Type 0 → Type 0
Slots T = List (Option (Entry T))

module _ {T : Type 0} where
  -- the value in the first entry of a line
  abbrev pub value_at : ℕ → Slots T → Option T
  value_at line slots = find nat_cmp line (map (λ e. (e.line.0, e.value)) (filter_map (λ slot. slot) slots))

  -- some entry of the line has this value, or the line has no entry
  abbrev pub Stands : Slots T → ℕ → Option T → Type 0
  Stands slots line None = (key : ℕ) (v : T) → get_or slots key None ≢ Some (entry_of line v)
  Stands slots line (Some v) = (key : ℕ) × (get_or slots key None ≡ Some (entry_of line v))

  -- no line has two entries
  abbrev pub Apart : Slots T → Type 0
  Apart slots = (i j line : ℕ) (v w : T) → get_or slots i None ≡ Some (entry_of line v) → get_or slots j None ≡ Some (entry_of line w)
      → i ≡ j

  pub line_of : (e : Entry T) (line : ℕ) (v : T) → Some e ≡ Some (entry_of line v) → e.line.0 ≡ line
  line_of e line v is = ap (λ (f : Entry T). f.line.0) (same_Some e (entry_of line v) is)

  value_of : (e : Entry T) (line : ℕ) (v : T) → Some e ≡ Some (entry_of line v) → e.value ≡ v
  value_of e line v is = ap (λ (f : Entry T). f.value) (same_Some e (entry_of line v) is)

  lacks-cons : (slot : Option (Entry T)) (rest : Slots T) (line : ℕ) → ((v : T) → slot ≢ Some (entry_of line v)) → Stands rest line None → (key : ℕ) (v : T) → get_or (slot ∷ rest) key None ≢ Some (entry_of line v)
  lacks-cons slot rest line other later zero v = other v
  lacks-cons slot rest line other later (suc key) v = later key v

  Stands-cons : (slot : Option (Entry T)) (rest : Slots T) (line : ℕ) (o : Option T) → ((v : T) → slot ≢ Some (entry_of line v)) → Stands rest line o → Stands (slot ∷ rest) line o
  Stands-cons slot rest line None other later = lacks-cons slot rest line other later
  Stands-cons slot rest line (Some v) other later = (suc later.0, later.1)

  -- what is found of a line stands among the entries
  pub Stands-value_at : (slots : Slots T) (line : ℕ) → Stands slots line (value_at line slots)
  Stands-value_at [] line = λ key v is. none-some _ is
  Stands-value_at (None ∷ rest) line = Stands-cons None rest line (value_at line rest) (λ v is. none-some _ is) (Stands-value_at rest line)
  Stands-value_at (Some e ∷ rest) line =
      let later = Stands-value_at rest line in
      elim (eq_by_cmp nat_cmp line e.line.0) as (λ b. eq_by_cmp nat_cmp line e.line.0 ≡ b → Stands (Some e ∷ rest) line (cond b (Some e.value) (value_at line rest))) [
        | true ↦ λ tied. let same = eqb-true line e.line.0 (sym (unsigned_tied line e.line.0) ∙ tied) in (0, ap (λ (l : ℕ). Some (entry_of l e.value)) (sym same))
        | false ↦ λ tied. Stands-cons (Some e) rest line (value_at line rest) (λ v is. eqb-false line e.line.0 (sym (unsigned_tied line e.line.0) ∙ tied) (sym (line_of e line v is))) later
      ] refl

  -- a line has one value, where its entries are apart
  same_value : (slots : Slots T) (line : ℕ) (a b : Option T) → Apart slots → Stands slots line a → Stands slots line b → a ≡ b
  same_value slots line None None apart p q = refl
  same_value slots line None (Some w) apart p q = absurd (p q.0 w q.1)
  same_value slots line (Some v) None apart p q = absurd (q p.0 v p.1)
  same_value slots line (Some v) (Some w) apart p q =
      let one = apart p.0 q.0 line v w p.1 q.1 in
      let both : Some (entry_of line v) ≡ Some (entry_of line w) = sym p.1 ∙ ap (λ key. get_or slots key None) one ∙ q.1 in
      ap Some (value_of (entry_of line v) line w both)

  pub value_at-Stands : (slots : Slots T) (line : ℕ) (o : Option T) → Apart slots → Stands slots line o → value_at line slots ≡ o
  value_at-Stands slots line o apart stands = same_value slots line _ o apart (Stands-value_at slots line) stands

  -- the key is that of the line's entry if it has one, and of no other line's
  pub record IsKeyOf (s : Slab (Entry T)) (line key : ℕ) : Type 0 where
    pub only : (k : ℕ) (v : T) → get s k ≡ Some (entry_of line v) → k ≡ key
    pub place : (e : Entry T) → get s key ≡ Some e → e.line.0 ≡ line

  module _ (old new : Slab (Entry T)) (line key : ℕ) (o : Option T) (is_key : IsKeyOf old line key) (updates : Updates old new key (option_map (entry_of line) o)) where
    changed_line : (q : ℕ) (p : Option T) (v : T) → option_map (entry_of line) p ≡ Some (entry_of q v) → (q ≡ line) × (p ≡ Some v)
    changed_line q None v is = absurd (none-some _ is)
    changed_line q (Some w) v is = (sym (line_of (entry_of line w) q v is), ap Some (value_of (entry_of line w) q v is))

    -- an entry after the change is the new one, or an old one of another line
    after : (i q : ℕ) (v : T) → get new i ≡ Some (entry_of q v) → ((i ≡ key) × (q ≡ line) × (o ≡ Some v)) ⊎ ((q ≢ line) × (get old i ≡ Some (entry_of q v)))
    after i q v is = elim (cases_eq i key) [
      | inl here ↦ let line_and_value = changed_line q o v (sym updates.changed ∙ ap (get new) (sym here) ∙ is) in inl (here, line_and_value.0, line_and_value.1)
      | inr there ↦ let was = sym (updates.others i there) ∙ is in inr (λ same. there (is_key.only i v (was ∙ ap (λ (l : ℕ). Some (entry_of l v)) same)), was)
    ]

    pub AreApart-update : AreApart old → AreApart new
    AreApart-update apart i j q v w at_i at_j =
        elim (after i q v at_i) [
          | inl a ↦ elim (after j q w at_j) [ inl b ↦ a.0 ∙ sym b.0 | inr b ↦ absurd (b.0 a.1) ]
          | inr a ↦ elim (after j q w at_j) [ inl b ↦ absurd (a.0 b.1) | inr b ↦ apart i j q v w a.1 b.1 ]
        ]

    Stands-same : (p : Option T) → o ≡ p → Stands new.slots line p
    Stands-same None is = λ i v at. ⊎_elim (λ a. none-some _ (sym is ∙ a.2)) (λ a. a.0 refl) (after i line v at)
    Stands-same (Some v) is = (key, updates.changed ∙ ap (option_map (entry_of line)) is)

    Stands-other : (q : ℕ) (p : Option T) → q ≢ line → Stands old.slots q p → Stands new.slots q p
    Stands-other q None other stands = λ i v at. ⊎_elim (λ a. other a.1) (λ a. stands i v a.1) (after i q v at)
    Stands-other q (Some v) other stands = (stands.0, updates.others stands.0 (λ here. other (is_key.place (entry_of q v) (ap (get old) (sym here) ∙ stands.1))) ∙ stands.1)

    -- the line has what was put there, and each other line what it had
    pub value_at-update : (q : ℕ) → AreApart old → value_at q new.slots ≡ cond (q == line) o (value_at q old.slots)
    value_at-update q apart =
        elim (cases_eq q line) [
          | inl same ↦ rw (eq-eqb q line same) (value_at-Stands new.slots q o (AreApart-update apart) (subst (λ l. Stands new.slots l o) (sym same) (Stands-same o refl)))
          | inr other ↦ rw (ne_eqb q line other) (value_at-Stands new.slots q _ (AreApart-update apart) (Stands-other q _ other (Stands-value_at old.slots q)))
        ]
