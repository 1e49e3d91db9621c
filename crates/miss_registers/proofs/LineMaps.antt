-- The map of lines that a slab stands for, after a change of one line, and how many lines it has.
use Rattle.std.proofs.Common.{◌≡◌, ℕ, suc, ◌+◌, true, false, cond, [], ◌∷◌, map, filter_map, Option, Some, None, option_map, is_some, count_by, refl, sym, ap, ◌∙◌, arith}
use Rattle.std.specs.Ordering.{nat_cmp, eq_by_cmp}
use Rattle.std.specs.Cmp.{nat_cmp_total, unsigned_tied}
use Rattle.std.specs.FinMap as finite
use Rattle.std.proofs.lemmas.List.Sums.{sum_by-cons, sum_by-set}
use Rattle.std.proofs.lemmas.Option.{none-some}
use Rattle.std.proofs.lemmas.Bool.{eqb-true}
use Rattle.slab.specs.Slab.{Slab, get, slab_len, with_value, Updates}
use Rattle.slab.proofs.SlabLemmas.{ContainsKey-within, Updates-with_value}
use Rattle.miss_registers.specs.declared.line_table.Entry.{Entry}
use Rattle.miss_registers.specs.LineMap.{entry_of, lines_of, HasLineAt, LacksLine, AreApart, IsSound}
use Rattle.miss_registers.proofs.Entries.{Slots, Apart, Stands, value_at, value_at-Stands, Stands-value_at, line_of, IsKeyOf, AreApart-update, value_at-update}

module _ {T : Type 0} where
  get-lines_of : (s : Slab (Entry T)) (line : ℕ) → finite.get (lines_of s) line ≡ value_at line s.slots
  get-lines_of s line = finite.get-from_entries nat_cmp_total _ line

  pub get-HasLineAt : (s : Slab (Entry T)) (line key : ℕ) → AreApart s → (has : HasLineAt s line key) → finite.get (lines_of s) line ≡ Some has.0
  get-HasLineAt s line key apart has = get-lines_of s line ∙ value_at-Stands s.slots line (Some has.0) apart (key, has.1)

  pub get-LacksLine : (s : Slab (Entry T)) (line : ℕ) → AreApart s → LacksLine s line → finite.get (lines_of s) line ≡ None
  get-LacksLine s line apart lacks = get-lines_of s line ∙ value_at-Stands s.slots line None apart lacks

  -- ---- which key a line has

  LacksLine-from_none : (s : Slab (Entry T)) (line : ℕ) (o : Option T) → o ≡ None → Stands s.slots line o → LacksLine s line
  LacksLine-from_none s line None is stands = stands
  LacksLine-from_none s line (Some v) is stands = absurd (none-some _ (sym is))

  pub IsKeyOf-vacant : (s : Slab (Entry T)) (line key : ℕ) → finite.get (lines_of s) line ≡ None → get s key ≡ None → IsKeyOf s line key
  IsKeyOf-vacant s line key none vacant =
      let lacks = LacksLine-from_none s line _ (sym (get-lines_of s line) ∙ none) (Stands-value_at s.slots line) in
      record {
        only = λ k v is. absurd (lacks k v is);
        place = λ e is. absurd (none-some _ (sym vacant ∙ is));
      }

  pub IsKeyOf-held : (s : Slab (Entry T)) (line key : ℕ) → AreApart s → HasLineAt s line key → IsKeyOf s line key
  IsKeyOf-held s line key apart has = record {
    only = λ k v is. apart k key line v has.0 is has.1;
    place = λ e is. line_of e line has.0 (sym is ∙ has.1);
  }

  -- ---- the map after a change

  module _ (old new : Slab (Entry T)) (line key : ℕ) (apart : AreApart old) (is_key : IsKeyOf old line key) where
    get-update : (o : Option T) (q : ℕ) → Updates old new key (option_map (entry_of line) o) → finite.get (lines_of new) q ≡ cond (eq_by_cmp nat_cmp q line) o (finite.get (lines_of old) q)
    get-update o q updates =
        get-lines_of new q
        ∙ value_at-update old new line key o is_key updates q apart
        ∙ ap (λ b. cond b o (value_at q old.slots)) (sym (unsigned_tied q line))
        ∙ ap (cond (eq_by_cmp nat_cmp q line) o) (sym (get-lines_of old q))

    pub lines_of-put : (v : T) → Updates old new key (Some (entry_of line v)) → lines_of new ≡ finite.insert (lines_of old) line v
    lines_of-put v updates = finite.same_map nat_cmp_total finite.nat_cmp-IsAntisymmetric _ _ (λ q. get-update (Some v) q updates ∙ sym (finite.get-insert nat_cmp_total (lines_of old) line v q))

    pub lines_of-freed : Updates old new key None → lines_of new ≡ finite.remove (lines_of old) line
    lines_of-freed updates = finite.same_map nat_cmp_total finite.nat_cmp-IsAntisymmetric _ _ (λ q. get-update None q updates ∙ sym (finite.get-remove nat_cmp_total (lines_of old) line q))

  -- a line that is not there is not missed
  pub remove-absent : (m : finite.FinMap nat_cmp T) (line : ℕ) → finite.get m line ≡ None → finite.remove m line ≡ m
  remove-absent m line none = finite.same_map nat_cmp_total finite.nat_cmp-IsAntisymmetric _ _ (λ q.
      finite.get-remove nat_cmp_total m line q
      ∙ elim (eq_by_cmp nat_cmp q line) as (λ b. eq_by_cmp nat_cmp q line ≡ b → cond b None (finite.get m q) ≡ finite.get m q) [
        | true ↦ λ tied. sym (ap (finite.get m) (eqb-true q line (sym (unsigned_tied q line) ∙ tied)) ∙ none)
        | false ↦ λ tied. refl
      ] refl)

  -- ---- how many lines there are

  Apart-tail : (slot : Option (Entry T)) (rest : Slots T) → Apart (slot ∷ rest) → Apart rest
  Apart-tail slot rest apart i j line v w at_i at_j = let e = apart (suc i) (suc j) line v w at_i at_j in omega arith

  abbrev map_of : Slots T → finite.FinMap nat_cmp T
  map_of slots = finite.from_entries (map (λ e. (e.line.0, e.value)) (filter_map (λ slot. slot) slots))

  first_is_new : (e : Entry T) (rest : Slots T) → Apart (Some e ∷ rest) → finite.get (map_of rest) e.line.0 ≡ None
  first_is_new e rest apart =
      finite.get-from_entries nat_cmp_total _ e.line.0
      ∙ value_at-Stands rest e.line.0 None (Apart-tail (Some e) rest apart) (λ key v is. let same = apart 0 (suc key) e.line.0 e.value v refl is in absurd (omega arith))

  len-map_of : (slots : Slots T) → Apart slots → finite.len (map_of slots) ≡ count_by is_some slots
  len-map_of [] apart = finite.len-empty nat_cmp T
  len-map_of (None ∷ rest) apart = len-map_of rest (Apart-tail None rest apart)
  len-map_of (Some e ∷ rest) apart =
      let one_more = finite.len-insert nat_cmp_total (map_of rest) e.line.0 e.value ∙ ap (λ o. cond (is_some o) (finite.len (map_of rest)) (finite.len (map_of rest) + 1)) (first_is_new e rest apart) in
      omega (arith, one_more, len-map_of rest (Apart-tail (Some e) rest apart), sum_by-cons (λ slot. cond (is_some slot) 1 0) (Some e) rest)

  pub len-lines_of : (s : Slab (Entry T)) → AreApart s → finite.len (lines_of s) ≡ slab_len s
  len-lines_of s apart = len-map_of s.slots apart

  -- ---- a new value in a line's entry

  slab_len-with_value : (s : Slab (Entry T)) (key : ℕ) (old new : Entry T) → get s key ≡ Some old → slab_len (with_value s key new) ≡ slab_len s
  slab_len-with_value s key old new is =
      let one : Option (Entry T) → ℕ = λ slot. cond (is_some slot) 1 0 in
      omega (arith, sum_by-set one s.slots key (Some new) None (ContainsKey-within s key (ap is_some is)), ap one is)

  module _ (s : Slab (Entry T)) (line key : ℕ) (old : Entry T) (v : T) (has : HasLineAt s line key) (is : get s key ≡ Some old) where
    abbrev rewritten : Slab (Entry T)
    rewritten = with_value s key (record { line = old.line; value = v })

    pub Updates-rewritten : Updates s rewritten key (Some (entry_of line v))
    Updates-rewritten =
        let updates = Updates-with_value s key (record { line = old.line; value = v }) (ap is_some is) in
        record {
          changed = updates.changed ∙ ap (λ (l : ℕ). Some (entry_of l v)) (line_of old line has.0 (sym is ∙ has.1));
          others = updates.others;
        }

    pub IsSound-rewritten : (places : ℕ) → IsSound s places → IsSound rewritten places
    IsSound-rewritten places sound = record {
      apart = AreApart-update s rewritten line key (Some v) (IsKeyOf-held s line key sound.apart has) Updates-rewritten sound.apart;
      within = rw (slab_len-with_value s key old _ is) sound.within;
      room = sound.room;
    }

    pub lines_of-rewritten : AreApart s → lines_of rewritten ≡ finite.insert (lines_of s) line v
    lines_of-rewritten apart = lines_of-put s rewritten line key apart (IsKeyOf-held s line key apart has) v Updates-rewritten
