-- What the walk of `clap` holds between two words: the rows of the names and the seed that were read, and an argument that is pending.
use Rattle.std.proofs.Common.{◌≡◌, ◌≢◌, ◌∙◌, ◌<◌, ◌≤◌, ◌==◌, ℕ, suc, Bool, false, true≢false, sym, ap, subst, arith, List, [], ◌∷◌, ◌++◌, length, Option, Some, None, inl, inr}
use Rattle.std.specs.Prelude.{slice_get, option_map}
use Rattle.std.specs.Str.{bytes_eq}
use Rattle.std.proofs.lemmas.Bool.{cases_Bool, false_from_ne_true}
use Rattle.std.proofs.lemmas.Bool.Decides.{Decides-eqb}
use Rattle.std.proofs.lemmas.Slice.Eq.{bytes_eq-Decides}
use Rattle.clap.specs.Faults.{settle_fault, use_fault}
use Rattle.clap.specs.Simple.{Shape}
use Rattle.std.proofs.lemmas.List.{length-append}
use Rattle.clap.specs.Walk.{Held, Row, Rule, Walk, Waiting, arg_by_id, settled_rows}
use Rattle.command_words.specs.Words.{Text}
use Rattle.command_words.proofs.Rows.{IsValueRule, value_row, row_at, used-new, row_at-push, row_at-push-other, slice_get-push, slice_get-push-other, slice_get-past, slice_get-within}
use Rattle.command_words.proofs.Reader.{Fails, IsReader, use_fault-new}

-- what is held, and where the walk stands with it
abbrev pub held_at : List Row → Option (Text × List Text) → Held
held_at rows p = record { rows = rows; pending = p; skip = 0 }

abbrev pub standing : Bool → Waiting → ℕ → List Row → Option (Text × List Text) → Walk
standing trailing waiting position rows p =
    record { held = held_at rows p; waiting = waiting; position = position; is_trailing = trailing; stopped = None }

module _ (s : Shape) (choice : Rule) (names : List Rule) (r : IsReader s choice names) where
  -- the rows are those of these names and seeds
  pub record Found (rows : List Row) (ns ss : List Text) : Type 0 where
    pub name : (k : ℕ) (a : Rule) → slice_get names k ≡ Some a → row_at a.id rows ≡ option_map (value_row a) (slice_get ns k)
    pub seed : row_at choice.id rows ≡ option_map (value_row choice) (slice_get ss 0)
    pub few_names : length ns ≤ length names
    pub few_seeds : length ss ≤ 1

  -- and so they are once the pending argument is used
  pub record State (rows : List Row) (p : Option (Text × List Text)) (ns ss : List Text) : Type 0 where
    pub found : Found (settled_rows s.rules p rows) ns ss
    pub settles : settle_fault s.rules false (held_at rows p) ≡ []

  -- arguments in different places have different names
  differ : (a b : Rule) → IsValueRule s.rules a → IsValueRule s.rules b → (a.index ≡ b.index → ⊥) → bytes_eq a.id b.id ≡ false
  differ a b ra rb apart = false_from_ne_true _ (λ e.
      let ids : a.id ≡ b.id = (bytes_eq-Decides a.id b.id).0 e in
      let both : Some a ≡ Some b = sym ra.by_id ∙ ap (arg_by_id s.rules) ids ∙ rb.by_id in
      apart (ap (λ (x : Rule). x.index) (some_of both)))
    where
      some_of : {a b : Rule} → Some a ≡ Some b → a ≡ b
      some_of e = cc

  choice_differs : (k : ℕ) (a : Rule) → slice_get names k ≡ Some a → bytes_eq choice.id a.id ≡ false
  choice_differs k a at = differ choice a r.choice_rule (r.name_rule k a at)
      (λ e. let apart : None ≡ Some (suc k) = sym r.choice_index ∙ e ∙ r.name_index k a at in cc)

  name_differs : (k : ℕ) (a : Rule) → slice_get names k ≡ Some a → bytes_eq a.id choice.id ≡ false
  name_differs k a at = differ a choice (r.name_rule k a at) r.choice_rule
      (λ e. let apart : Some (suc k) ≡ None = sym (r.name_index k a at) ∙ e ∙ r.choice_index in cc)

  names_differ : (j k : ℕ) (a b : Rule) → slice_get names j ≡ Some a → slice_get names k ≡ Some b → k ≢ j → bytes_eq a.id b.id ≡ false
  names_differ j k a b at bt apart = differ a b (r.name_rule j a at) (r.name_rule k b bt)
      (λ e. apart (let places : Some (suc j) ≡ Some (suc k) = sym (r.name_index j a at) ∙ e ∙ r.name_index k b bt in cc))

  -- one more name, or the seed
  new_name : (rows : List Row) (ns ss : List Text) (a : Rule) → Found rows ns ss → slice_get names (length ns) ≡ Some a → row_at a.id rows ≡ None
  new_name rows ns ss a f at = f.name (length ns) a at ∙ ap (option_map (value_row a)) (slice_get-past ns)

  -- what is found once a name has joined, in its place and in the others
  found_here : (rows : List Row) (ns ss : List Text) (a b : Rule) (word : Text) (k : ℕ) → Found rows ns ss → slice_get names (length ns) ≡ Some a
      → slice_get names k ≡ Some b → k ≡ length ns → row_at b.id (rows ++ value_row a word ∷ []) ≡ option_map (value_row b) (slice_get (ns ++ word ∷ []) k)
  found_here rows ns ss a b word k f at bt e =
      let same_rule : Some a ≡ Some b = sym at ∙ ap (slice_get names) (sym e) ∙ bt in
      let is : a ≡ b = cc in
      let none : row_at a.id rows ≡ None = new_name rows ns ss a f at in
      let there : slice_get (ns ++ word ∷ []) k ≡ Some word = ap (slice_get (ns ++ word ∷ [])) e ∙ slice_get-push ns word in
      subst (λ (x : Rule). row_at x.id (rows ++ value_row a word ∷ []) ≡ option_map (value_row x) (slice_get (ns ++ word ∷ []) k)) is
      (row_at-push (value_row a word) rows none ∙ sym (ap (option_map (value_row a)) there))

  found_elsewhere : (rows : List Row) (ns ss : List Text) (a b : Rule) (word : Text) (k : ℕ) → Found rows ns ss → slice_get names (length ns) ≡ Some a
      → slice_get names k ≡ Some b → k ≢ length ns → row_at b.id (rows ++ value_row a word ∷ []) ≡ option_map (value_row b) (slice_get (ns ++ word ∷ []) k)
  found_elsewhere rows ns ss a b word k f at bt apart =
      row_at-push-other b.id (value_row a word) rows (names_differ (length ns) k a b at bt apart) ∙ f.name k b bt
      ∙ sym (ap (option_map (value_row b)) (slice_get-push-other ns word k apart))

  pub push_name : (rows : List Row) (ns ss : List Text) (a : Rule) (word : Text) → Found rows ns ss → slice_get names (length ns) ≡ Some a
      → Found (rows ++ value_row a word ∷ []) (ns ++ word ∷ []) ss
  push_name rows ns ss a word f at = record {
    name = λ k b bt. elim (cases_Bool (k == length ns)) [
      | inl e ↦ found_here rows ns ss a b word k f at bt ((Decides-eqb k (length ns)).0 e)
      | inr e ↦ found_elsewhere rows ns ss a b word k f at bt (λ is. true≢false (sym ((Decides-eqb k (length ns)).1 is) ∙ e))
    ];
    seed = row_at-push-other choice.id (value_row a word) rows (name_differs (length ns) a at) ∙ f.seed;
    few_names = let inside : length ns < length names = slice_get-within names (length ns) a at in omega (arith, length-append ns (word ∷ []));
    few_seeds = f.few_seeds;
  }

  pub push_seed : (rows : List Row) (ns : List Text) (v : Text) → Found rows ns [] → Found (rows ++ value_row choice v ∷ []) ns (v ∷ [])
  push_seed rows ns v f = record {
    name = λ k a at. row_at-push-other a.id (value_row choice v) rows (choice_differs k a at) ∙ f.name k a at;
    seed = row_at-push (value_row choice v) rows f.seed;
    few_names = f.few_names;
    few_seeds = omega arith;
  }

  -- ---- the pending argument

  -- its use gives its row, and has no fault
  pub settled_pending : (a : Rule) (v : Text) (rows : List Row) → IsValueRule s.rules a → row_at a.id rows ≡ None
      → settled_rows s.rules (Some (a.id, v ∷ [])) rows ≡ rows ++ value_row a v ∷ []
  settled_pending a v rows rule none = rw (rule.by_id) (used-new s.rules a v rows rule none)

  pub settles_pending : (a : Rule) (v : Text) (rows : List Row) → IsValueRule s.rules a → row_at a.id rows ≡ None
      → settle_fault s.rules false (held_at rows (Some (a.id, v ∷ []))) ≡ []
  settles_pending a v rows rule none = rw (rule.by_id) (use_fault-new s.rules a v rows rule none)

  -- its use has a fault
  pub fails_pending : (a : Rule) (values : List Text) (rows : List Row) → IsValueRule s.rules a → Fails (use_fault false a values rows)
      → Fails (settle_fault s.rules false (held_at rows (Some (a.id, values))))
  fails_pending a values rows rule bad = rw (rule.by_id) bad

  -- the state with a name pending, or the seed
  pub name_pending : (rows : List Row) (ns ss : List Text) (a : Rule) (word : Text) → Found rows ns ss → slice_get names (length ns) ≡ Some a
      → State rows (Some (a.id, word ∷ [])) (ns ++ word ∷ []) ss
  name_pending rows ns ss a word f at =
      let rule = r.name_rule (length ns) a at in
      let none : row_at a.id rows ≡ None = new_name rows ns ss a f at in
      record {
        found = subst (λ (rs : List Row). Found rs (ns ++ word ∷ []) ss) (sym (settled_pending a word rows rule none)) (push_name rows ns ss a word f at);
        settles = settles_pending a word rows rule none;
      }

  pub seed_pending : (rows : List Row) (ns : List Text) (v : Text) → Found rows ns [] → State rows (Some (choice.id, v ∷ [])) ns (v ∷ [])
  seed_pending rows ns v f = record {
    found = subst (λ (rs : List Row). Found rs ns (v ∷ [])) (sym (settled_pending choice v rows r.choice_rule f.seed)) (push_seed rows ns v f);
    settles = settles_pending choice v rows r.choice_rule f.seed;
  }
