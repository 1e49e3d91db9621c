-- One turn of the walk of `clap` for each kind of word that is taken, and that it has no fault.
use Rattle.std.proofs.Common.{◌≡◌, ◌∙◌, ◌<◌, ◌≤◌, ◌+◌, ◌||◌, min, ℕ, suc, Bool, true, false, refl, arith, List, [], ◌∷◌, length, Option, Some, None}
use Rattle.std.specs.Prelude.{slice_get}
use Rattle.std.proofs.lemmas.Bool.{and_right}
use Rattle.clap.specs.Faults.{settle_fault, turn_fault, use_fault, word_fault}
use Rattle.clap.specs.Simple.{Shape}
use Rattle.clap.specs.Lexer.{usize_max}
use Rattle.std.proofs.Math.Nat.{min-eq_left}
use Rattle.std.proofs.Common.{drop}
use Rattle.clap.specs.Walk.{Held, Row, Rule, Waiting, idle, option, positional, value, is_pending, used, arg_by_index, settled_rows, walked, word_met}
use Rattle.command_words.specs.Words.{Text}
use Rattle.command_words.proofs.Lex.{IsDashes, IsBare, IsValued, IsName}
use Rattle.command_words.proofs.Rows.{same}
use Rattle.command_words.proofs.Reader.{Fails, fails_first, fails_later, fails_stray, IsReader, takes_one, stays_one, takes_value}
use Rattle.command_words.proofs.Held.{held_at, standing}

module _ (s : Shape) (choice : Rule) (names : List Rule) (r : IsReader s choice names) where
  -- ---- words that go to a name

  -- what the word is, before it goes to a name
  pub record IsPlain (trailing : Bool) (waiting : Waiting) (position : ℕ) (h : Held) (word : Text) : Type 0 where
    pub met : word_met s.rules [] trailing waiting position word h ≡ (h, value)
    pub fault : word_fault s [] trailing waiting word h ≡ []

  pub plain_trailing : (waiting : Waiting) (position : ℕ) (h : Held) (word : Text) → IsPlain true waiting position h word
  plain_trailing waiting position h word = record { met = refl; fault = refl }

  pub plain_name : (position : ℕ) (h : Held) (word : Text) → IsName word → IsPlain false idle position h word
  plain_name position h word n = record {
    met = rw (n.dashes, n.long, n.short) refl;
    fault = rw (n.dashes, n.long, n.short) refl;
  }

  or_false : (b c : Bool) → c ≡ false → (b || c) ≡ b
  or_false true c e = refl
  or_false false c e = e

  -- it has a place
  pub name_turn : (trailing : Bool) (rows : List Row) (p : Option (Text × List Text)) (k : ℕ) (a : Rule) (word : Text)
      → IsPlain trailing idle (suc k) (held_at rows p) word → k ≤ length names → slice_get names k ≡ Some a → settle_fault s.rules false (held_at rows p) ≡ []
      → turn_fault s [] (standing trailing idle (suc k) rows p) word ≡ []
  name_turn trailing rows p k a word plain few at settles =
      let index : arg_by_index s.rules (suc k) ≡ Some a = r.by_index k few ∙ at in
      let one = and_right (is_pending a p) _ (takes_one s.rules a (r.name_rule k a at)) in
      rw (plain.fault, plain.met, index, one, r.again) settles

  pub name_walked : (trailing : Bool) (rows : List Row) (p : Option (Text × List Text)) (k : ℕ) (a : Rule) (word : Text)
      → IsPlain trailing idle (suc k) (held_at rows p) word → k < length names → slice_get names k ≡ Some a
      → walked s.rules [] (standing trailing idle (suc k) rows p) word ≡ standing trailing idle (suc (suc k)) (settled_rows s.rules p rows) (Some (a.id, word ∷ []))
  unfolding walked
  name_walked trailing rows p k a word plain few at =
      let index : arg_by_index s.rules (suc k) ≡ Some a = r.by_index k (omega arith) ∙ at in
      let rule = r.name_rule k a at in
      let one = and_right (is_pending a p) _ (takes_one s.rules a rule) in
      let stays = stays_one s.rules a rule in
      let ends = or_false trailing a.trailing_var_arg rule.trailing in
      let small : length names ≤ 100 = r.few in
      let next : min (suc k + 1) usize_max ≡ suc (suc k) = min-eq_left (omega arith) ∙ omega arith in
      rw (plain.met, index, one, stays, ends, next) refl

  -- it has none
  pub stray_turn : (trailing : Bool) (rows : List Row) (p : Option (Text × List Text)) (k : ℕ) (word : Text)
      → IsPlain trailing idle (suc k) (held_at rows p) word → k ≤ length names → slice_get names k ≡ None → Fails (turn_fault s [] (standing trailing idle (suc k) rows p) word)
  stray_turn trailing rows p k word plain few at =
      let index : arg_by_index s.rules (suc k) ≡ None = r.by_index k few ∙ at in
      rw (plain.fault, plain.met, index) (fails_stray s.is_leaf)

  -- ---- words that are options

  -- `--`
  pub dashes_turn : (rows : List Row) (p : Option (Text × List Text)) (waiting : Waiting) (position : ℕ) (word : Text) → IsDashes word
      → turn_fault s [] (standing false waiting position rows p) word ≡ []
  dashes_turn rows p idle position word d = rw (d.dashes) refl
  dashes_turn rows p (option id) position word d = rw (d.dashes) refl
  dashes_turn rows p positional position word d = rw (d.dashes) refl

  pub dashes_walked : (rows : List Row) (p : Option (Text × List Text)) (waiting : Waiting) (position : ℕ) (word : Text) → IsDashes word
      → walked s.rules [] (standing false waiting position rows p) word ≡ standing true waiting position rows p
  unfolding walked
  dashes_walked rows p idle position word d = rw (d.dashes) refl
  dashes_walked rows p (option id) position word d = rw (d.dashes) refl
  dashes_walked rows p positional position word d = rw (d.dashes) refl

  -- `--generate`
  pub bare_turn : (rows : List Row) (p : Option (Text × List Text)) (position : ℕ) (word : Text) → IsBare word → settle_fault s.rules false (held_at rows p) ≡ []
      → turn_fault s [] (standing false idle position rows p) word ≡ []
  bare_turn rows p position word b settles =
      let takes = takes_value s.rules choice r.choice_rule in
      rw (b.dashes, b.long, r.long, takes, r.again, settles) refl

  pub bare_walked : (rows : List Row) (p : Option (Text × List Text)) (position : ℕ) (word : Text) → IsBare word
      → walked s.rules [] (standing false idle position rows p) word ≡ standing false (option choice.id) position (settled_rows s.rules p rows) (Some (choice.id, []))
  unfolding walked
  bare_walked rows p position word b =
      let takes = takes_value s.rules choice r.choice_rule in
      rw (b.dashes, b.long, r.long, takes) refl

  -- `--generate=V`
  pub valued_turn : (rows : List Row) (p : Option (Text × List Text)) (position : ℕ) (word : Text) → IsValued word → settle_fault s.rules false (held_at rows p) ≡ []
      → use_fault false choice (drop 11 word ∷ []) (settled_rows s.rules p rows) ≡ [] → turn_fault s [] (standing false idle position rows p) word ≡ []
  valued_turn rows p position word v settles new =
      let takes = takes_value s.rules choice r.choice_rule in
      rw (v.dashes, v.long, r.long, takes, r.again, settles, new) refl

  pub valued_walked : (rows : List Row) (p : Option (Text × List Text)) (position : ℕ) (word : Text) → IsValued word
      → walked s.rules [] (standing false idle position rows p) word
      ≡ standing false idle position (used choice (drop 11 word ∷ []) (settled_rows s.rules p rows)) None
  unfolding walked
  valued_walked rows p position word v =
      let takes = takes_value s.rules choice r.choice_rule in
      rw (v.dashes, v.long, r.long, takes) refl

  pub valued_again : (rows : List Row) (p : Option (Text × List Text)) (position : ℕ) (word : Text) → IsValued word
      → Fails (use_fault false choice (drop 11 word ∷ []) (settled_rows s.rules p rows)) → Fails (turn_fault s [] (standing false idle position rows p) word)
  valued_again rows p position word v bad =
      let takes = takes_value s.rules choice r.choice_rule in
      rw (v.dashes, v.long, r.long, takes, r.again) (fails_first _ _ (fails_later (settle_fault s.rules false (held_at rows p)) _ bad))

  -- the word after `--generate`, where it is no option
  pub value_turn : (rows : List Row) (position : ℕ) (word : Text) → IsName word
      → turn_fault s [] (standing false (option choice.id) position rows (Some (choice.id, []))) word ≡ []
  value_turn rows position word n = rw (n.dashes, n.long, n.short) refl

  pub value_walked : (rows : List Row) (position : ℕ) (word : Text) → IsName word
      → walked s.rules [] (standing false (option choice.id) position rows (Some (choice.id, []))) word ≡ standing false idle position rows (Some (choice.id, word ∷ []))
  unfolding walked
  value_walked rows position word n =
      let found = r.choice_rule.by_id in
      let itself = same choice.id in
      rw (n.dashes, n.long, n.short, found, itself, r.choice_rule.range) refl
