-- Words at which the walk of `clap` has a fault, and those at which it has one since what is pending may not be used.
use Rattle.std.proofs.Common.{◌≡◌, ◌∙◌, ◌≤◌, ℕ, suc, Bool, false, refl, subst, List, [], length, Option, Some, None}
use Rattle.std.specs.Prelude.{slice_get}
use Rattle.std.specs.Str.{IsUtf8}
use Rattle.std.proofs.lemmas.Bool.{and_right}
use Rattle.clap.specs.Faults.{flags_fault, settle_fault, turn_fault}
use Rattle.clap.specs.Simple.{Shape}
use Rattle.clap.specs.Walk.{Row, Rule, Waiting, idle, option, positional, is_pending, arg_by_index, subcommand_met}
use Rattle.command_words.specs.Words.{Text}
use Rattle.command_words.proofs.Lex.{IsBare, IsValued, IsOther, IsShort, first_char}
use Rattle.command_words.proofs.Reader.{Fails, fails_first, fails_stray, IsReader, takes_one, takes_value}
use Rattle.command_words.proofs.Held.{held_at, standing}
use Rattle.command_words.proofs.Turns.{IsPlain}

module _ (s : Shape) (choice : Rule) (names : List Rule) (r : IsReader s choice names) where
  -- ---- words that are refused

  no_subcommand : (waiting : Waiting) (word : Text) → subcommand_met [] waiting word ≡ None
  no_subcommand idle word = refl
  no_subcommand (option id) word = refl
  no_subcommand positional word = refl

  pub other_turn : (waiting : Waiting) (rows : List Row) (p : Option (Text × List Text)) (position : ℕ) (word : Text) → IsOther word
      → Fails (turn_fault s [] (standing false waiting position rows p) word)
  other_turn waiting rows p position word o =
      rw (no_subcommand waiting word, o.dashes, o.long, r.other_long o.name o.differs) tt

  pub short_turn : (waiting : Waiting) (rows : List Row) (p : Option (Text × List Text)) (position : ℕ) (word : Text) → IsShort word → IsUtf8 word
      → Fails (turn_fault s [] (standing false waiting position rows p) word)
  unfolding flags_fault
  short_turn waiting rows p position word t utf8 =
      let char = first_char t.first t.more (subst IsUtf8 t.whole utf8) in
      rw (no_subcommand waiting word, t.dashes, t.long, t.short, char.1, r.no_short char.0) tt

  -- ---- where the pending argument may not be used

  pub lost_turn : (trailing : Bool) (waiting : Waiting) (rows : List Row) (p : Option (Text × List Text)) (k : ℕ) (word : Text)
      → IsPlain s choice names r trailing waiting (suc k) (held_at rows p) word → k ≤ length names → Fails (settle_fault s.rules false (held_at rows p))
      → Fails (turn_fault s [] (standing trailing waiting (suc k) rows p) word)
  lost_turn trailing waiting rows p k word plain few bad = by (slice_get names k) refl
    where
      by : (o : Option Rule) → slice_get names k ≡ o → Fails (turn_fault s [] (standing trailing waiting (suc k) rows p) word)
      by None at =
          let index : arg_by_index s.rules (suc k) ≡ None = r.by_index k few ∙ at in
          rw (plain.fault, plain.met, index) (fails_stray s.is_leaf)
      by (Some a) at =
          let index : arg_by_index s.rules (suc k) ≡ Some a = r.by_index k few ∙ at in
          let one = and_right (is_pending a p) _ (takes_one s.rules a (r.name_rule k a at)) in
          rw (plain.fault, plain.met, index, one, r.again) bad

  pub bare_lost : (waiting : Waiting) (rows : List Row) (p : Option (Text × List Text)) (position : ℕ) (word : Text) → IsBare word
      → Fails (settle_fault s.rules false (held_at rows p)) → Fails (turn_fault s [] (standing false waiting position rows p) word)
  bare_lost waiting rows p position word b bad =
      let takes = takes_value s.rules choice r.choice_rule in
      rw (no_subcommand waiting word, b.dashes, b.long, r.long, takes, r.again) (fails_first _ _ bad)

  pub valued_lost : (waiting : Waiting) (rows : List Row) (p : Option (Text × List Text)) (position : ℕ) (word : Text) → IsValued word
      → Fails (settle_fault s.rules false (held_at rows p)) → Fails (turn_fault s [] (standing false waiting position rows p) word)
  valued_lost waiting rows p position word v bad =
      let takes = takes_value s.rules choice r.choice_rule in
      rw (no_subcommand waiting word, v.dashes, v.long, r.long, takes, r.again) (fails_first _ _ (fails_first _ _ bad))
