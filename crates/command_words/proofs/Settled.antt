-- What the two commands make of the words: the fault, and what is found, by what the words say.
use Rattle.std.proofs.Common.{◌≡◌, ◌∙◌, ◌&&◌, ℕ, Bool, true, false, cond, if◌then◌else◌, refl, sym, ap, subst, arith, inl, inr, List, [], ◌∷◌, length, Option, Some, None}
use Rattle.std.specs.Prelude.{nat_le, is_some, option_map, ⊤, fold}
use Rattle.std.proofs.lemmas.Bool.{cases_Bool}
use Rattle.std.proofs.Math.Bool.{and-false, or-true}
use Rattle.clap.specs.Kinds.{Kinds, or_else}
use Rattle.clap.specs.Faults.{check_fault, defaults_fault, level_fault, settle_fault, walk_fault}
use Rattle.clap.specs.Simple.{Shape}
use Rattle.clap.specs.Takes.{is_given}
use Rattle.clap.specs.Walk.{Row, Rule, Walk, finished, is_empty, has_row, nothing_held, settled_rows, walk_from, with_default}
use Rattle.clap.specs.declared.error.kind.ErrorKind.TheVariants as kind
use Rattle.command_words.specs.Words.{Text, Said, said}
use Rattle.command_words.specs.Reading.{fitting}
use Rattle.command_words.proofs.Rows.{row_at, value_row}
use Rattle.command_words.proofs.Saying.{total}
use Rattle.command_words.proofs.Reader.{Fails, fails_first, fails_later, IsReader}
use Rattle.command_words.proofs.Held.{Found, State}
use Rattle.command_words.proofs.Walks.{AreTexts, Ended, Reads, end_of, reads}

-- no argument has a default value
abbrev pub NoDefaults : List Rule → Type 0
NoDefaults [] = ⊤
NoDefaults (a ∷ rest) = (a.defaults ≡ []) × NoDefaults rest

cond_same : {X : Type 0} (b : Bool) (x : X) → cond b x x ≡ x
cond_same true x = refl
cond_same false x = refl

with_default-none : (a : Rule) (rows : List Row) → a.defaults ≡ [] → with_default rows a ≡ rows
with_default-none a rows e = rw e (cond_same _ rows)

defaults_fault-none : (rules : List Rule) (rows : List Row) → NoDefaults rules → defaults_fault rows rules ≡ []
unfolding defaults_fault
defaults_fault-none [] rows h = refl
defaults_fault-none (a ∷ rest) rows h =
    let same = with_default-none a rows h.0 in
    let empty : is_empty a.defaults ≡ true = rw (h.0) refl in
    rw (same, empty, or-true (has_row a.id rows)) (defaults_fault-none rest rows h.1)

finished-none : (rules : List Rule) (rows : List Row) → NoDefaults rules → fold with_default rows rules ≡ rows
finished-none [] rows h = refl
finished-none (a ∷ rest) rows h = ap (λ (rs : List Row). fold with_default rs rest) (with_default-none a rows h.0) ∙ finished-none rest rows h.1

-- a name that was read was given
pub given : (a : Rule) (rows : List Row) (o : Option Text) → row_at a.id rows ≡ option_map (value_row a) o → is_given a.id rows ≡ is_some o
given a rows None e = rw e refl
given a rows (Some v) e = rw e refl

empty_parts : (a b : Kinds) → or_else a b ≡ [] → (a ≡ []) × (b ≡ [])
empty_parts [] b e = (refl, e)
empty_parts (k ∷ ks) b e = cc

fails_within : (a below b rest : Kinds) → Fails (or_else a b) → Fails (or_else a (or_else below (or_else b rest)))
fails_within [] below b rest h = fails_later below _ (fails_first b rest h)
fails_within (k ∷ ks) below b rest h = tt

-- where fewer names than `least` are there, one is missing
abbrev pub missing_fault : ℕ → List Text → Kinds
missing_fault least ns = if nat_le least (length ns) then [] else kind.MissingRequiredArgument ∷ []

module _ (s : Shape) (choice : Rule) (names : List Rule) (r : IsReader s choice names) (least : ℕ) (plain : NoDefaults s.rules)
    (check : (rows : List Row) (ns ss : List Text) → Found s choice names r rows ns ss → check_fault s rows false ≡ missing_fault least ns) where
  begins : State s choice names r [] None [] []
  begins = record {
    found = record { name = λ k a at. refl; seed = refl; few_names = omega arith; few_seeds = omega arith };
    settles = refl;
  }

  abbrev pub start : Walk
  start = walk_from nothing_held

  -- where the walk ends, and the rows that it leaves
  abbrev pub ending : List Text → Walk
  ending words = end_of s choice names r start words

  abbrev end_rows : List Text → List Row
  end_rows words = settled_rows s.rules (ending words).held.pending (ending words).held.rows

  -- a parse, by what the words say: they fit; there are too few names; or it fails on the way
  pub data Outcome (words : List Text) : Type 0 where
    fit : (t : Said) → fitting least (length names) (said words) ≡ Some t → (ending words).stopped ≡ None → level_fault s [] nothing_held words false [] ≡ []
        → Found s choice names r (finished s.rules (ending words).held) t.names t.seeds → Outcome words
    few : fitting least (length names) (said words) ≡ None → (ending words).stopped ≡ None → Fails (level_fault s [] nothing_held words false []) → Outcome words
    refused : fitting least (length names) (said words) ≡ None → ((has : Bool) (below : Kinds) → Fails (level_fault s [] nothing_held words has below)) → Outcome words

  -- a fault of the walk is one of the parse
  fails_on_the_way : (words : List Text) → Reads s choice names r start words None → (has : Bool) (below : Kinds) → Fails (level_fault s [] nothing_held words has below)
  fails_on_the_way words h has below =
      let settling : settle_fault s.rules s.args_override_self (ending words).held ≡ settle_fault s.rules false (ending words).held =
      ap (λ (b : Bool). settle_fault s.rules b (ending words).held) r.again in
      fails_within (walk_fault s [] start words) below (settle_fault s.rules s.args_override_self (ending words).held) _
      (subst (λ (k : Kinds). Fails (or_else (walk_fault s [] start words) k)) (sym settling) h)

  level-ended : (words : List Text) (ns ss : List Text) → Ended s choice names r start words ns ss → level_fault s [] nothing_held words false [] ≡ missing_fault least ns
  level-ended words ns ss e =
      let parts = empty_parts (walk_fault s [] start words) (settle_fault s.rules false (ending words).held) e.fault in
      let no_default : defaults_fault (end_rows words) s.rules ≡ [] = defaults_fault-none s.rules (end_rows words) plain in
      let found : Found s choice names r (finished s.rules (ending words).held) ns ss =
      subst (λ (rows : List Row). Found s choice names r rows ns ss) (sym (finished-none s.rules (end_rows words) plain)) e.found in
      let settling : settle_fault s.rules s.args_override_self (ending words).held ≡ [] = ap (λ (b : Bool). settle_fault s.rules b (ending words).held) r.again ∙ parts.1 in
      ap (λ (k : Kinds). or_else k (or_else [] (or_else (settle_fault s.rules s.args_override_self (ending words).held) (or_else (defaults_fault (end_rows words) s.rules) (check_fault s (finished s.rules (ending words).held) false))))) parts.0
      ∙ ap (λ (k : Kinds). or_else k (or_else (defaults_fault (end_rows words) s.rules) (check_fault s (finished s.rules (ending words).held) false))) settling
      ∙ ap (λ (k : Kinds). or_else k (check_fault s (finished s.rules (ending words).held) false)) no_default
      ∙ check (finished s.rules (ending words).held) ns ss found

  fitting-none : (t : Said) → (nat_le (length t.names) (length names) && nat_le (length t.seeds) 1) ≡ false → fitting least (length names) (Some t) ≡ None
  fitting-none t e = rw (e, and-false (nat_le least (length t.names))) refl

  ended_outcome : (words : List Text) (t : Said) → said words ≡ Some t → (nat_le (length t.names) (length names) && nat_le (length t.seeds) 1) ≡ true
      → Ended s choice names r start words t.names t.seeds → Outcome words
  ended_outcome words t e room ended = elim (cases_Bool (nat_le least (length t.names))) [
    | inl enough ↦ fit t (ap (fitting least (length names)) e ∙ rw (enough, room) refl) ended.stopped
        (level-ended words t.names t.seeds ended ∙ rw enough refl)
        (subst (λ (rows : List Row). Found s choice names r rows t.names t.seeds) (sym (finished-none s.rules (end_rows words) plain)) ended.found)
    | inr short ↦ few (ap (fitting least (length names)) e ∙ rw short refl) ended.stopped
        (let lacking : level_fault s [] nothing_held words false [] ≡ kind.MissingRequiredArgument ∷ [] = level-ended words t.names t.seeds ended ∙ rw short refl in subst Fails (sym lacking) tt)
  ]

  pub outcome : (words : List Text) → AreTexts words → Outcome words
  outcome words texts = by (said words) refl (reads s choice names r words texts [] None [] [] begins)
    where
      by : (o : Option Said) → said words ≡ o → Reads s choice names r start words (total (length names) [] [] (said words)) → Outcome words
      by None e h = refused (ap (fitting least (length names)) e) (fails_on_the_way words (rw e at h))
      by (Some t) e h =
          let reading : Reads s choice names r start words (total (length names) [] [] (Some t)) = rw e at h in
          elim (cases_Bool (nat_le (length t.names) (length names) && nat_le (length t.seeds) 1)) [
            | inl room ↦ ended_outcome words t e room (rw room at reading)
            | inr full ↦ refused (ap (fitting least (length names)) e ∙ fitting-none t full) (fails_on_the_way words (rw full at reading))
          ]
