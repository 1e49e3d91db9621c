-- What an answer of a parse tells of the words.
use Rattle.std.proofs.Common.{◌≡◌, ◌∙◌, ◌⊎◌, ℕ, false, refl, sym, ap, subst, inl, inr, List, [], ◌∷◌, length, Option, Some, None, map}
use Rattle.std.specs.Prelude.{slice_get, is_some, option_map, codes, Err, IsSomeAnd, string_bytes, String}
use Rattle.std.proofs.lemmas.Str.{IsUtf8-string_bytes}
use Rattle.clap.specs.Words.{first_value, found_of, kind_of, rows_of, first_of, matches_of, App, HasKind, IsAmong, Kinds, Rule, Row}
use Rattle.clap.specs.Faults.{check_fault, entered_fault, fault_of, level_fault}
use Rattle.clap.specs.Simple.{Shape, built, entered}
use Rattle.clap.specs.Walk.{Held, finished, nothing_held}
use Rattle.clap.specs.declared.error.Error.{Error}
use Rattle.clap.specs.declared.error.kind.ErrorKind.{ErrorKind}
use Rattle.clap.specs.declared.error.kind.ErrorKind.TheVariants as kind
use Rattle.clap.specs.declared.parser.matches.ArgMatches.{ArgMatches}
use Rattle.clap.proofs.WalkLemmas.{first_value-rows}
use Rattle.command_words.specs.Words.{Text, Said, said}
use Rattle.command_words.specs.Reading.{fitting, Settles, RunTells, CheckTells, cause_of, cause_of_kind}
use Rattle.command_words.specs.Commands.{run_app, check_app}
use Rattle.command_words.proofs.Rows.{row_at, value_row}
use Rattle.command_words.proofs.Reader.{Fails, IsReader}
use Rattle.command_words.proofs.Held.{Found}
use Rattle.command_words.proofs.Walks.{AreTexts}
use Rattle.command_words.proofs.Settled.{NoDefaults, missing_fault, Outcome, fit, few, refused, ending, outcome}
use Rattle.command_words.proofs.Programs.{choice, required_name, last_name, check_shape, check_names, check_reader, check_plain, check_checks, run_shape, run_names, run_reader, run_plain, run_checks}

-- the words are text
pub are_texts : {Z : Type 0} (words : List (String Z)) → AreTexts (map string_bytes words)
are_texts [] = tt
are_texts (word ∷ rest) = (IsUtf8-string_bytes word, are_texts rest)

-- an empty list is no fault
no_failure : (k : Kinds) → k ≡ [] → Fails k → ⊥
no_failure k e h = subst Fails e h

module _ (a : App) (s : Shape) (option : Rule) (names : List Rule) (r : IsReader s option names) (least : ℕ) (plain : NoDefaults s.rules)
    (check : (rows : List Row) (ns ss : List Text) → Found s option names r rows ns ss → check_fault s rows false ≡ missing_fault least ns) where
  abbrev fault_at : List Text → Option (Text × List Text) → Kinds
  fault_at words stop = level_fault s [] nothing_held words (is_some (entered (built a) stop)) (entered_fault (built a) stop)

  abbrev end_held : List Text → Held
  end_held words = (ending s option names r least plain check words).held

  module _ (faults : (words : List Text) → fault_of a words ≡ fault_at words (ending s option names r least plain check words).stopped)
      (found : (words : List Text) → matches_of a words ≡ finished s.rules (end_held words)) where
    -- an `Ok`
    pub told_ok : (words : List Text) → AreTexts words → fault_of a words ≡ []
        → (t : Said) × (fitting least (length names) (said words) ≡ Some t) × Found s option names r (matches_of a words) t.names t.seeds
    told_ok words texts none = by (outcome s option names r least plain check words texts)
      where
        by : Outcome s option names r least plain check words
            → (t : Said) × (fitting least (length names) (said words) ≡ Some t) × Found s option names r (matches_of a words) t.names t.seeds
        by (fit t is stopped passes f) = (t, is, subst (λ (rows : List Row). Found s option names r rows t.names t.seeds) (sym (found words)) f)
        by (few is stopped bad) = absurd (no_failure _ none (subst Fails (sym (faults words ∙ ap (fault_at words) stopped)) bad))
        by (refused is bad) = absurd (no_failure _ none (subst Fails (sym (faults words)) (bad _ _)))

    -- an `Err` of some kind
    pub told_err : (words : List Text) → AreTexts words → (k : ErrorKind) → IsAmong k (fault_of a words) → fitting least (length names) (said words) ≡ None
    told_err words texts k among = by (outcome s option names r least plain check words texts)
      where
        by : Outcome s option names r least plain check words → fitting least (length names) (said words) ≡ None
        by (fit t is stopped passes f) = absurd (subst (IsAmong k) (faults words ∙ ap (fault_at words) stopped ∙ passes) among)
        by (few is stopped bad) = is
        by (refused is bad) = is

-- what the first value of an argument is
read_first : (m : ArgMatches) (rows : List Row) (a : Rule) (o : Option Text) → rows_of (found_of m) ≡ rows → row_at a.id rows ≡ option_map (value_row a) o
    → first_value (found_of m) a.id ≡ o
read_first m rows a o is at = first_value-rows (found_of m) a.id ∙ ap (first_of a.id) is ∙ by o at
  where
    by : (o : Option Text) → row_at a.id rows ≡ option_map (value_row a) o → first_of a.id rows ≡ o
    by None e = rw e refl
    by (Some v) e = rw e refl

-- ---- `rsim`

run_faults : (words : List Text) → fault_of run_app words ≡ fault_at run_app run_shape choice run_names run_reader 3 run_plain run_checks words (ending run_shape choice run_names run_reader 3 run_plain run_checks words).stopped
run_faults words = refl

run_found : (words : List Text) → matches_of run_app words ≡ finished run_shape.rules (end_held run_app run_shape choice run_names run_reader 3 run_plain run_checks words)
run_found words = refl

pub run_told : (words : List Text) (m : ArgMatches) → AreTexts words → fault_of run_app words ≡ [] → rows_of (found_of m) ≡ matches_of run_app words
    → IsSomeAnd (fitting 3 4 (said words)) (λ s. RunTells s m)
run_told words m texts none rows =
    let told = told_ok run_app run_shape choice run_names run_reader 3 run_plain run_checks run_faults run_found words texts none in
    let f = told.2 in
    let t : Said = told.0 in
    subst (λ (o : Option Said). IsSomeAnd o (λ s. RunTells s m)) (sym told.1) (
      read_first m (matches_of run_app words) (required_name 1 (codes "first")) (slice_get t.names 0) rows (f.name 0 (required_name 1 (codes "first")) refl),
      read_first m (matches_of run_app words) (required_name 2 (codes "second")) (slice_get t.names 1) rows (f.name 1 (required_name 2 (codes "second")) refl),
      read_first m (matches_of run_app words) (required_name 3 (codes "third")) (slice_get t.names 2) rows (f.name 2 (required_name 3 (codes "third")) refl),
      read_first m (matches_of run_app words) (last_name 4 (codes "fourth")) (slice_get t.names 3) rows (f.name 3 (last_name 4 (codes "fourth")) refl),
      read_first m (matches_of run_app words) choice (slice_get t.seeds 0) rows f.seed,
    )

-- an error is want of memory, or one of the words' shape
settles_by : (Tells : Said → ArgMatches → Type 0) (least most : ℕ) (want : Option Said) (kinds : Kinds) → ((k : ErrorKind) → IsAmong k kinds → fitting least most want ≡ None)
    → (k : ErrorKind) → (k ≡ kind.OutOfMemory) ⊎ IsAmong k kinds → Settles least most Tells want (Err (cause_of_kind k))
settles_by Tells least most want kinds unfit kind.OutOfMemory h = tt
settles_by Tells least most want kinds unfit k h = elim h [ inl e ↦ cc | inr among ↦ unfit k among ]

pub run_told_err : (words : List Text) (e : Error) → AreTexts words → HasKind (fault_of run_app words) e → Settles 3 4 RunTells (said words) (Err (cause_of e))
run_told_err words e texts h =
    settles_by RunTells 3 4 (said words) (fault_of run_app words) (told_err run_app run_shape choice run_names run_reader 3 run_plain run_checks run_faults run_found words texts) (kind_of e) h

-- ---- `rsimcheck`

check_faults : (words : List Text) → fault_of check_app words ≡ fault_at check_app check_shape choice check_names check_reader 1 check_plain check_checks words (ending check_shape choice check_names check_reader 1 check_plain check_checks words).stopped
check_faults words = refl

check_found : (words : List Text) → matches_of check_app words ≡ finished check_shape.rules (end_held check_app check_shape choice check_names check_reader 1 check_plain check_checks words)
check_found words = refl

pub check_told : (words : List Text) (m : ArgMatches) → AreTexts words → fault_of check_app words ≡ [] → rows_of (found_of m) ≡ matches_of check_app words
    → IsSomeAnd (fitting 1 2 (said words)) (λ s. CheckTells s m)
check_told words m texts none rows =
    let told = told_ok check_app check_shape choice check_names check_reader 1 check_plain check_checks check_faults check_found words texts none in
    let f = told.2 in
    let t : Said = told.0 in
    subst (λ (o : Option Said). IsSomeAnd o (λ s. CheckTells s m)) (sym told.1) (
      read_first m (matches_of check_app words) (required_name 1 (codes "first")) (slice_get t.names 0) rows (f.name 0 (required_name 1 (codes "first")) refl),
      read_first m (matches_of check_app words) (last_name 2 (codes "second")) (slice_get t.names 1) rows (f.name 1 (last_name 2 (codes "second")) refl),
      read_first m (matches_of check_app words) choice (slice_get t.seeds 0) rows f.seed,
    )

pub check_told_err : (words : List Text) (e : Error) → AreTexts words → HasKind (fault_of check_app words) e → Settles 1 2 CheckTells (said words) (Err (cause_of e))
check_told_err words e texts h =
    settles_by CheckTells 1 2 (said words) (fault_of check_app words) (told_err check_app check_shape choice check_names check_reader 1 check_plain check_checks check_faults check_found words texts) (kind_of e) h
