-- The whole walk of `clap` over the words, for a command with one option and a list of names: it ends without a fault
-- exactly where what is said fits, and then holds the names and the seeds that are said.
use Rattle.std.proofs.Common.{◌≡◌, ◌∙◌, ◌<◌, ◌≤◌, ℕ, zero, suc, Bool, true, false, true≢false, refl, sym, ap, subst, arith, List, [], ◌∷◌, ◌++◌, length, drop, Option, Some, None}
use Rattle.std.specs.Prelude.{slice_get}
use Rattle.std.specs.List.{AllByRecursion, fold}
use Rattle.std.specs.Str.{IsUtf8}
use Rattle.std.proofs.lemmas.List.{length-append}
use Rattle.clap.specs.Kinds.{Kinds, or_else}
use Rattle.clap.specs.Faults.{settle_fault, turn_fault, use_fault, walk_fault}
use Rattle.clap.specs.Simple.{Shape}
use Rattle.clap.specs.Walk.{Row, Rule, Walk, Waiting, idle, option, settled_rows, walked}
use Rattle.command_words.specs.Words.{Text, Said, said, only_names, with_name, with_seed, is_option}
use Rattle.command_words.proofs.Lex.{IsBare, IsValued, IsName, Kind, dashes, bare, valued, other, short, name, kind_of}
use Rattle.command_words.proofs.Rows.{value_row, used-new, slice_get-within}
use Rattle.command_words.proofs.Saying.{said-dashes, said-valued, said-other, said-short, said-name, said-bare_last, said-bare_option, said-bare, total, total-name, total-seed, total-stray, total-again, total-nothing}
use Rattle.command_words.proofs.Reader.{Fails, fails_first, fails_later, IsReader, use_fault-new, use_fault-again, use_fault-bare}
use Rattle.command_words.proofs.Held.{held_at, standing, Found, State, push_seed, name_pending, seed_pending, fails_pending}
use Rattle.command_words.proofs.Turns.{IsPlain, plain_trailing, plain_name, name_turn, name_walked, stray_turn, dashes_turn, dashes_walked, bare_turn, bare_walked, valued_turn, valued_walked, valued_again, value_turn, value_walked}
use Rattle.command_words.proofs.Refused.{other_turn, short_turn, lost_turn, bare_lost, valued_lost}

-- each word is text
abbrev pub AreTexts : List Text → Type 0
AreTexts words = AllByRecursion IsUtf8 words

module _ (s : Shape) (choice : Rule) (names : List Rule) (r : IsReader s choice names) where
  abbrev pub end_of : Walk → List Text → Walk
  end_of w words = fold (walked s.rules []) w words

  -- the fault of the walk, and of the use that it leaves pending
  abbrev pub run_fault : Walk → List Text → Kinds
  run_fault w words = or_else (walk_fault s [] w words) (settle_fault s.rules false (end_of w words).held)

  -- the walk ends with no fault, and holds these names and seeds
  pub record Ended (w : Walk) (words : List Text) (ns ss : List Text) : Type 0 where
    pub fault : run_fault w words ≡ []
    pub found : Found s choice names r (settled_rows s.rules (end_of w words).held.pending (end_of w words).held.rows) ns ss
    pub stopped : (end_of w words).stopped ≡ None

  -- it does so, or has a fault
  abbrev pub Reads : Walk → List Text → Option (List Text × List Text) → Type 0
  Reads w words None = Fails (run_fault w words)
  Reads w words (Some p) = Ended w words p.0 p.1

  -- ---- one word more

  runs_on : (w after : Walk) (word : Text) (rest : List Text) → turn_fault s [] w word ≡ [] → walked s.rules [] w word ≡ after
      → run_fault w (word ∷ rest) ≡ run_fault after rest
  unfolding walk_fault
  runs_on w after word rest turn next =
      ap (λ (t : Kinds). or_else (or_else t (walk_fault s [] (walked s.rules [] w word) rest)) (settle_fault s.rules false (end_of (walked s.rules [] w word) rest).held)) turn
      ∙ ap (λ (v : Walk). run_fault v rest) next

  ends_on : (w after : Walk) (word : Text) (rest : List Text) → walked s.rules [] w word ≡ after → end_of w (word ∷ rest) ≡ end_of after rest
  ends_on w after word rest next = ap (λ (v : Walk). end_of v rest) next

  goes_on : (w after : Walk) (word : Text) (rest : List Text) (o : Option (List Text × List Text)) → turn_fault s [] w word ≡ [] → walked s.rules [] w word ≡ after
      → Reads after rest o → Reads w (word ∷ rest) o
  goes_on w after word rest None turn next h = subst Fails (sym (runs_on w after word rest turn next)) h
  goes_on w after word rest (Some p) turn next h =
      let same_end = sym (ends_on w after word rest next) in
      record {
        fault = runs_on w after word rest turn next ∙ h.fault;
        found = subst (λ (v : Walk). Found s choice names r (settled_rows s.rules v.held.pending v.held.rows) p.0 p.1) same_end h.found;
        stopped = subst (λ (v : Walk). v.stopped ≡ None) same_end h.stopped;
      }

  stops : (w : Walk) (word : Text) (rest : List Text) → Fails (turn_fault s [] w word) → Reads w (word ∷ rest) None
  unfolding walk_fault
  stops w word rest bad = fails_first _ _ (fails_first _ _ bad)

  lost_at_end : (w : Walk) → Fails (settle_fault s.rules false w.held) → Reads w [] None
  lost_at_end w bad = fails_later (walk_fault s [] w []) _ bad

  abbrev Bad : List Row → Option (Text × List Text) → Type 0
  Bad rows p = Fails (settle_fault s.rules false (held_at rows p))

  -- every word is a name
  lost_trailing : (waiting : Waiting) (rows : List Row) (p : Option (Text × List Text)) (k : ℕ) (rest : List Text) → k ≤ length names → Bad rows p
      → Reads (standing true waiting (suc k) rows p) rest None
  lost_trailing waiting rows p k [] few bad = lost_at_end _ bad
  lost_trailing waiting rows p k (word ∷ rest) few bad =
      stops _ word rest (lost_turn s choice names r true waiting rows p k word (plain_trailing s choice names r waiting (suc k) (held_at rows p) word) few bad)

  -- a word that looks like an option, where the pending argument may not be used
  lost_option : (waiting : Waiting) (rows : List Row) (p : Option (Text × List Text)) (k : ℕ) (word : Text) (rest : List Text) → k ≤ length names → Bad rows p
      → IsUtf8 word → Kind word → (IsName word → Reads (standing false waiting (suc k) rows p) (word ∷ rest) None)
      → Reads (standing false waiting (suc k) rows p) (word ∷ rest) None
  lost_option waiting rows p k word rest few bad utf8 (dashes d) plain =
      goes_on _ _ word rest None (dashes_turn s choice names r rows p waiting (suc k) word d) (dashes_walked s choice names r rows p waiting (suc k) word d)
      (lost_trailing waiting rows p k rest few bad)
  lost_option waiting rows p k word rest few bad utf8 (bare b) plain = stops _ word rest (bare_lost s choice names r waiting rows p (suc k) word b bad)
  lost_option waiting rows p k word rest few bad utf8 (valued v) plain = stops _ word rest (valued_lost s choice names r waiting rows p (suc k) word v bad)
  lost_option waiting rows p k word rest few bad utf8 (other o) plain = stops _ word rest (other_turn s choice names r waiting rows p (suc k) word o)
  lost_option waiting rows p k word rest few bad utf8 (short t) plain = stops _ word rest (short_turn s choice names r waiting rows p (suc k) word t utf8)
  lost_option waiting rows p k word rest few bad utf8 (name n) plain = plain n

  -- a second seed is pending
  lost_idle : (rows : List Row) (p : Option (Text × List Text)) (k : ℕ) (rest : List Text) → AreTexts rest → k ≤ length names → Bad rows p
      → Reads (standing false idle (suc k) rows p) rest None
  lost_idle rows p k [] texts few bad = lost_at_end _ bad
  lost_idle rows p k (word ∷ rest) texts few bad =
      lost_option idle rows p k word rest few bad texts.0 (kind_of word)
      (λ n. stops _ word rest (lost_turn s choice names r false idle rows p k word (plain_name s choice names r (suc k) (held_at rows p) word n) few bad))

  -- ---- the words after `--`

  abbrev At : Bool → List Row → Option (Text × List Text) → List Text → Walk
  At trailing rows p ns = standing trailing idle (suc (length ns)) rows p

  abbrev most : ℕ
  most = length names

  -- there are no more words
  nothing_more : (trailing : Bool) (rows : List Row) (p : Option (Text × List Text)) (ns ss : List Text) → State s choice names r rows p ns ss
      → Reads (At trailing rows p ns) [] (total most ns ss (only_names []))
  unfolding walk_fault
  nothing_more trailing rows p ns ss st =
      rw (total-nothing most ns ss st.found.few_names st.found.few_seeds) (record { fault = st.settles; found = st.found; stopped = refl })

  get_none : (xs : List Rule) (k : ℕ) → slice_get xs k ≡ None → length xs ≤ k
  get_none [] k e = omega arith
  get_none (x ∷ xs) zero e = cc
  get_none (x ∷ xs) (suc k) e = let rest = get_none xs k e in omega arith

  no_place : (ns : List Text) → slice_get names (length ns) ≡ None → most ≤ length ns
  no_place ns e = get_none names (length ns) e

  -- a name
  reads_name : (trailing : Bool) (rows : List Row) (p : Option (Text × List Text)) (ns ss : List Text) (word : Text) (rest : List Text) (later : Option Said)
      → State s choice names r rows p ns ss → IsPlain s choice names r trailing idle (suc (length ns)) (held_at rows p) word
      → ((rows : List Row) (p : Option (Text × List Text)) (ns : List Text) → State s choice names r rows p ns ss → Reads (At trailing rows p ns) rest (total most ns ss later))
      → Reads (At trailing rows p ns) (word ∷ rest) (total most ns ss (with_name word later))
  reads_name trailing rows p ns ss word rest later st plain go = by (slice_get names (length ns)) refl
    where
      by : (o : Option Rule) → slice_get names (length ns) ≡ o → Reads (At trailing rows p ns) (word ∷ rest) (total most ns ss (with_name word later))
      by None at =
          rw (total-stray most ns ss word later (no_place ns at))
          (stops _ word rest (stray_turn s choice names r trailing rows p (length ns) word plain st.found.few_names at))
      by (Some a) at =
          let inside : length ns < most = slice_get-within names (length ns) a at in
          let moved : suc (suc (length ns)) ≡ suc (length (ns ++ word ∷ [])) = omega (arith, length-append ns (word ∷ [])) in
          let after : List Row = settled_rows s.rules p rows in
          let walk = name_walked s choice names r trailing rows p (length ns) a word plain inside at
          ∙ ap (λ n. standing trailing idle n after (Some (a.id, word ∷ []))) moved in
          let rest_read = go after (Some (a.id, word ∷ [])) (ns ++ word ∷ []) (name_pending s choice names r after ns ss a word st.found at) in
          subst (λ (o : Option (List Text × List Text)). Reads (At trailing rows p ns) (word ∷ rest) o) (total-name most ns ss word later)
          (goes_on (At trailing rows p ns) (At trailing after (Some (a.id, word ∷ [])) (ns ++ word ∷ [])) word rest (total most (ns ++ word ∷ []) ss later)
          (name_turn s choice names r trailing rows p (length ns) a word plain st.found.few_names at st.settles) walk rest_read)

  reads_trailing : (rest : List Text) (rows : List Row) (p : Option (Text × List Text)) (ns ss : List Text) → State s choice names r rows p ns ss
      → Reads (At true rows p ns) rest (total most ns ss (only_names rest))
  reads_trailing [] rows p ns ss st = nothing_more true rows p ns ss st
  reads_trailing (word ∷ rest) rows p ns ss st =
      reads_name true rows p ns ss word rest (only_names rest) st (plain_trailing s choice names r idle (suc (length ns)) (held_at rows p) word)
      (λ rows p ns st. reads_trailing rest rows p ns ss st)

  -- ---- seeds

  abbrev Answers : List Row → Option (Text × List Text) → List Text → List Text → List Text → Type 0
  Answers rows p ns ss words = Reads (At false rows p ns) words (total most ns ss (said words))

  -- what the words after this one come to, whatever was read before
  abbrev Later : List Text → Type 0
  Later rest = (rows : List Row) (p : Option (Text × List Text)) (ns ss : List Text) → State s choice names r rows p ns ss → Answers rows p ns ss rest

  -- there is one seed, so a second is refused
  again : (rows : List Row) (ns : List Text) (v w : Text) → Found s choice names r rows ns (v ∷ []) → Fails (use_fault false choice (w ∷ []) rows)
  again rows ns v w f = use_fault-again s.rules choice w rows (value_row choice v) r.choice_rule f.seed

  reads_valued : (word : Text) (rest : List Text) (rows : List Row) (p : Option (Text × List Text)) (ns ss : List Text) → IsValued word → Later rest
      → State s choice names r rows p ns ss → Reads (At false rows p ns) (word ∷ rest) (total most ns ss (with_seed (drop 11 word) (said rest)))
  reads_valued word rest rows p ns [] v later st =
      let after : List Row = settled_rows s.rules p rows in
      let seed : Text = drop 11 word in
      let rule = r.choice_rule in
      let walk = valued_walked s choice names r rows p (suc (length ns)) word v
      ∙ ap (λ (rs : List Row). standing false idle (suc (length ns)) rs None) (used-new s.rules choice seed after rule st.found.seed) in
      let turn = valued_turn s choice names r rows p (suc (length ns)) word v st.settles (use_fault-new s.rules choice seed after rule st.found.seed) in
      let state : State s choice names r (after ++ value_row choice seed ∷ []) None ns (seed ∷ []) =
      record { found = push_seed s choice names r after ns seed st.found; settles = refl } in
      subst (λ (o : Option (List Text × List Text)). Reads (At false rows p ns) (word ∷ rest) o) (total-seed most ns seed (said rest))
      (goes_on (At false rows p ns) (At false (after ++ value_row choice seed ∷ []) None ns) word rest (total most ns (seed ∷ []) (said rest)) turn walk
      (later (after ++ value_row choice seed ∷ []) None ns (seed ∷ []) state))
  reads_valued word rest rows p ns (one ∷ []) v later st =
      rw (total-again most ns one (drop 11 word) (said rest))
      (stops _ word rest (valued_again s choice names r rows p (suc (length ns)) word v (again (settled_rows s.rules p rows) ns one (drop 11 word) st.found)))
  reads_valued word rest rows p ns (one ∷ two ∷ more) v later st = absurd (let few : length (one ∷ two ∷ more) ≤ 1 = st.found.few_seeds in omega arith)

  -- where `--generate` stands before the words
  abbrev Waits : List Row → List Text → Walk
  Waits rows ns = standing false (option choice.id) (suc (length ns)) rows (Some (choice.id, []))

  bad_waiting : (rows : List Row) → Bad rows (Some (choice.id, []))
  bad_waiting rows = fails_pending s choice names r choice [] rows r.choice_rule (use_fault-bare s.rules choice rows r.choice_rule)

  reads_value : (next : Text) (rest : List Text) (rows : List Row) (ns ss : List Text) → IsName next → AreTexts rest → Later rest → Found s choice names r rows ns ss
      → Reads (Waits rows ns) (next ∷ rest) (total most ns ss (with_seed next (said rest)))
  reads_value next rest rows ns [] n texts later f =
      subst (λ (o : Option (List Text × List Text)). Reads (Waits rows ns) (next ∷ rest) o) (total-seed most ns next (said rest))
      (goes_on (Waits rows ns) (At false rows (Some (choice.id, next ∷ [])) ns) next rest (total most ns (next ∷ []) (said rest))
      (value_turn s choice names r rows (suc (length ns)) next n) (value_walked s choice names r rows (suc (length ns)) next n)
      (later rows (Some (choice.id, next ∷ [])) ns (next ∷ []) (seed_pending s choice names r rows ns next f)))
  reads_value next rest rows ns (one ∷ []) n texts later f =
      rw (total-again most ns one next (said rest))
      (goes_on (Waits rows ns) (At false rows (Some (choice.id, next ∷ [])) ns) next rest None
      (value_turn s choice names r rows (suc (length ns)) next n) (value_walked s choice names r rows (suc (length ns)) next n)
      (lost_idle rows (Some (choice.id, next ∷ [])) (length ns) rest texts f.few_names (fails_pending s choice names r choice (next ∷ []) rows r.choice_rule (again rows ns one next f))))
  reads_value next rest rows ns (one ∷ two ∷ more) n texts later f = absurd (let few : length (one ∷ two ∷ more) ≤ 1 = f.few_seeds in omega arith)

  -- an option where the value should stand
  no_value : (next : Text) (rest : List Text) (rows : List Row) (ns : List Text) → length ns ≤ most → IsUtf8 next → (IsName next → ⊥) → Reads (Waits rows ns) (next ∷ rest) None
  no_value next rest rows ns few utf8 not_name =
      lost_option (option choice.id) rows (Some (choice.id, [])) (length ns) next rest few (bad_waiting rows) utf8 (kind_of next) (λ n. absurd (not_name n))

  not_name_if : (word : Text) → is_option word ≡ true → IsName word → ⊥
  not_name_if word o n = true≢false (sym o ∙ n.option)

  reads_after : (word next : Text) (rest : List Text) (rows : List Row) (ns ss : List Text) → IsBare word → IsUtf8 next → AreTexts rest → Kind next → Later rest → Found s choice names r rows ns ss
      → Reads (Waits rows ns) (next ∷ rest) (total most ns ss (said (word ∷ next ∷ rest)))
  reads_after word next rest rows ns ss b utf8 texts (dashes k) later f =
      rw (said-bare_option word next rest b k.option) (no_value next rest rows ns f.few_names utf8 (not_name_if next k.option))
  reads_after word next rest rows ns ss b utf8 texts (bare k) later f =
      rw (said-bare_option word next rest b k.option) (no_value next rest rows ns f.few_names utf8 (not_name_if next k.option))
  reads_after word next rest rows ns ss b utf8 texts (valued k) later f =
      rw (said-bare_option word next rest b k.option) (no_value next rest rows ns f.few_names utf8 (not_name_if next k.option))
  reads_after word next rest rows ns ss b utf8 texts (other k) later f =
      rw (said-bare_option word next rest b k.option) (no_value next rest rows ns f.few_names utf8 (not_name_if next k.option))
  reads_after word next rest rows ns ss b utf8 texts (short k) later f =
      rw (said-bare_option word next rest b k.option) (no_value next rest rows ns f.few_names utf8 (not_name_if next k.option))
  reads_after word next rest rows ns ss b utf8 texts (name k) later f =
      rw (said-bare word next rest b k.option) (reads_value next rest rows ns ss k texts later f)

  -- `--generate` itself
  reads_bare : (word : Text) (rest : List Text) (rows : List Row) (p : Option (Text × List Text)) (ns ss : List Text) (o : Option (List Text × List Text)) → IsBare word
      → State s choice names r rows p ns ss → Reads (Waits (settled_rows s.rules p rows) ns) rest o → Reads (At false rows p ns) (word ∷ rest) o
  reads_bare word rest rows p ns ss o b st h =
      goes_on (At false rows p ns) (Waits (settled_rows s.rules p rows) ns) word rest o
      (bare_turn s choice names r rows p (suc (length ns)) word b st.settles) (bare_walked s choice names r rows p (suc (length ns)) word b) h

  -- ---- all words

  reads_word : (word : Text) (rest : List Text) (rows : List Row) (p : Option (Text × List Text)) (ns ss : List Text) → IsUtf8 word → Kind word → Later rest
      → (IsBare word → Answers rows p ns ss (word ∷ rest)) → State s choice names r rows p ns ss → Answers rows p ns ss (word ∷ rest)
  reads_word word rest rows p ns ss utf8 (dashes d) later at_bare st =
      rw (said-dashes word rest d)
      (goes_on (At false rows p ns) (At true rows p ns) word rest (total most ns ss (only_names rest))
      (dashes_turn s choice names r rows p idle (suc (length ns)) word d) (dashes_walked s choice names r rows p idle (suc (length ns)) word d)
      (reads_trailing rest rows p ns ss st))
  reads_word word rest rows p ns ss utf8 (bare b) later at_bare st = at_bare b
  reads_word word rest rows p ns ss utf8 (valued v) later at_bare st = rw (said-valued word rest v) (reads_valued word rest rows p ns ss v later st)
  reads_word word rest rows p ns ss utf8 (other o) later at_bare st =
      rw (said-other word rest o) (stops _ word rest (other_turn s choice names r idle rows p (suc (length ns)) word o))
  reads_word word rest rows p ns ss utf8 (short t) later at_bare st =
      rw (said-short word rest t) (stops _ word rest (short_turn s choice names r idle rows p (suc (length ns)) word t utf8))
  reads_word word rest rows p ns ss utf8 (name n) later at_bare st =
      rw (said-name word rest n)
      (reads_name false rows p ns ss word rest (said rest) st (plain_name s choice names r (suc (length ns)) (held_at rows p) word n)
      (λ rows p ns st. later rows p ns ss st))

  pub reads : (words : List Text) → AreTexts words → Later words
  unfolding said
  reads [] texts rows p ns ss st = nothing_more false rows p ns ss st
  reads (word ∷ []) texts rows p ns ss st =
      reads_word word [] rows p ns ss texts.0 (kind_of word) (λ rows p ns ss st. nothing_more false rows p ns ss st)
      (λ b. rw (said-bare_last word b) (reads_bare word [] rows p ns ss None b st (lost_at_end _ (bad_waiting (settled_rows s.rules p rows))))) st
  reads (word ∷ next ∷ rest) texts rows p ns ss st =
      reads_word word (next ∷ rest) rows p ns ss texts.0 (kind_of word) (reads (next ∷ rest) texts.1)
      (λ b. reads_bare word (next ∷ rest) rows p ns ss (total most ns ss (said (word ∷ next ∷ rest))) b st
      (reads_after word next rest (settled_rows s.rules p rows) ns ss b texts.1.0 texts.1.1 (kind_of next) (reads rest texts.1.1) st.found)) st
