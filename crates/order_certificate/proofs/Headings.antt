-- The lines of the heading, read from the front of a text and printed.
use Rattle.std.proofs.Common.{◌≡◌, ℕ, ◌+◌, ◌≤◌, Bool, true, false, nat_eq, ◌⊎◌, inl, inr, if◌then◌else◌, List, ◌∷◌, ◌++◌, codes, decimal, Option, Some, None, option_map, option_and_then, refl, ap, ◌∙◌, arith, append_assoc}
use Rattle.std.specs.Option.{option_or}
use Rattle.std.proofs.lemmas.Bool.Decides.{nat_tests}
use Rattle.rsim_base.specs.declared.memory.Model.{Model}
use Rattle.rsim_base.specs.declared.memory.Model.TheVariants.{Sc, Pc, Rc}
use Rattle.rsim_base.specs.Limits.{max_processors}
use Rattle.order_certificate.specs.Fields.{◌>>=◌, after, digit_at, decimal_then, model_in, model_at, processors_at}
use Rattle.order_certificate.specs.OrderText.{model_name, heading}
use Rattle.order_certificate.specs.Reading.{IsVersion, IsModel, IsProcessors}
use Rattle.order_certificate.proofs.Accesses.{decimal_then_takes, decimal_then_again}
use Rattle.order_certificate.proofs.Feedless.{IsFeedless, feedless_both, feedless_decimal, feedless_by_test}
use Rattle.order_certificate.proofs.LineReads.{IsWritten}
use Rattle.order_certificate.proofs.Words.{bind_some, bind_is, some_parts, after_takes, after_again}

-- ---- the version

pub version_at : List ℕ → Option (Unit {0} × List ℕ)
version_at text = after (codes "rsim order 1\n") text >>= λ rest. Some (tt, rest)

pub version_at-after : (text : List ℕ) (o : Option (List ℕ)) → after (codes "rsim order 1\n") text ≡ o → version_at text ≡ option_and_then (λ rest. Some (tt, rest)) o
unfolding version_at
version_at-after text o e = ap (option_and_then (λ rest. Some (tt, rest))) e

pub version_written : IsWritten {A = Unit {0}} (λ piece a. IsVersion piece) (λ a. Unit {0}) (λ a. codes "rsim order 1") version_at
unfolding version_at
version_written = record {
  is = λ a ok. refl;
  back = λ piece a is. (is, tt);
  free = λ a ok. feedless_by_test (codes "rsim order 1") refl;
  takes = λ text a rest e.
      let word = bind_some (after (codes "rsim order 1\n") text) _ _ e in
      let same = some_parts tt word.value a rest word.more in
      (after_takes (codes "rsim order 1\n") text word.value word.is ∙ ap (λ t. codes "rsim order 1\n" ++ t) same.1, tt);
  again = λ a rest ok. bind_is (after (codes "rsim order 1\n") (codes "rsim order 1\n" ++ rest)) _ rest (after_again (codes "rsim order 1\n") rest);
}

-- ---- the model

pub model_body : Model → List ℕ
model_body m = codes "model " ++ model_name m

abbrev means : Model → Option (List ℕ) → Option (Model × List ℕ)
means m o = option_map (λ rest. (m, rest)) o

abbrev rc_in : List ℕ → Option (Model × List ℕ)
rc_in text = option_map (λ rest. (Rc, rest)) (after (codes "rc\n") text)

abbrev pc_in : List ℕ → Option (Model × List ℕ)
pc_in text = option_or (option_map (λ rest. (Pc, rest)) (after (codes "pc\n") text)) (rc_in text)

-- a model's word stands there
word_takes : (word : List ℕ) (m : Model) (text : List ℕ) (found : Model) (rest : List ℕ) → means m (after word text) ≡ Some (found, rest) → (m ≡ found) × (text ≡ word ++ rest)
word_takes word m text found rest e = by_word (after word text) refl e
  where
    by_word : (o : Option (List ℕ)) → after word text ≡ o → means m o ≡ Some (found, rest) → (m ≡ found) × (text ≡ word ++ rest)
    by_word None is e = absurd (let no : ⊥ = cc in no)
    by_word (Some left) is e =
        let same = some_parts m left found rest e in
        (same.0, after_takes word text left is ∙ ap (λ t. word ++ t) same.1)

-- one of two was found
or_takes : (first second : Option (Model × List ℕ)) (found : Model × List ℕ) → option_or first second ≡ Some found → (first ≡ Some found) ⊎ (second ≡ Some found)
or_takes None second found e = inr e
or_takes (Some x) second found e = inl e

model_in_takes : (text : List ℕ) (m : Model) (rest : List ℕ) → model_in text ≡ Some (m, rest) → text ≡ model_name m ++ 10 ∷ rest
model_in_takes text m rest e = first (or_takes (means Sc (after (codes "sc\n") text)) (pc_in text) (m, rest) e)
  where
    named : (word : Model) → (word ≡ m) × (text ≡ model_name word ++ 10 ∷ rest) → text ≡ model_name m ++ 10 ∷ rest
    named word told = told.1 ∙ ap (λ x. model_name x ++ 10 ∷ rest) told.0

    second : (means Pc (after (codes "pc\n") text) ≡ Some (m, rest)) ⊎ (rc_in text ≡ Some (m, rest)) → text ≡ model_name m ++ 10 ∷ rest
    second (inl e) = named Pc (word_takes (codes "pc\n") Pc text m rest e)
    second (inr e) = named Rc (word_takes (codes "rc\n") Rc text m rest e)

    first : (means Sc (after (codes "sc\n") text) ≡ Some (m, rest)) ⊎ (pc_in text ≡ Some (m, rest)) → text ≡ model_name m ++ 10 ∷ rest
    first (inl e) = named Sc (word_takes (codes "sc\n") Sc text m rest e)
    first (inr e) = second (or_takes (means Pc (after (codes "pc\n") text)) (rc_in text) (m, rest) e)

model_in_again : (m : Model) (rest : List ℕ) → model_in (model_name m ++ 10 ∷ rest) ≡ Some (m, rest)
unfolding after
model_in_again Sc rest = refl
model_in_again Pc rest = refl
model_in_again Rc rest = refl

pub model_written : IsWritten IsModel (λ m. Unit {0}) model_body model_at
unfolding model_at model_body
model_written = record {
  is = λ m ok. refl;
  back = λ piece m is. (is, tt);
  free = λ m ok. free m;
  takes = λ text m rest e.
      let word = bind_some (after (codes "model ") text) _ _ e in
      (after_takes (codes "model ") text word.value word.is ∙ ap (λ t. codes "model " ++ t) (model_in_takes word.value m rest word.more), tt);
  again = λ m rest ok.
      bind_is (after (codes "model ") (codes "model " ++ (model_name m ++ 10 ∷ rest))) _ _ (after_again (codes "model ") (model_name m ++ 10 ∷ rest)) ∙ model_in_again m rest;
}
  where
    free : (m : Model) → IsFeedless (codes "model " ++ model_name m)
    free Sc = feedless_by_test (codes "model sc") refl
    free Pc = feedless_by_test (codes "model pc") refl
    free Rc = feedless_by_test (codes "model rc") refl

-- ---- the number of processors

pub processors_body : ℕ → List ℕ
processors_body n = codes "processors " ++ decimal n

-- a number that is not 0
some_number : (n : ℕ) (text : List ℕ) (m : ℕ) (rest : List ℕ) → ◌≡◌ {A = Option (ℕ × List ℕ)} (if nat_eq n 0 then None else Some (n, text)) (Some (m, rest)) → (n ≡ m) × (text ≡ rest) × (1 ≤ n)
some_number n text m rest e = by_test (nat_eq n 0) refl e
  where
    by_test : (none : Bool) → nat_eq n 0 ≡ none → ◌≡◌ {A = Option (ℕ × List ℕ)} (if none then None else Some (n, text)) (Some (m, rest)) → (n ≡ m) × (text ≡ rest) × (1 ≤ n)
    by_test true is e = absurd (let no : ⊥ = cc in no)
    by_test false is e =
        let same = some_parts n text m rest e in
        (same.0, same.1, grind (arith, nat_tests))

no_digit_in_feed : (rest : List ℕ) → digit_at (10 ∷ rest) ≡ None
unfolding digit_at
no_digit_in_feed rest = refl

processors_takes : (text : List ℕ) (n : ℕ) (rest : List ℕ) → processors_at text ≡ Some (n, rest) → (text ≡ processors_body n ++ 10 ∷ rest) × ((1 ≤ n) × (n ≤ max_processors))
unfolding processors_at processors_body
processors_takes text n rest e =
    let word = bind_some (after (codes "processors ") text) _ _ e in
    let number = bind_some (decimal_then (max_processors + 1) 10 word.value) _ _ word.more in
    let taken = decimal_then_takes (max_processors + 1) 10 word.value number.value.0 number.value.1 (omega arith) number.is in
    let same = some_number number.value.0 number.value.1 n rest number.more in (
      after_takes (codes "processors ") text word.value word.is ∙ ap (λ t. codes "processors " ++ t) (taken.is ∙ (λ i. decimal (same.0 i) ++ 10 ∷ same.1 i)),
      (omega (arith, same.0, same.2), omega (arith, same.0, taken.small)),
    )

processors_again : (n : ℕ) (rest : List ℕ) → (1 ≤ n) × (n ≤ max_processors) → processors_at (processors_body n ++ 10 ∷ rest) ≡ Some (n, rest)
unfolding processors_at processors_body
processors_again n rest ok =
    let test : nat_eq n 0 ≡ false = grind (arith, nat_tests, ok.0) in
    bind_is (after (codes "processors ") (codes "processors " ++ (decimal n ++ 10 ∷ rest))) _ _ (after_again (codes "processors ") (decimal n ++ 10 ∷ rest))
    ∙ bind_is (decimal_then (max_processors + 1) 10 (decimal n ++ 10 ∷ rest)) _ (n, rest) (decimal_then_again (max_processors + 1) 10 n rest (omega arith) (omega (arith, ok.1)) (no_digit_in_feed rest))
    ∙ ap (λ t. if t then None else Some (n, rest)) test

pub processors_written : IsWritten IsProcessors (λ n. (1 ≤ n) × (n ≤ max_processors)) processors_body processors_at
unfolding processors_body
processors_written = record {
  is = λ n ok. (refl, ok.0, ok.1);
  back = λ piece n is. (is.0, (is.1, is.2));
  free = λ n ok. feedless_both (codes "processors ") (decimal n) (feedless_by_test (codes "processors ") refl) (feedless_decimal n (omega (arith, ok.1)));
  takes = processors_takes;
  again = processors_again;
}

-- ---- the heading

pub heading_lines : (m : Model) (n : ℕ) (rest : List ℕ) → heading m n ++ rest ≡ codes "rsim order 1\n" ++ (model_body m ++ 10 ∷ (processors_body n ++ 10 ∷ rest))
unfolding heading model_body processors_body
heading_lines m n rest = simp append_assoc
