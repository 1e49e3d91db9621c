-- That each cause among two files is always answered, and that where nothing is wrong and nothing fails nothing is refused,
-- from what an answer says.
use Rattle.std.proofs.Common.{◌≡◌, ◌⊎◌, ℕ, nat_lt, Bool, true, false, IsTrue, List, [], length, Option, Some, None, unwrap_or, Result, Err, IfSome, ⊎_elim, inl, inr, subst, refl, sym, ap, ◌∙◌}
use Rattle.std.specs.FinMap.{get}
use Rattle.std.specs.Option.{option_or}
use Rattle.rsim_io.specs.Files.{Files}
use Rattle.rsim_top.specs.declared.refusal.File.{File}
use Rattle.rsim_top.specs.declared.refusal.Refusal.{Refusal}
use Rattle.rsim_top.specs.declared.refusal.Refusal.TheVariants as refusal
use Rattle.rsim_top.specs.FileCauses.{IsRefused, IsHeld, IsMissing, IsDone, AreReady, AreExact, AreComplete}
use Rattle.rsim_top.specs.Outside.{Outside, MayFail}
use Rattle.rsim_top.specs.TwoFiles.{TwoFiles, IsFetched, when, fetch_refusal, first_refusal, AnswersFetched, AnswersFiles}
use Rattle.list_facts.specs.Options.{Some-injective}

-- ---- what was fetched

-- the file that was fetched is the one that is held
same_file : (told : Option Files) (name bytes came : List ℕ) → IsHeld told name bytes → IfSome told (λ files. get files name ≡ Some came) → came ≡ bytes
same_file told name bytes came held fetched =
    let found = subst (λ t. IfSome t (λ files. get files name ≡ Some came)) held.are_told fetched in
    Some-injective (sym found ∙ held.found)

-- what is not there was not fetched
not_fetched : (told : Option Files) (name came : List ℕ) → IsMissing told name → IfSome told (λ files. get files name ≡ Some came) → ⊥
not_fetched told name came missing fetched =
    let found = subst (λ t. IfSome t (λ files. get files name ≡ Some came)) missing.are_told fetched in
    let none = missing.missing in
    absurd cc

-- what is held is not missing
not_missing : (told : Option Files) (name bytes : List ℕ) → IsHeld told name bytes → IfSome told (λ files. get files name ≡ None) → ⊥
not_missing told name bytes held missing =
    let none = subst (λ t. IfSome t (λ files. get files name ≡ None)) held.are_told missing in
    let found = held.found in
    absurd cc

-- the first part of a choice without anything has nothing
option_or-None : (a b : Option Refusal) → option_or a b ≡ None → a ≡ None
option_or-None (Some x) b is = absurd cc
option_or-None None b is = refl

module _ {A : Type 0} (Says : List ℕ → List ℕ → Result A Refusal → Type 0) (old new : Outside) (f : TwoFiles) (result : Result A Refusal) where
  -- A record of the fetches is best looked at by what they came to.
  abbrev ByFetches : (Option (List ℕ) → Option (List ℕ) → Type 0) → Type 0
  ByFetches Tells =
      (one two : Option (List ℕ)) → IsFetched old.shelf new.shelf f.first_name one → (fetch_refusal f.first f.first_limit one ≡ None → IsFetched old.shelf new.shelf f.second_name two)
      → AnswersFetched Says old new (unwrap_or one []) (unwrap_or two []) (first_refusal f one two) result → Tells one two

  from_fetches : {Told : Type 0} → AnswersFiles Says old new f result → ((result ≡ Err refusal.Memory) → Told) → ByFetches (λ one two. Told) → Told
  from_fetches answer short by = ⊎_elim (λ lacks. short lacks.0) (λ came. by came.0.one came.0.two came.0.is_one came.0.is_two came.1) answer

  -- ---- each cause

  no_first : AnswersFiles Says old new f result → IsMissing old.shelf.files f.first_name → IsRefused (refusal.Read f.first) result
  no_first answer missing = from_fetches answer inr by
    where
      by : ByFetches (λ one two. IsRefused (refusal.Read f.first) result)
      by (Some one) two is_one is_two says = absurd (not_fetched _ _ _ missing is_one)
      by None two is_one is_two says = inl says.0

  long_first : AnswersFiles Says old new f result → (held_one : List ℕ) (why : Refusal) → IsHeld old.shelf.files f.first_name held_one → fetch_refusal f.first f.first_limit (Some held_one) ≡ Some why →
      IsRefused why result ⊎ (result ≡ Err (refusal.Read f.first))
  long_first answer held_one why held long = from_fetches answer (λ short. inl (inr short)) by
    where
      by : ByFetches (λ one two. IsRefused why result ⊎ (result ≡ Err (refusal.Read f.first)))
      by (Some one) two is_one is_two says =
          let same = same_file _ _ _ _ held is_one in
          let refused = rw (same, long) at says in
          inl (inl refused.0)
      by None two is_one is_two says = inr says.0

  no_second : AnswersFiles Says old new f result → (held_one : List ℕ) → IsHeld old.shelf.files f.first_name held_one → fetch_refusal f.first f.first_limit (Some held_one) ≡ None → IsMissing old.shelf.files f.second_name →
      IsRefused (refusal.Read f.second) result ⊎ (result ≡ Err (refusal.Read f.first))
  no_second answer held_one held short missing = from_fetches answer (λ lacks. inl (inr lacks)) by
    where
      by : ByFetches (λ one two. IsRefused (refusal.Read f.second) result ⊎ (result ≡ Err (refusal.Read f.first)))
      by (Some one) (Some two) is_one is_two says =
          let same = same_file _ _ _ _ held is_one in
          absurd (not_fetched _ _ _ missing (is_two (rw same short)))
      by (Some one) None is_one is_two says =
          let same = same_file _ _ _ _ held is_one in
          let refused = rw (same, short) at says in
          inl (inl refused.0)
      by None two is_one is_two says = inr says.0

  wrong_files : AnswersFiles Says old new f result → (held_one held_two : List ℕ) (why : Refusal) → IsHeld old.shelf.files f.first_name held_one → IsHeld old.shelf.files f.second_name held_two →
      first_refusal f (Some held_one) (Some held_two) ≡ Some why → IsRefused why result ⊎ ((result ≡ Err (refusal.Read f.first)) ⊎ (result ≡ Err (refusal.Read f.second)))
  wrong_files answer held_one held_two why held held_too wrong = from_fetches answer (λ short. inl (inr short)) by
    where
      by : ByFetches (λ one two. IsRefused why result ⊎ ((result ≡ Err (refusal.Read f.first)) ⊎ (result ≡ Err (refusal.Read f.second))))
      by (Some one) (Some two) is_one is_two says = short (fetch_refusal f.first f.first_limit (Some one)) refl
        where
          same : one ≡ held_one
          same = same_file _ _ _ _ held is_one

          short : (r : Option Refusal) → fetch_refusal f.first f.first_limit (Some one) ≡ r → IsRefused why result ⊎ ((result ≡ Err (refusal.Read f.first)) ⊎ (result ≡ Err (refusal.Read f.second)))
          short (Some first) is =
              let refused = rw is at says in
              let also = rw (← same, is) at wrong in
              inl (inl (refused.0 ∙ ap Err (Some-injective also)))
          short None is =
              let same_two = same_file _ _ _ _ held_too (is_two is) in
              let refused = rw (same, same_two, wrong) at says in
              inl (inl refused.0)
      by (Some one) None is_one is_two says = short (fetch_refusal f.first f.first_limit (Some one)) refl
        where
          same : one ≡ held_one
          same = same_file _ _ _ _ held is_one

          short : (r : Option Refusal) → fetch_refusal f.first f.first_limit (Some one) ≡ r → IsRefused why result ⊎ ((result ≡ Err (refusal.Read f.first)) ⊎ (result ≡ Err (refusal.Read f.second)))
          short (Some first) is =
              let refused = rw is at says in
              let also = rw (← same, is) at wrong in
              inl (inl (refused.0 ∙ ap Err (Some-injective also)))
          short None is =
              let refused = rw is at says in
              inr (inr refused.0)
      by None two is_one is_two says = inr (inl says.0)

  pub AreExact-from_answer : AnswersFiles Says old new f result → AreExact f old result
  AreExact-from_answer answer = record { no_first = no_first answer; long_first = long_first answer; no_second = no_second answer; wrong_files = wrong_files answer }

-- ---- two files that are there, and of which nothing is refused

-- what is answered of them, unless memory was short or a fetch failed
abbrev pub SaidOf : {A : Type 0} → (List ℕ → List ℕ → Result A Refusal → Type 0) → TwoFiles → List ℕ → List ℕ → Result A Refusal → Type 0
SaidOf Says f one two result = (result ≡ Err refusal.Memory) ⊎ ((result ≡ Err (refusal.Read f.first)) ⊎ ((result ≡ Err (refusal.Read f.second)) ⊎ Says one two result))

pub said_of_held : {A : Type 0} (Says : List ℕ → List ℕ → Result A Refusal → Type 0) (old new : Outside) (f : TwoFiles) (result : Result A Refusal) → AnswersFiles Says old new f result → (held_one held_two : List ℕ) →
    IsHeld old.shelf.files f.first_name held_one → IsHeld old.shelf.files f.second_name held_two → first_refusal f (Some held_one) (Some held_two) ≡ None → SaidOf Says f held_one held_two result
said_of_held Says old new f result answer held_one held_two held held_too accepted = from_fetches Says old new f result answer inl by
  where
    by : ByFetches Says old new f result (λ one two. SaidOf Says f held_one held_two result)
    by None two is_one is_two says = inr (inl says.0)
    by (Some one) None is_one is_two says =
        let same = same_file _ _ _ _ held is_one in
        let short : fetch_refusal f.first f.first_limit (Some held_one) ≡ None = option_or-None _ _ accepted in
        let refused = rw (same, short) at says in
        inr (inr (inl refused.0))
    by (Some one) (Some two) is_one is_two says =
        let same = same_file _ _ _ _ held is_one in
        let same_two = same_file _ _ _ _ held_too (is_two (rw same (option_or-None _ _ accepted))) in
        let said = rw (same, same_two, accepted) at says in
        inr (inr (inr said))

-- ---- nothing is wrong

-- what is said of two files of which nothing is refused: no file could not be read, and only a shelf or a sink that may fail fails
pub record IsSettled {A : Type 0} (Says : List ℕ → List ℕ → Result A Refusal → Type 0) (old new : Outside) (f : TwoFiles) : Type 0 where
  pub reads : (one two : List ℕ) (which : File) → Says one two (Err (refusal.Read which)) → ⊥
  pub done : (one two : List ℕ) (result : Result A Refusal) → (MayFail old.shelf.is_sure old.shelf.faults new.shelf.faults → ⊥) → (MayFail old.sink.is_sure old.sink.faults new.sink.faults → ⊥) → Says one two result → IsDone result
  pub refuses : (one two : List ℕ) (which : File) → f.refuses one two ≡ Some (refusal.Read which) → ⊥
  pub apart : f.first ≡ f.second → ⊥

module _ {A : Type 0} (Says : List ℕ → List ℕ → Result A Refusal → Type 0) (old new : Outside) (f : TwoFiles) where
  done_where : (result : Result A Refusal) → IsSettled Says old new f → AnswersFiles Says old new f result → (ready : AreReady f old) →
      (IsFetched old.shelf new.shelf f.first_name None → ⊥) → (IsFetched old.shelf new.shelf f.second_name None → ⊥) →
      (MayFail old.shelf.is_sure old.shelf.faults new.shelf.faults → ⊥) → (MayFail old.sink.is_sure old.sink.faults new.sink.faults → ⊥) → IsDone result
  done_where result settled answer ready has_one has_two shelf sink = from_fetches Says old new f result answer (λ short. rw short tt) by
    where
      by : ByFetches Says old new f result (λ one two. IsDone result)
      by None two is_one is_two says = absurd (has_one is_one)
      by (Some one) None is_one is_two says =
          let same = same_file _ _ _ _ ready.has_one is_one in
          absurd (has_two (is_two (rw same (option_or-None _ _ ready.accepted))))
      by (Some one) (Some two) is_one is_two says =
          let same = same_file _ _ _ _ ready.has_one is_one in
          let same_two = same_file _ _ _ _ ready.has_two (is_two (rw same (option_or-None _ _ ready.accepted))) in
          let said = rw (same, same_two, ready.accepted) at says in
          settled.done _ _ result shelf sink said

  -- ---- which file could not be read

  read_first : (which : File) (two : Option (List ℕ)) → AnswersFetched Says old new [] (unwrap_or two []) (first_refusal f None two) (Err (refusal.Read which)) → which ≡ f.first
  read_first which two says = let e = says.0 in cc

  -- a first file that was read is told neither
  not_first : (which : File) (one : List ℕ) (two : Option (List ℕ)) → IsSettled Says old new f →
      AnswersFetched Says old new one (unwrap_or two []) (first_refusal f (Some one) two) (Err (refusal.Read which)) → (which ≡ f.second) × (two ≡ None) × (fetch_refusal f.first f.first_limit (Some one) ≡ None)
  not_first which one two settled says = by_length (nat_lt f.first_limit (length one)) refl says
    where
      last : (first : Option Refusal) → f.refuses one (unwrap_or two []) ≡ first → AnswersFetched Says old new one (unwrap_or two []) first (Err (refusal.Read which)) → ⊥
      last (Some why) is said = let e = said.0 in let same : why ≡ refusal.Read which = cc in settled.refuses one (unwrap_or two []) which (is ∙ ap Some same)
      last None is said = settled.reads one (unwrap_or two []) which said

      by_two : (o : Option (List ℕ)) → two ≡ o → when (nat_lt f.first_limit (length one)) (refusal.Big f.first) ≡ None →
          AnswersFetched Says old new one (unwrap_or two []) (option_or (fetch_refusal f.second f.second_limit o) (f.refuses one (unwrap_or two []))) (Err (refusal.Read which)) →
          (which ≡ f.second) × (two ≡ None) × (fetch_refusal f.first f.first_limit (Some one) ≡ None)
      by_two None is short said = let e = said.0 in (cc, is, short)
      by_two (Some bytes) is short said = by_second (nat_lt f.second_limit (length bytes)) refl said
        where
          by_second : (long : Bool) → nat_lt f.second_limit (length bytes) ≡ long → AnswersFetched Says old new one (unwrap_or two []) (option_or (when long (refusal.Big f.second)) (f.refuses one (unwrap_or two []))) (Err (refusal.Read which)) →
              (which ≡ f.second) × (two ≡ None) × (fetch_refusal f.first f.first_limit (Some one) ≡ None)
          by_second true at said = let e = said.0 in absurd cc
          by_second false at said = absurd (last (f.refuses one (unwrap_or two [])) refl said)

      by_length : (long : Bool) → nat_lt f.first_limit (length one) ≡ long →
          AnswersFetched Says old new one (unwrap_or two []) (option_or (when long (refusal.Big f.first)) (option_or (fetch_refusal f.second f.second_limit two) (f.refuses one (unwrap_or two [])))) (Err (refusal.Read which)) →
          (which ≡ f.second) × (two ≡ None) × (fetch_refusal f.first f.first_limit (Some one) ≡ None)
      by_length true at said = let e = said.0 in absurd cc
      by_length false at said = by_two two refl (rw at refl) said

  sure_first : (result : Result A Refusal) → IsSettled Says old new f → AnswersFiles Says old new f result → IsTrue old.shelf.is_sure → result ≡ Err (refusal.Read f.first) → IfSome old.shelf.files (λ files. get files f.first_name ≡ None)
  sure_first result settled answer sure is = from_fetches Says old new f result answer (λ short. absurd cc) by
    where
      by : ByFetches Says old new f result (λ one two. IfSome old.shelf.files (λ files. get files f.first_name ≡ None))
      by None two is_one is_two says = is_one.1 sure
      by (Some one) two is_one is_two says = absurd (settled.apart (not_first f.first one two settled (rw is at says)).0)

  sure_second : (result : Result A Refusal) → IsSettled Says old new f → AnswersFiles Says old new f result → IsTrue old.shelf.is_sure → result ≡ Err (refusal.Read f.second) → IfSome old.shelf.files (λ files. get files f.second_name ≡ None)
  sure_second result settled answer sure is = from_fetches Says old new f result answer (λ short. absurd cc) by
    where
      by : ByFetches Says old new f result (λ one two. IfSome old.shelf.files (λ files. get files f.second_name ≡ None))
      by None two is_one is_two says = absurd (settled.apart (sym (read_first f.second two (rw is at says))))
      by (Some one) two is_one is_two says =
          let told = not_first f.second one two settled (rw is at says) in
          (subst (λ o. IsFetched old.shelf new.shelf f.second_name o) told.1 (is_two told.2)).1 sure

  pub AreComplete-from_answer : (result : Result A Refusal) → IsSettled Says old new f → AnswersFiles Says old new f result → AreComplete f old new result
  AreComplete-from_answer result settled answer = record {
    without_faults = λ ready no_shelf no_sink. done_where result settled answer ready (λ failed. no_shelf failed.0) (λ failed. no_shelf failed.0) (λ failed. no_shelf failed.0) (λ failed. no_sink failed.0);
    where_sure = λ ready shelf sink.
        done_where result settled answer ready (λ failed. not_missing _ _ _ ready.has_one (failed.1 shelf)) (λ failed. not_missing _ _ _ ready.has_two (failed.1 shelf)) (λ failed. failed.1 shelf) (λ failed. failed.1 sink);
    sure_first = sure_first result settled answer;
    sure_second = sure_second result settled answer;
  }

-- ---- where memory was short, each cause yields

pub AreExact-lacking : {A : Type 0} (old : Outside) (f : TwoFiles) (result : Result A Refusal) → result ≡ Err refusal.Memory → AreExact f old result
AreExact-lacking old f result short = record {
  no_first = λ missing. inr short;
  long_first = λ one why held long. inl (inr short);
  no_second = λ one held fits missing. inl (inr short);
  wrong_files = λ one two why held held_too wrong. inl (inr short);
}

pub AreComplete-lacking : {A : Type 0} (old new : Outside) (f : TwoFiles) (result : Result A Refusal) → result ≡ Err refusal.Memory → AreComplete f old new result
AreComplete-lacking old new f result short = record {
  without_faults = λ ready no_shelf no_sink. rw short tt;
  where_sure = λ ready shelf sink. rw short tt;
  sure_first = λ sure is. absurd cc;
  sure_second = λ sure is. absurd cc;
}

-- ---- failed writes

-- a failed write is answered only where nothing was refused
pub failed_write : {A : Type 0} (Says : List ℕ → List ℕ → Result A Refusal → Type 0) (old new : Outside) (f : TwoFiles) (which : File) → ((one two : List ℕ) → f.refuses one two ≡ Some (refusal.Write which) → ⊥) →
    ((one two : List ℕ) → Says one two (Err (refusal.Write which)) → ⊥) → AnswersFiles Says old new f (Err (refusal.Write which)) → ⊥
failed_write Says old new f which no_refusal none answer = ⊎_elim (λ lacks. let e = lacks.0 in absurd cc) (λ came. by_one came.0.one came.0.two came.1) answer
  where
    last : (one two : List ℕ) (first : Option Refusal) → f.refuses one two ≡ first → AnswersFetched Says old new one two first (Err (refusal.Write which)) → ⊥
    last one two (Some why) is said = let e = said.0 in let same : why ≡ refusal.Write which = cc in no_refusal one two (is ∙ ap Some same)
    last one two None is said = none one two said

    by_second : (one bytes : List ℕ) (long : Bool) → AnswersFetched Says old new one bytes (option_or (when long (refusal.Big f.second)) (f.refuses one bytes)) (Err (refusal.Write which)) → ⊥
    by_second one bytes true said = let e = said.0 in absurd cc
    by_second one bytes false said = last one bytes (f.refuses one bytes) refl said

    by_two : (one : List ℕ) (two : Option (List ℕ)) → AnswersFetched Says old new one (unwrap_or two []) (option_or (fetch_refusal f.second f.second_limit two) (f.refuses one (unwrap_or two []))) (Err (refusal.Write which)) → ⊥
    by_two one None said = let e = said.0 in absurd cc
    by_two one (Some bytes) said = by_second one bytes (nat_lt f.second_limit (length bytes)) said

    by_length : (one : List ℕ) (two : Option (List ℕ)) (long : Bool) →
        AnswersFetched Says old new one (unwrap_or two []) (option_or (when long (refusal.Big f.first)) (option_or (fetch_refusal f.second f.second_limit two) (f.refuses one (unwrap_or two [])))) (Err (refusal.Write which)) → ⊥
    by_length one two true said = let e = said.0 in absurd cc
    by_length one two false said = by_two one two said

    by_one : (one two : Option (List ℕ)) → AnswersFetched Says old new (unwrap_or one []) (unwrap_or two []) (first_refusal f one two) (Err (refusal.Write which)) → ⊥
    by_one None two said = let e = said.0 in absurd cc
    by_one (Some one) two said = by_length one two (nat_lt f.first_limit (length one)) said
