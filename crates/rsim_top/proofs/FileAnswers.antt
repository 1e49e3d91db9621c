-- What a command answers of the two files that it fetches, from what the fetches answered.
use Rattle.std.proofs.Common.{◌≡◌, ◌⊎◌, ℕ, ◌≤◌, IsTrue, List, Option, Some, None, Result, Ok, Err, Vec, IfSome, ⊎_elim, inl, inr, subst, refl, sym, ap, ◌∙◌, arith}
use Rattle.std.specs.FinMap.{get}
use Rattle.rsim_io.specs.Faults.{Rose}
use Rattle.rsim_top.specs.declared.refusal.Refusal.{Refusal}
use Rattle.rsim_top.specs.declared.refusal.Refusal.TheVariants as refusal
use Rattle.rsim_top.specs.Outside.{Shelf, Sink, outside, IsUntouched}
use Rattle.rsim_top.specs.Parts.{Fetches, Kept}
use Rattle.rsim_top.specs.TwoFiles.{TwoFiles, IsFetched, fetch_refusal, Fetched, first_refusal, AnswersFetched, AnswersFiles}

-- ---- what lies before and behind a call

-- a count that rose in between rose over the whole
pub Rose-within : (old a b new : ℕ) → old ≤ a → b ≤ new → Rose a b → Rose old new
Rose-within old a b new before after rose = omega arith

-- what a fetch came to, seen from before and from behind it
IsFetched-within : (old a b new : Shelf) (name : List ℕ) (came : Option (List ℕ)) → a.files ≡ old.files → Kept old a → Kept b new → IsFetched a b name came → IsFetched old new name came
IsFetched-within old a b new name (Some bytes) files before after is = subst (λ told. IfSome told (λ fs. get fs name ≡ Some bytes)) files is
IsFetched-within old a b new name None files before after is =
    (Rose-within _ _ _ _ before.faults after.faults is.0, λ sure. subst (λ told. IfSome told (λ fs. get fs name ≡ None)) files (is.1 (subst IsTrue (sym before.is_sure) sure)))

pub Kept-same : (s : Shelf) → Kept s s
Kept-same s = record { faults = omega arith; is_sure = refl }

pub Kept-both : (a b c : Shelf) → Kept a b → Kept b c → Kept a c
Kept-both a b c first next = record { faults = let x = first.faults in let y = next.faults in omega arith; is_sure = next.is_sure ∙ first.is_sure }

-- ---- a file could not be fetched

-- why a fetch was refused
abbrev pub FetchFails : Shelf → Shelf → List ℕ → (Option (List ℕ) → Option Refusal) → Refusal → Type 0
FetchFails old new name refused why = (why ≡ refusal.Memory) ⊎ ((came : Option (List ℕ)) × IsFetched old new name came × (refused came ≡ Some why))

pub no_first_file : {A : Type 0} (Says : List ℕ → List ℕ → Result A Refusal → Type 0) (s0 s1 : Shelf) (k : Sink) (f : TwoFiles) (why : Refusal) → s1.files ≡ s0.files →
    FetchFails s0 s1 f.first_name (fetch_refusal f.first f.first_limit) why → AnswersFiles Says (outside s0 k) (outside s1 k) f (Err why)
no_first_file Says s0 s1 k f why same fails =
    ⊎_elim (λ memory. inl (ap Err memory, untouched)) (λ is. inr (came is, rw is.2 (refl, untouched))) fails
  where
    untouched : IsUntouched (outside s0 k) (outside s1 k)
    untouched = record { files = same; written = refl }

    came : (is : (came : Option (List ℕ)) × IsFetched s0 s1 f.first_name came × (fetch_refusal f.first f.first_limit came ≡ Some why)) → Fetched (outside s0 k) (outside s1 k) f
    came is = record { one = is.0; two = None; is_one = is.1; is_two = λ none. let some = is.2 in absurd cc }

pub no_second_file : {A : Type 0} (Says : List ℕ → List ℕ → Result A Refusal → Type 0) (s0 s1 s2 : Shelf) (k : Sink) (f : TwoFiles) (one : List ℕ) (why : Refusal) → s1.files ≡ s0.files → s2.files ≡ s1.files →
    Kept s0 s1 → Kept s1 s2 → IsFetched s0 s1 f.first_name (Some one) → fetch_refusal f.first f.first_limit (Some one) ≡ None →
    FetchFails s1 s2 f.second_name (fetch_refusal f.second f.second_limit) why → AnswersFiles Says (outside s0 k) (outside s2 k) f (Err why)
no_second_file Says s0 s1 s2 k f one why same same_too first next is_one short fails =
    ⊎_elim (λ memory. inl (ap Err memory, untouched)) (λ is. inr (came is, rw (short, is.2) (refl, untouched))) fails
  where
    untouched : IsUntouched (outside s0 k) (outside s2 k)
    untouched = record { files = same_too ∙ same; written = refl }

    came : (is : (came : Option (List ℕ)) × IsFetched s1 s2 f.second_name came × (fetch_refusal f.second f.second_limit came ≡ Some why)) → Fetched (outside s0 k) (outside s2 k) f
    came is = record {
      one = Some one;
      two = is.0;
      is_one = IsFetched-within s0 s0 s1 s2 f.first_name (Some one) refl (Kept-same s0) next is_one;
      is_two = λ none. IsFetched-within s0 s1 s2 s2 f.second_name is.0 same first (Kept-same s2) is.1;
    }

-- ---- both files were fetched

pub record Both (s0 s1 s2 : Shelf) (f : TwoFiles) (one two : List ℕ) : Type 0 where
  pub same : s1.files ≡ s0.files
  pub same_too : s2.files ≡ s1.files
  pub before : Kept s0 s1
  pub behind : Kept s1 s2
  pub is_one : IsFetched s0 s1 f.first_name (Some one)
  pub short_one : fetch_refusal f.first f.first_limit (Some one) ≡ None
  pub is_two : IsFetched s1 s2 f.second_name (Some two)
  pub short_two : fetch_refusal f.second f.second_limit (Some two) ≡ None

pub Both-from : {Z : Type 0} (s0 s1 s2 : Shelf) (f : TwoFiles) (one two : Vec ℕ Z) → s1.files ≡ s0.files → s2.files ≡ s1.files → Kept s0 s1 → Kept s1 s2 →
    Fetches s0 s1 f.first f.first_limit f.first_name (Ok one) → Fetches s1 s2 f.second f.second_limit f.second_name (Ok two) → Both s0 s1 s2 f one.items two.items
Both-from s0 s1 s2 f one two same same_too before behind got_one got_two = record {
  same = same;
  same_too = same_too;
  before = before;
  behind = behind;
  is_one = got_one.0;
  short_one = got_one.1;
  is_two = got_two.0;
  short_two = got_two.1;
}

-- the files before and behind both fetches are the same, and so is the shelf but for its count of faults
pub unchanged : (s0 s1 s2 : Shelf) (f : TwoFiles) (one two : List ℕ) → Both s0 s1 s2 f one two → s2.files ≡ s0.files
unchanged s0 s1 s2 f one two both = both.same_too ∙ both.same

pub Kept-fetched : (s0 s1 s2 : Shelf) (f : TwoFiles) (one two : List ℕ) → Both s0 s1 s2 f one two → Kept s0 s2
Kept-fetched s0 s1 s2 f one two both = Kept-both s0 s1 s2 both.before both.behind

-- what is answered then, by what is refused of the two
both_fetched : {A : Type 0} (Says : List ℕ → List ℕ → Result A Refusal → Type 0) (s0 s1 s2 s3 : Shelf) (k0 k1 : Sink) (f : TwoFiles) (one two : List ℕ) (why : Option Refusal) (result : Result A Refusal) →
    Both s0 s1 s2 f one two → Kept s2 s3 → f.refuses one two ≡ why → AnswersFetched Says (outside s0 k0) (outside s3 k1) one two why result → AnswersFiles Says (outside s0 k0) (outside s3 k1) f result
both_fetched Says s0 s1 s2 s3 k0 k1 f one two why result both later is says = inr (came, subst (λ r. AnswersFetched Says (outside s0 k0) (outside s3 k1) one two r result) (sym path) says)
  where
    came : Fetched (outside s0 k0) (outside s3 k1) f
    came = record {
      one = Some one;
      two = Some two;
      is_one = IsFetched-within s0 s0 s1 s3 f.first_name (Some one) refl (Kept-same s0) (Kept-both s1 s2 s3 both.behind later) both.is_one;
      is_two = λ none. IsFetched-within s0 s1 s2 s3 f.second_name (Some two) both.same both.before later both.is_two;
    }

    path : first_refusal f (Some one) (Some two) ≡ why
    path = rw (both.short_one, both.short_two) is

-- one of them was refused for what it has, or memory was short
pub both_refused : {A : Type 0} (Says : List ℕ → List ℕ → Result A Refusal → Type 0) (s0 s1 s2 : Shelf) (k : Sink) (f : TwoFiles) (one two : List ℕ) (why : Refusal) → Both s0 s1 s2 f one two →
    (why ≡ refusal.Memory) ⊎ (f.refuses one two ≡ Some why) → AnswersFiles Says (outside s0 k) (outside s2 k) f (Err why)
both_refused Says s0 s1 s2 k f one two why both fails =
    ⊎_elim (λ memory. inl (ap Err memory, untouched)) (λ is. both_fetched Says s0 s1 s2 s2 k k f one two (Some why) (Err why) both (Kept-same s2) is (refl, untouched)) fails
  where
    untouched : IsUntouched (outside s0 k) (outside s2 k)
    untouched = record { files = both.same_too ∙ both.same; written = refl }

-- nothing was refused of them
pub both_accepted : {A : Type 0} (Says : List ℕ → List ℕ → Result A Refusal → Type 0) (s0 s1 s2 s3 : Shelf) (k0 k1 : Sink) (f : TwoFiles) (one two : List ℕ) (result : Result A Refusal) → Both s0 s1 s2 f one two → Kept s2 s3 →
    f.refuses one two ≡ None → Says one two result → AnswersFiles Says (outside s0 k0) (outside s3 k1) f result
both_accepted Says s0 s1 s2 s3 k0 k1 f one two result both later is says = both_fetched Says s0 s1 s2 s3 k0 k1 f one two None result both later is says
