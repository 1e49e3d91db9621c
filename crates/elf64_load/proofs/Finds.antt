-- The first element that passes a test, where no more than one does.
use Rattle.std.proofs.Common.{◌≡◌, ℕ, zero, suc, ◌+◌, ◌<◌, ◌≤◌, Bool, true, false, ◌&&◌, cond, List, [], ◌∷◌, length, get_or, map, filter, count_by, Some, None, is_some, option_map, refl, ap, sym, ◌∙◌, inl, inr, arith}
use denote.Ref.{Bor}
use Rattle.std.specs.Bool.{then_some}
use Rattle.std.specs.Option.{option_copied}
use Rattle.std.specs.List.{All, Contains, find, list_any}
use Rattle.std.proofs.lemmas.Bool.{cases_Bool, false≢true, cond-true, cond-false}
use Rattle.std.proofs.lemmas.List.Elements.{All-tail}
use Rattle.std.proofs.lemmas.List.Sums.{sum_by-cons}
use Rattle.std.proofs.lemmas.Map.Entries.{option_filter}

-- how many pass, by whether the first does
pub count-yes : {X : Type 0} (p : X → Bool) (x : X) (xs : List X) → p x ≡ true → count_by p (x ∷ xs) ≡ 1 + count_by p xs
count-yes p x xs e = sum_by-cons (λ y. cond (p y) 1 0) x xs ∙ ap (λ b. cond b 1 0 + count_by p xs) e

pub count-no : {X : Type 0} (p : X → Bool) (x : X) (xs : List X) → p x ≡ false → count_by p (x ∷ xs) ≡ count_by p xs
count-no p x xs e =
    let step : count_by p (x ∷ xs) ≡ 0 + count_by p xs =
    sum_by-cons (λ y. cond (p y) 1 0) x xs ∙ ap (λ b. cond b 1 0 + count_by p xs) e in
    omega (arith, step)

pub count-tail : {X : Type 0} (p : X → Bool) (x : X) (xs : List X) → count_by p xs ≤ count_by p (x ∷ xs)
count-tail p x xs =
    elim (cases_Bool (p x)) [
      | inl pass ↦ omega (arith, count-yes p x xs pass)
      | inr fail ↦ omega (arith, count-no p x xs fail)
    ]

-- one that passes is counted
pub count-one : {X : Type 0} (p : X → Bool) (xs : List X) (i : ℕ) (d : X) → i < length xs → p (get_or xs i d) ≡ true → 1 ≤ count_by p xs
count-one p [] i d h e = absurd (omega arith)
count-one p (x ∷ xs) zero d h e = omega (arith, count-yes p x xs e)
count-one p (x ∷ xs) (suc i) d h e =
    let one = count-one p xs i d (omega arith) e in omega (arith, one, count-tail p x xs)

-- and so are two
pub count-two : {X : Type 0} (p : X → Bool) (xs : List X) (i j : ℕ) (d : X) → i < j → j < length xs → p (get_or xs i d) ≡ true → p (get_or xs j d) ≡ true → 2 ≤ count_by p xs
count-two p [] i j d l h e f = absurd (omega arith)
count-two p (x ∷ xs) i zero d l h e f = absurd (omega arith)
count-two p (x ∷ xs) zero (suc j) d l h e f =
    let one = count-one p xs j d (omega arith) f in omega (arith, one, count-yes p x xs e)
count-two p (x ∷ xs) (suc i) (suc j) d l h e f =
    let two = count-two p xs i j d (omega arith) (omega arith) e f in omega (arith, two, count-tail p x xs)

pub find-none : {X : Type 0} (p : X → Bool) (xs : List X) → All (λ x. p x ≡ false) xs → find p xs ≡ None
find-none p [] all = refl
find-none p (x ∷ xs) all =
    cond-false (p x) (Some x) (find p xs) (all 0 x (omega arith))
    ∙ find-none p xs (All-tail (λ y. p y ≡ false) x xs all)

-- where no more than one passes, one that does is the first
pub find-only : {X : Type 0} (p : X → Bool) (xs : List X) (i : ℕ) (d : X) → i < length xs → p (get_or xs i d) ≡ true → count_by p xs ≤ 1 → find p xs ≡ Some (get_or xs i d)
find-only p [] i d h e once = absurd (omega arith)
find-only p (x ∷ xs) zero d h e once = cond-true (p x) (Some x) (find p xs) e
find-only p (x ∷ xs) (suc i) d h e once =
    elim (cases_Bool (p x)) [
      | inl pass ↦ let one = count-one p xs i d (omega arith) e in absurd (omega (arith, one, count-yes p x xs pass))
      | inr fail ↦ cond-false (p x) (Some x) (find p xs) fail ∙ find-only p xs i d (omega arith) e (omega (arith, once, count-no p x xs fail))
    ]

-- where none passes, the first to pass a test that asks more is none
pub find-none-count : {X : Type 0} (q p : X → Bool) → ((x : X) → q x ≡ true → p x ≡ true) → (xs : List X) → count_by p xs ≡ 0 → find q xs ≡ None
find-none-count q p more [] none = refl
find-none-count q p more (x ∷ xs) none =
    elim (cases_Bool (q x)) [
      | inl pass ↦ absurd (omega (arith, none, count-yes p x xs (more x pass)))
      | inr fail ↦ cond-false (q x) (Some x) (find q xs) fail ∙ find-none-count q p more xs (let t = count-tail p x xs in omega (arith, none, t))
    ]

-- the first to pass a test that asks more is the first one, if that passes
pub find-under : {X : Type 0} (q p : X → Bool) → ((x : X) → q x ≡ true → p x ≡ true) → (xs : List X) → count_by p xs ≤ 1 → find q xs ≡ option_filter q (find p xs)
find-under q p more [] once = refl
find-under q p more (x ∷ xs) once =
    elim (cases_Bool (p x)) [
      | inl pass ↦ let none : count_by p xs ≡ 0 = omega (arith, once, count-yes p x xs pass) in
          ap (λ r. cond (q x) (Some x) r) (find-none-count q p more xs none) ∙ ap (option_filter q) (sym (cond-true (p x) (Some x) (find p xs) pass))
      | inr fail ↦ elim (cases_Bool (q x)) [
        | inl asks ↦ absurd (false≢true (sym fail ∙ more x asks))
        | inr not_q ↦ cond-false (q x) (Some x) (find q xs) not_q
            ∙ find-under q p more xs (omega (arith, once, count-no p x xs fail))
            ∙ ap (option_filter q) (sym (cond-false (p x) (Some x) (find p xs) fail))
      ]
    ]

-- an element passes where there is a first to pass
pub any-find : {X : Type 0} (q : X → Bool) (xs : List X) → list_any q xs ≡ is_some (find q xs)
any-find q [] = refl
any-find q (x ∷ xs) =
    elim (cases_Bool (q x)) [
      | inl pass ↦ rw pass refl
      | inr fail ↦ rw fail (any-find q xs)
    ]

-- the first among what f makes of those that are kept, where the test passes at no other
pub find-kept : {X Y : Type 0} (q : Y → Bool) (f : X → Y) (keep p : X → Bool) (xs : List X) → All (λ x. p x ≡ (keep x && q (f x))) xs → find q (map f (filter keep xs)) ≡ option_map f (find p xs)
find-kept q f keep p [] all = refl
find-kept q f keep p (x ∷ xs) all =
    let here : p x ≡ (keep x && q (f x)) = all 0 x (omega arith) in
    let later = find-kept q f keep p xs (All-tail (λ y. p y ≡ (keep y && q (f y))) x xs all) in
    elim (cases_Bool (keep x)) [
      | inl kept ↦ elim (cases_Bool (q (f x))) [
        | inl pass ↦ let passes : p x ≡ true = here ∙ rw (kept, pass) refl in rw (kept, pass, passes) refl
        | inr fail ↦ let fails : p x ≡ false = here ∙ rw (kept, fail) refl in rw (kept, fail, fails) later
      ]
      | inr left ↦ let fails : p x ≡ false = here ∙ rw left refl in rw (left, fails) later
    ]

pub count-none : {X : Type 0} (p : X → Bool) (xs : List X) → find p xs ≡ None → count_by p xs ≡ 0
count-none p [] e = refl
count-none p (x ∷ xs) e =
    elim (cases_Bool (p x)) [
      | inl pass ↦ let found : Some x ≡ None = sym (cond-true (p x) (Some x) (find p xs) pass) ∙ e in cc
      | inr fail ↦ count-no p x xs fail
          ∙ count-none p xs (sym (cond-false (p x) (Some x) (find p xs) fail) ∙ e)
    ]

-- what is found is in the list, and passes
pub found-in : {X : Type 0} (p : X → Bool) (xs : List X) (y : X) → find p xs ≡ Some y → Contains xs y × (p y ≡ true)
found-in p [] y e = cc
found-in p (x ∷ xs) y e =
    elim (cases_Bool (p x)) [
      | inl pass ↦ let same : Some x ≡ Some y = sym (cond-true (p x) (Some x) (find p xs) pass) ∙ e in
          let it : x ≡ y = cc in
          ((zero, omega arith, it), ap p (sym it) ∙ pass)
      | inr fail ↦ let later = found-in p xs y (sym (cond-false (p x) (Some x) (find p xs) fail) ∙ e) in
          ((suc later.0.0, omega (arith, later.0.1), later.0.2), later.1)
    ]

-- an element that is answered if a test passes
pub copied-then_some : {X : Type 0} (b : Bool) (r : Bor X) → option_copied (then_some b r) ≡ cond b (Some r.now) None
copied-then_some true r = refl
copied-then_some false r = refl
