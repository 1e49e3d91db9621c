-- What each change of the accesses does to the sets of their places.
use Rattle.std.proofs.Common.{◌≡◌, ◌≢◌, ℕ, zero, suc, ◌+◌, ◌%◌, ◌<◌, ◌≤◌, ◌==◌, nat_lt, Bool, true, false, cond, not, ◌&&◌, List, [], ◌∷◌, ◌++◌, length, set, take, drop, None, slice_get, refl, sym, ap, subst, ◌∙◌, ⊎_elim, arith}
use Rattle.std.specs.Option.{option_map_or}
use Rattle.std.proofs.lemmas.Bool.{cases_eq, cases_lt, cond-true, cond-false, eq-eqb, ne_eqb, lt-ltb, le-ltb}
use Rattle.list_facts.specs.Places.{slice_get-set_same, slice_get-set_other, slice_get_last}
use Rattle.ring_set.specs.Sets.{aged, greatest, has, least, place_at}
use Rattle.ring_set.specs.Firsts.{TellsGreatest, TellsLeast, tells-greatest, tells-least}
use Rattle.ring_set.specs.declared.set.Places.{Places}
use Rattle.memory_queue.specs.Steps.{IsNext, IsPrevious}
use Rattle.memory_queue.specs.Rows.{IsRow, passes_at}
use Rattle.memory_queue.specs.declared.queued.Queued.{Queued}

-- ---- lists

slice_get-more_other : (xs : List Queued) (y : Queued) (j : ℕ) → j ≢ length xs → slice_get (xs ++ y ∷ []) j ≡ slice_get xs j
slice_get-more_other [] y zero other = absurd (other refl)
slice_get-more_other [] y (suc j) other = refl
slice_get-more_other (x ∷ xs) y zero other = refl
slice_get-more_other (x ∷ xs) y (suc j) other = slice_get-more_other xs y j (λ e. other (ap suc e))

slice_get-first_gone : (xs : List Queued) (j : ℕ) → slice_get (drop 1 xs) j ≡ slice_get xs (suc j)
slice_get-first_gone [] j = refl
slice_get-first_gone (x ∷ xs) j = refl

slice_get_past : (xs : List Queued) (j : ℕ) → length xs ≤ j → slice_get xs j ≡ None
slice_get_past [] j past = refl
slice_get_past (x ∷ xs) zero past = absurd (omega (arith, past))
slice_get_past (x ∷ xs) (suc j) past = slice_get_past xs j (omega (arith, past))

slice_get-take_below : (n : ℕ) (xs : List Queued) (j : ℕ) → j < n → slice_get (take n xs) j ≡ slice_get xs j
slice_get-take_below zero xs j below = absurd (omega (arith, below))
slice_get-take_below (suc n) [] j below = refl
slice_get-take_below (suc n) (x ∷ xs) zero below = refl
slice_get-take_below (suc n) (x ∷ xs) (suc j) below = slice_get-take_below n xs j (omega (arith, below))

slice_get-take_past : (n : ℕ) (xs : List Queued) (j : ℕ) → n ≤ j → slice_get (take n xs) j ≡ None
slice_get-take_past zero xs j past = refl
slice_get-take_past (suc n) [] j past = refl
slice_get-take_past (suc n) (x ∷ xs) zero past = absurd (omega (arith, past))
slice_get-take_past (suc n) (x ∷ xs) (suc j) past = slice_get-take_past n xs j (omega (arith, past))

passes-take : (test : Queued → Bool) (n : ℕ) (xs : List Queued) (j : ℕ) → passes_at test (take n xs) j ≡ (passes_at test xs j && nat_lt j n)
passes-take test n xs j =
    ⊎_elim
    (λ (below : j < n). ap (λ o. option_map_or test o false) (slice_get-take_below n xs j below) ∙ sym (ap (λ b. passes_at test xs j && b) (lt-ltb _ _ below) ∙ both (passes_at test xs j)))
    (λ (past : n ≤ j). ap (λ o. option_map_or test o false) (slice_get-take_past n xs j past) ∙ sym (ap (λ b. passes_at test xs j && b) (le-ltb _ _ past) ∙ neither (passes_at test xs j)))
    (cases_lt j n)
  where
    both : (b : Bool) → (b && true) ≡ b
    both true = refl
    both false = refl

    neither : (b : Bool) → (b && false) ≡ false
    neither true = refl
    neither false = refl

-- ---- sets

module _ (test : Queued → Bool) (was new : Places) (head : ℕ) where
  row-put : (k : ℕ) (b : Bool) (xs ys : List Queued) → k < 128 → ((j : ℕ) → has new j ≡ cond (j == (head + k) % 128) b (has was j)) → IsRow was head test xs →
      passes_at test ys k ≡ b → ((j : ℕ) → j ≢ k → slice_get ys j ≡ slice_get xs j) → IsRow new head test ys
  unfolding place_at
  row-put k b xs ys below is row here others j lt =
      ⊎_elim
      (λ (e : j ≡ k).
      let same : (head + j) % 128 ≡ (head + k) % 128 = ap (λ i. (head + i) % 128) e in
      is ((head + j) % 128) ∙ (cond-true _ b _ (eq-eqb _ _ same) ∙ (sym here ∙ ap (passes_at test ys) (sym e))))
      (λ (ne : j ≡ k → ⊥).
      let apart : (head + j) % 128 ≢ (head + k) % 128 = λ e. ne (omega (arith, e, lt, below)) in
      is ((head + j) % 128) ∙ (cond-false _ b _ (ne_eqb _ _ apart) ∙ (row j lt ∙ ap (λ o. option_map_or test o false) (sym (others j ne)))))
      (cases_eq j k)

  pub row-set : (k : ℕ) (x : Queued) (xs : List Queued) → k < 128 → k < length xs → ((j : ℕ) → has new j ≡ cond (j == (head + k) % 128) (test x) (has was j)) → IsRow was head test xs → IsRow new head test (set xs k x)
  row-set k x xs below within is row =
      row-put k (test x) xs (set xs k x) below is row (ap (λ o. option_map_or test o false) (slice_get-set_same xs k x within)) (λ j ne. slice_get-set_other xs k j x ne)

  pub row-push : (k : ℕ) (x : Queued) (xs : List Queued) → k < 128 → k ≡ length xs → ((j : ℕ) → has new j ≡ cond (j == (head + k) % 128) (test x) (has was j)) → IsRow was head test xs → IsRow new head test (xs ++ x ∷ [])
  row-push k x xs below last is row =
      row-put k (test x) xs (xs ++ x ∷ []) below is row (ap (λ o. option_map_or test o false) (ap (slice_get (xs ++ x ∷ [])) last ∙ slice_get_last xs x)) (λ j ne. slice_get-more_other xs x j (λ e. ne (e ∙ sym last)))

  pub row-pop : (xs : List Queued) → head < 128 → length xs ≤ 128 → ((j : ℕ) → has new j ≡ (not (j == head) && has was j)) → IsRow was head test xs → IsRow new ((head + 1) % 128) test (drop 1 xs)
  unfolding place_at
  row-pop xs in_range small is row k lt =
      ⊎_elim
      (λ (below : k < 127).
      let place : ((head + 1) % 128 + k) % 128 ≡ (head + suc k) % 128 = omega arith in
      let other : (head + suc k) % 128 ≢ head = λ e. absurd (omega (arith, e, below, in_range)) in
      ap (has new) place ∙ (is ((head + suc k) % 128) ∙ (ap (λ b. not b && has was ((head + suc k) % 128)) (ne_eqb _ _ other) ∙ (row (suc k) (omega (arith, below)) ∙ ap (λ o. option_map_or test o false) (sym (slice_get-first_gone xs k))))))
      (λ (last : 127 ≤ k).
      let place : ((head + 1) % 128 + k) % 128 ≡ head = omega (arith, last, lt, in_range) in
      let gone : slice_get xs (suc k) ≡ None = slice_get_past xs (suc k) (omega (arith, small, last)) in
      ap (has new) place ∙ (is head ∙ (ap (λ b. not b && has was head) (eq-eqb head head refl) ∙ ap (λ o. option_map_or test o false) (sym (slice_get-first_gone xs k ∙ gone)))))
      (cases_lt k 127)

  pub row-cut : (run : Places) (n : ℕ) (xs : List Queued) → ((j : ℕ) → has new j ≡ (has was j && has run j)) → ((k : ℕ) → k < 128 → aged run head k ≡ nat_lt k n) → IsRow was head test xs → IsRow new head test (take n xs)
  row-cut run n xs is first row k lt =
      is (place_at head k) ∙ (ap (λ b. b && has run (place_at head k)) (row k lt) ∙ (ap (λ b. passes_at test xs k && b) (first k lt) ∙ sym (passes-take test n xs k)))

-- ---- the next and the one before

left-of : (b d : Bool) → (b && d) ≡ true → b ≡ true
left-of true d both = refl
left-of false d both = both

not-false : (b : Bool) → not b ≡ true → b ≡ false
not-false true is = absurd cc
not-false false is = refl

right-of : (b d : Bool) → (b && d) ≡ true → d ≡ true
right-of true d both = both
right-of false d both = absurd cc

off : (b : Bool) → (b && true) ≡ false → b ≡ false
off true is = is
off false is = refl

pub next-of : (all later run : Places) (head from k : ℕ) → ((j : ℕ) → has later j ≡ (has all j && not (has run j))) → ((j : ℕ) → j < 128 → aged run head j ≡ nat_lt j from) →
    k ≡ least (aged later head) 128 → IsNext (aged all head) from 128 k
next-of all later run head from k is first least_is =
    let tells : TellsLeast (aged later head) 128 k = subst (TellsLeast (aged later head) 128) (sym least_is) (tells-least (aged later head) 128) in
    let each = λ (j : ℕ) (lt : j < 128). is (place_at head j) ∙ ap (λ b. aged all head j && not b) (first j lt) in
    record {
      within = tells.within;
      there = λ lt. left-of _ _ (sym (each k lt) ∙ tells.there lt);
      behind = λ small. ⊎_elim
          (λ (before : k < from).
          let lt : k < 128 = omega (arith, before, small) in
          let out : nat_lt k from ≡ false = not-false _ (right-of (aged all head k) _ (sym (each k lt) ∙ tells.there lt)) in
          absurd (let in_run : nat_lt k from ≡ true = lt-ltb _ _ before in cc))
          (λ (past : from ≤ k). past)
          (cases_lt k from);
      before = λ j past below.
          let lt : j < 128 = omega (arith, below, tells.within) in
          off (aged all head j) (sym (each j lt ∙ ap (λ b. aged all head j && not b) (le-ltb _ _ past)) ∙ tells.before j below);
    }

pub previous-of : (all : Places) (head n k : ℕ) → k ≡ greatest (aged all head) n → IsPrevious (aged all head) n k
previous-of all head n k is =
    let tells : TellsGreatest (aged all head) n k = subst (TellsGreatest (aged all head) n) (sym is) (tells-greatest (aged all head) n) in
    record { within = tells.within; there = tells.there; behind = tells.behind }

-- the set with a place where a test that is alike passes
pub with-test : (was new : Places) (place : ℕ) (b d : Bool) → b ≡ d → ((j : ℕ) → has new j ≡ cond (j == place) b (has was j)) → (j : ℕ) → has new j ≡ cond (j == place) d (has was j)
with-test was new place b d same is j = is j ∙ ap (λ c. cond (j == place) c (has was j)) same

-- a set by ages has the same row
pub row-turned : (test : Queued → Bool) (was turned : Places) (head : ℕ) (xs : List Queued) → IsRow was head test xs → ((k : ℕ) → k < 128 → has turned k ≡ aged was head k) → IsRow turned 0 test xs
unfolding place_at
row-turned test was turned head xs row turn k lt = let same : (0 + k) % 128 ≡ k = omega arith in ap (has turned) same ∙ (turn k lt ∙ row k lt)
