-- Lists with gaps: what stands at the ages that pass, oldest first.
use Rattle.std.proofs.Common.{◌≡◌, ℕ, zero, suc, ◌+◌, ◌<◌, ◌≤◌, ◌==◌, nat_le, nat_lt, Bool, true, false, cond, ◌&&◌, ◌||◌, List, [], ◌∷◌, ◌++◌, length, map, Some, None, refl, sym, ap, ◌∙◌, arith}
use Rattle.std.specs.List.{All, filter, find}
use Rattle.std.proofs.lemmas.Bool.{true≢false, false≢true, cond-true, cond-false}
use Rattle.std.proofs.lemmas.Bool.Decides.{nat_tests}
use Rattle.std.proofs.lemmas.List.Elements.{All-head, All-tail}
use Rattle.ring_set.specs.Sets.{how_many}
use Rattle.issue_queue.specs.Tables.{listed}

-- a test and a list after it, as at one step of a list with gaps
abbrev put_if : {X : Type 0} → Bool → X → List X → List X
put_if b x xs = cond b (x ∷ xs) xs

-- s is among the n numbers from low on
abbrev pub is_in : ℕ → ℕ → ℕ → Bool
is_in low n s = nat_le low s && nat_lt s (low + n)

in-above : (n s : ℕ) → n ≤ s → is_in 0 n s ≡ false
in-above n s le = grind (arith, nat_tests)

in-below : (n s : ℕ) → s < n → is_in 0 n s ≡ true
in-below n s lt = grind (arith, nat_tests)

in-suc : (low n s : ℕ) → is_in (suc low) n (suc s) ≡ is_in low n s
in-suc low n s = grind (arith, nat_tests)

in-zero : (low n : ℕ) → is_in (suc low) n 0 ≡ false
in-zero low n = grind (arith, nat_tests)

module _ {X : Type 0} where
  put_if-same : (b c : Bool) (x y : X) (xs ys : List X) → b ≡ c → (b ≡ true → x ≡ y) → xs ≡ ys → put_if b x xs ≡ put_if c y ys
  put_if-same true true x y xs ys e h r = λ i. h refl i ∷ r i
  put_if-same true false x y xs ys e h r = absurd (true≢false e)
  put_if-same false true x y xs ys e h r = absurd (false≢true e)
  put_if-same false false x y xs ys e h r = r

  pub listed_same : (p q : ℕ → Bool) (f g : ℕ → X) (n : ℕ) → ((k : ℕ) → k < n → p k ≡ q k) → ((k : ℕ) → k < n → p k ≡ true → f k ≡ g k) → listed p f n ≡ listed q g n
  unfolding listed
  listed_same p q f g zero tests values = refl
  listed_same p q f g (suc n) tests values =
      put_if-same (p zero) (q zero) (f zero) (g zero) _ _ (tests zero (omega arith)) (values zero (omega arith))
      (listed_same (λ k. p (suc k)) (λ k. q (suc k)) (λ k. f (suc k)) (λ k. g (suc k)) n (λ k lt. tests (suc k) (omega arith)) (λ k lt. values (suc k) (omega arith)))

  -- ---- map, filter, find, length

  map-put_if : {Y : Type 0} (h : X → Y) (b : Bool) (x : X) (xs : List X) (ys : List Y) → map h xs ≡ ys → map h (put_if b x xs) ≡ put_if b (h x) ys
  map-put_if h true x xs ys e = ap (λ (zs : List _). h x ∷ zs) e
  map-put_if h false x xs ys e = e

  pub map-listed : {Y : Type 0} (h : X → Y) (p : ℕ → Bool) (f : ℕ → X) (n : ℕ) → map h (listed p f n) ≡ listed p (λ k. h (f k)) n
  unfolding listed
  map-listed h p f zero = refl
  map-listed h p f (suc n) = map-put_if h (p zero) (f zero) _ _ (map-listed h (λ k. p (suc k)) (λ k. f (suc k)) n)

  filter-put_if : (t : X → Bool) (b : Bool) (x : X) (xs ys : List X) → filter t xs ≡ ys → filter t (put_if b x xs) ≡ put_if (b && t x) x ys
  filter-put_if t true x xs ys e = λ i. cond (t x) (x ∷ e i) (e i)
  filter-put_if t false x xs ys e = e

  pub filter-listed : (t : X → Bool) (p : ℕ → Bool) (f : ℕ → X) (n : ℕ) → filter t (listed p f n) ≡ listed (λ k. p k && t (f k)) f n
  unfolding listed
  filter-listed t p f zero = refl
  filter-listed t p f (suc n) = filter-put_if t (p zero) (f zero) _ _ (filter-listed t (λ k. p (suc k)) (λ k. f (suc k)) n)

  found_here : (t : X → Bool) (b : Bool) (x : X) (xs : List X) → b ≡ true → t x ≡ true → find t (put_if b x xs) ≡ Some x
  found_here t true x xs e at = cond-true (t x) _ _ at
  found_here t false x xs e at = absurd (false≢true e)

  found_later : (t : X → Bool) (b : Bool) (x : X) (xs : List X) → (b && t x) ≡ false → find t (put_if b x xs) ≡ find t xs
  found_later t true x xs e = cond-false (t x) _ _ e
  found_later t false x xs e = refl

  pub found_first : (t : X → Bool) (p : ℕ → Bool) (f : ℕ → X) (n age : ℕ) → age < n → p age ≡ true → t (f age) ≡ true → ((k : ℕ) → k < age → (p k && t (f k)) ≡ false) → find t (listed p f n) ≡ Some (f age)
  unfolding listed
  found_first t p f zero age lt at passes before = absurd (omega arith)
  found_first t p f (suc n) zero lt at passes before = found_here t (p zero) (f zero) _ at passes
  found_first t p f (suc n) (suc age) lt at passes before =
      found_later t (p zero) (f zero) _ (before zero (omega arith))
      ∙ found_first t (λ k. p (suc k)) (λ k. f (suc k)) n age (omega arith) at passes (λ k l. before (suc k) (omega arith))

  pub found_none : (t : X → Bool) (p : ℕ → Bool) (f : ℕ → X) (n : ℕ) → ((k : ℕ) → k < n → (p k && t (f k)) ≡ false) → find t (listed p f n) ≡ None
  unfolding listed
  found_none t p f zero none = refl
  found_none t p f (suc n) none =
      found_later t (p zero) (f zero) _ (none zero (omega arith))
      ∙ found_none t (λ k. p (suc k)) (λ k. f (suc k)) n (λ k l. none (suc k) (omega arith))

  length-put_if : (b c : Bool) (x : X) (xs : List X) (n : ℕ) → b ≡ c → length xs ≡ n → length (put_if b x xs) ≡ cond c (suc n) n
  length-put_if true true x xs n e l = ap suc l
  length-put_if true false x xs n e l = absurd (true≢false e)
  length-put_if false true x xs n e l = absurd (false≢true e)
  length-put_if false false x xs n e l = l

  pub length-listed : (p q : ℕ → Bool) (f : ℕ → X) (n : ℕ) → ((k : ℕ) → k < n → p k ≡ q k) → length (listed p f n) ≡ how_many q n
  unfolding listed how_many
  length-listed p q f zero same = refl
  length-listed p q f (suc n) same = length-put_if (p zero) (q zero) (f zero) _ _ (same zero (omega arith)) (length-listed (λ k. p (suc k)) (λ k. q (suc k)) (λ k. f (suc k)) n (λ k lt. same (suc k) (omega arith)))

  -- ---- what holds of each element

  head_of : (P : X → Type 0) (b : Bool) (x : X) (xs : List X) → b ≡ true → All P (put_if b x xs) → P x
  head_of P true x xs e all = All-head P x xs all
  head_of P false x xs e all = absurd (false≢true e)

  tail_of : (P : X → Type 0) (b : Bool) (x : X) (xs : List X) → All P (put_if b x xs) → All P xs
  tail_of P true x xs all = All-tail P x xs all
  tail_of P false x xs all = all

  pub listed_all : (P : X → Type 0) (p : ℕ → Bool) (f : ℕ → X) (n : ℕ) → All P (listed p f n) → (k : ℕ) → k < n → p k ≡ true → P (f k)
  unfolding listed
  listed_all P p f zero all k lt at = absurd (omega arith)
  listed_all P p f (suc n) all zero lt at = head_of P (p zero) (f zero) _ at all
  listed_all P p f (suc n) all (suc k) lt at =
      listed_all P (λ j. p (suc j)) (λ j. f (suc j)) n (tail_of P (p zero) (f zero) _ all) k (omega arith) at

  -- ---- a longer list, and one more element

  pub listed_empty : (p : ℕ → Bool) (f : ℕ → X) (n : ℕ) → ((k : ℕ) → k < n → p k ≡ false) → listed p f n ≡ []
  unfolding listed
  listed_empty p f zero none = refl
  listed_empty p f (suc n) none = cond-false (p zero) _ _ (none zero (omega arith)) ∙ listed_empty (λ k. p (suc k)) (λ k. f (suc k)) n (λ k lt. none (suc k) (omega arith))

  -- where none passes from m on, the list ends there
  pub listed_ends : (p : ℕ → Bool) (f : ℕ → X) (m n : ℕ) → m ≤ n → ((k : ℕ) → m ≤ k → p k ≡ false) → listed p f n ≡ listed p f m
  unfolding listed
  listed_ends p f zero n le none = listed_empty p f n (λ k lt. none k (omega arith))
  listed_ends p f (suc m) zero le none = absurd (omega arith)
  listed_ends p f (suc m) (suc n) le none =
      put_if-same (p zero) (p zero) (f zero) (f zero) _ _ refl (λ _. refl)
      (listed_ends (λ k. p (suc k)) (λ k. f (suc k)) m n (omega arith) (λ k l. none (suc k) (omega arith)))

  append-put_if : (b c : Bool) (x : X) (xs ys zs : List X) → b ≡ c → xs ++ zs ≡ ys → put_if b x xs ++ zs ≡ put_if c x ys
  append-put_if true true x xs ys zs e r = ap (λ (l : List X). x ∷ l) r
  append-put_if true false x xs ys zs e r = absurd (true≢false e)
  append-put_if false true x xs ys zs e r = absurd (false≢true e)
  append-put_if false false x xs ys zs e r = r

  -- one more at an age from which on none passes
  pub listed_more : (p : ℕ → Bool) (f : ℕ → X) (n age : ℕ) → age < n → ((k : ℕ) → age ≤ k → p k ≡ false) → listed p f n ++ f age ∷ [] ≡ listed (λ k. k == age || p k) f n
  unfolding listed
  listed_more p f zero age lt none = absurd (omega arith)
  listed_more p f (suc n) zero lt none =
      let later : listed (λ k. suc k == zero || p (suc k)) (λ k. f (suc k)) n ≡ [] = listed_empty _ _ n (λ k l. rw (none (suc k) (omega arith)) (grind (arith, nat_tests))) in
      ap (λ (l : List X). l ++ f zero ∷ []) (listed_empty p f (suc n) (λ k l. none k (omega arith)))
      ∙ ap (λ (l : List X). f zero ∷ l) (sym later)
  listed_more p f (suc n) (suc age) lt none =
      let rest = listed_more (λ k. p (suc k)) (λ k. f (suc k)) n age (omega arith) (λ k l. none (suc k) (omega arith)) in
      let same : listed (λ k. k == age || p (suc k)) (λ k. f (suc k)) n ≡ listed (λ k. suc k == suc age || p (suc k)) (λ k. f (suc k)) n = listed_same _ _ _ _ n (λ k l. let e : (k == age) ≡ (suc k == suc age) = grind (arith, nat_tests) in ap (λ b. b || p (suc k)) e) (λ k l at. refl) in
      let first : p zero ≡ (zero == suc age || p zero) = let e : (zero == suc age) ≡ false = grind (arith, nat_tests) in ap (λ b. b || p zero) (sym e) in
      append-put_if (p zero) (zero == suc age || p zero) (f zero) _ _ (f (suc age) ∷ []) first (rest ∙ same)

  -- ---- a window of numbers, among all numbers

  pub listed_window : (low n all : ℕ) (p : ℕ → Bool) (f : ℕ → X) → low + n ≤ all → listed (λ k. p (low + k)) (λ k. f (low + k)) n ≡ listed (λ s. is_in low n s && p s) f all
  unfolding listed
  listed_window zero n all p f le =
      let shorter = listed_ends (λ s. is_in 0 n s && p s) f n all (omega arith) (λ k l. ap (λ b. b && p k) (in-above n k l)) in
      listed_same (λ k. p (0 + k)) (λ s. is_in 0 n s && p s) (λ k. f (0 + k)) f n
      (λ k lt. let e : 0 + k ≡ k = omega arith in ap p e ∙ ap (λ b. b && p k) (sym (in-below n k lt)))
      (λ k lt at. let e : 0 + k ≡ k = omega arith in ap f e)
      ∙ sym shorter
  listed_window (suc low) n zero p f le = absurd (omega arith)
  listed_window (suc low) n (suc all) p f le =
      let rest = listed_window low n all (λ s. p (suc s)) (λ s. f (suc s)) (omega arith) in
      listed_same (λ k. p (suc low + k)) (λ k. p (suc (low + k))) (λ k. f (suc low + k)) (λ k. f (suc (low + k))) n
      (λ k lt. let e : suc low + k ≡ suc (low + k) = omega arith in ap p e)
      (λ k lt at. let e : suc low + k ≡ suc (low + k) = omega arith in ap f e)
      ∙ rest
      ∙ listed_same (λ s. is_in low n s && p (suc s)) (λ s. is_in (suc low) n (suc s) && p (suc s)) (λ s. f (suc s)) (λ s. f (suc s)) all
      (λ k lt. ap (λ b. b && p (suc k)) (sym (in-suc low n k)))
      (λ k lt at. refl)
      ∙ sym (cond-false (is_in (suc low) n 0 && p 0) _ _ (ap (λ b. b && p 0) (in-zero low n)))
