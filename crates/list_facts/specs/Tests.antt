-- Which elements of a list pass a test.
use Rattle.std.proofs.Common.{◌≡◌, ℕ, suc, ◌+◌, ◌<◌, nat_lt, Bool, true, false, cond, not, ◌||◌, List, [], ◌∷◌, length, get_or, map, reverse, take, find, Some, None, slice_get, refl, ap, ◌∙◌, arith}
use Rattle.std.specs.List.{list_any, position, prefix_len}
use Rattle.std.proofs.lemmas.List.{length-map, reverse-append}
use Rattle.std.proofs.lemmas.List.Folds.{list_any-append}
use Rattle.list_facts.specs.Places.{take-at}

pub any-map : {X Y : Type 0} (p : Y → Bool) (f : X → Y) (xs : List X) → list_any p (map f xs) ≡ list_any (λ x. p (f x)) xs
any-map p f [] = refl
any-map p f (x ∷ xs) = ap (λ b. p (f x) || b) (any-map p f xs)

-- where one passes, one at some place does
pub any-at : {X : Type 0} (p : X → Bool) (xs : List X) → list_any p xs ≡ true → (k : ℕ) × (k < length xs) × ((d : X) → p (get_or xs k d) ≡ true)
any-at p [] any = absurd cc
any-at {X} p (x ∷ xs) any = by_first (p x) refl any (any-at p xs)
  where
    by_first : (b : Bool) → p x ≡ b → (b || list_any p xs) ≡ true → (list_any p xs ≡ true → (k : ℕ) × (k < length xs) × ((d : X) → p (get_or xs k d) ≡ true)) → (k : ℕ) × (k < length (x ∷ xs)) × ((d : X) → p (get_or (x ∷ xs) k d) ≡ true)
    by_first true e any rest = (0, omega arith, λ d. e)
    by_first false e any rest = let (k, below, here) = rest any in (suc k, omega (arith, below), here)

-- none is found where none passes
pub find-none_any : {X : Type 0} (p : X → Bool) (xs : List X) → list_any p xs ≡ false → find p xs ≡ None
find-none_any p [] none = refl
find-none_any {X} p (x ∷ xs) none = by_first (p x) refl none (find-none_any p xs)
  where
    by_first : (b : Bool) → p x ≡ b → (b || list_any p xs) ≡ false → (list_any p xs ≡ false → find p xs ≡ None) → find p (x ∷ xs) ≡ None
    by_first true e none rest = absurd cc
    by_first false e none rest = rw e (rest none)

-- none of the first ones passes where none before the last of them does, and that one does not
pub any-more : {X : Type 0} (p : X → Bool) (xs : List X) (k : ℕ) (x : X) → slice_get xs k ≡ Some x → list_any p (take k xs) ≡ false → p x ≡ false → list_any p (take (k + 1) xs) ≡ false
any-more p xs k x at none other =
    let next : k + 1 ≡ suc k = omega arith in
    ap (λ j. list_any p (take j xs)) next ∙ ap (list_any p) (take-at xs k x at)
    ∙ (list_any-append p (take k xs) (x ∷ []) ∙ (ap (λ b. b || list_any p (x ∷ [])) none ∙ ap (λ b. b || false) other))

-- one passes from the last on where one does
pub any-reverse : {X : Type 0} (p : X → Bool) (xs : List X) → list_any p (reverse xs) ≡ list_any p xs
any-reverse p [] = refl
any-reverse {X} p (x ∷ xs) =
    ap (list_any p) (reverse-append (x ∷ []) xs) ∙ (list_any-append p (reverse xs) (x ∷ []) ∙ (ap (λ b. b || (p x || false)) (any-reverse p xs) ∙ swapped (list_any p xs) (p x)))
  where
    swapped : (b d : Bool) → (b || (d || false)) ≡ (d || b)
    swapped true true = refl
    swapped true false = refl
    swapped false true = refl
    swapped false false = refl

pub prefix_len-map : {A B : Type 0} (p : B → Bool) (g : A → B) (xs : List A) → prefix_len p (map g xs) ≡ prefix_len (λ x. p (g x)) xs
prefix_len-map p g [] = refl
prefix_len-map p g (x ∷ xs) = ap (λ n. cond (p (g x)) (1 + n) 0) (prefix_len-map p g xs)

pub position-map : {A B : Type 0} (p : B → Bool) (g : A → B) (xs : List A) → position p (map g xs) ≡ position (λ x. p (g x)) xs
position-map p g xs =
    ap (λ n. cond (nat_lt n (length (map g xs))) (Some n) None) (prefix_len-map (λ y. not (p y)) g xs)
    ∙ ap (λ n. cond (nat_lt (prefix_len (λ x. not (p (g x))) xs) n) (Some (prefix_len (λ x. not (p (g x))) xs)) None) (length-map xs g)
