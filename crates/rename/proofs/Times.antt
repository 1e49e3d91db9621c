-- How often a number stands in a list, and how long a list is in which each of the first n numbers stands once.
use Rattle.std.proofs.Common.{◌≡◌, ◌≢◌, ℕ, zero, suc, ◌+◌, ◌<◌, ◌≤◌, cond, eqb, ltb, List, [], ◌∷◌, ◌++◌, length, get_or, set, count_by, ⊎_elim, sym, ap, ◌∙◌, refl, arith, length-set, get_or-set_other}
use Rattle.std.specs.List.{range_with_len}
use Rattle.std.proofs.lemmas.Bool.{cases_eq, eq-eqb, cases_lt}
use Rattle.std.proofs.lemmas.Bool.Decides.{nat_tests}
use Rattle.std.proofs.lemmas.List.Sums.{sum_by-append, sum_by-cons, sum_by-set, sum_by_push}
use Rattle.rename.specs.Renaming.{times}

-- how often x stands in a list of y alone
unfoldable pub one : ℕ → ℕ → ℕ
one x y = cond (eqb y x) 1 0

pub one_same : (x y : ℕ) → y ≡ x → one x y ≡ 1
unfolding one
one_same x y e = ap (λ b. cond b 1 0) (eq-eqb y x e)

pub one_other : (x y : ℕ) → y ≢ x → one x y ≡ 0
unfolding one
one_other x y d = grind (arith, nat_tests)

pub times-cons : (x y : ℕ) (ys : List ℕ) → times x (y ∷ ys) ≡ one x y + times x ys
unfolding one
times-cons x y ys = sum_by-cons (λ z. cond (eqb z x) 1 0) y ys

pub times-append : (x : ℕ) (xs ys : List ℕ) → times x (xs ++ ys) ≡ times x xs + times x ys
times-append x xs ys = sum_by-append (λ z. cond (eqb z x) 1 0) xs ys

pub times_push : (x : ℕ) (xs : List ℕ) (y : ℕ) → times x (xs ++ y ∷ []) ≡ times x xs + one x y
unfolding one
times_push x xs y = sum_by_push (λ z. cond (eqb z x) 1 0) xs y

pub times-set : (x : ℕ) (xs : List ℕ) (i y : ℕ) → i < length xs → times x (set xs i y) + one x (get_or xs i 0) ≡ times x xs + one x y
unfolding one
times-set x xs i y h = sum_by-set (λ z. cond (eqb z x) 1 0) xs i y 0 h

-- the numbers from a on, n of them
pub times_before : (x a n : ℕ) → x < a → times x (range_with_len a n) ≡ 0
times_before x a zero h = refl
times_before x a (suc n) h =
    let head = one_other x a (λ e. omega arith) in
    omega (arith, times-cons x a (range_with_len (a + 1) n), head, times_before x (a + 1) n (omega arith))

pub times_behind : (x a n : ℕ) → a + n ≤ x → times x (range_with_len a n) ≡ 0
times_behind x a zero h = refl
times_behind x a (suc n) h =
    let head = one_other x a (λ e. omega arith) in
    omega (arith, times-cons x a (range_with_len (a + 1) n), head, times_behind x (a + 1) n (omega arith))

pub times_within : (x a n : ℕ) → a ≤ x → x < a + n → times x (range_with_len a n) ≡ 1
times_within x a zero low high = absurd (omega arith)
times_within x a (suc n) low high =
    ⊎_elim
    (λ (e : a ≡ x). omega (arith, times-cons x a (range_with_len (a + 1) n), one_same x a e, times_before x (a + 1) n (omega arith)))
    (λ (d : a ≡ x → ⊥). let more : a < x = omega arith in omega (arith, times-cons x a (range_with_len (a + 1) n), one_other x a d, times_within x (a + 1) n (omega arith) (omega arith)))
    (cases_eq a x)

-- how many of a list are below n
abbrev below : ℕ → List ℕ → ℕ
below n xs = count_by (λ y. ltb y n) xs

below-cons : (n y : ℕ) (ys : List ℕ) → below n (y ∷ ys) ≡ cond (ltb y n) 1 0 + below n ys
below-cons n y ys = sum_by-cons (λ z. cond (ltb z n) 1 0) y ys

below_yes : (y n : ℕ) → y < n → ◌≡◌ {A = ℕ} (cond (ltb y n) 1 0) 1
below_yes y n h = grind (arith, nat_tests)

below_no : (y n : ℕ) → n ≤ y → ◌≡◌ {A = ℕ} (cond (ltb y n) 1 0) 0
below_no y n h = grind (arith, nat_tests)

below_more_one : (n y : ℕ) → cond (ltb y (suc n)) 1 0 ≡ one n y + cond (ltb y n) 1 0
unfolding one
below_more_one n y = grind (arith, nat_tests)

below_more : (n : ℕ) (xs : List ℕ) → below (suc n) xs ≡ times n xs + below n xs
below_more n [] = refl
below_more n (y ∷ ys) =
    omega (arith, below-cons (suc n) y ys, below-cons n y ys, times-cons n y ys, below_more_one n y, below_more n ys)

below_zero : (xs : List ℕ) → below 0 xs ≡ 0
below_zero [] = refl
below_zero (y ∷ ys) = omega (arith, below-cons 0 y ys, below_no y 0 (omega arith), below_zero ys)

below_each_once : (n : ℕ) (xs : List ℕ) → ((x : ℕ) → x < n → times x xs ≡ 1) → below n xs ≡ n
below_each_once zero xs once = below_zero xs
below_each_once (suc n) xs once =
    omega (arith, below_more n xs, once n (omega arith), below_each_once n xs (λ x h. once x (omega arith)))

below_is_length : (n : ℕ) (xs : List ℕ) → ((x : ℕ) → n ≤ x → times x xs ≡ 0) → below n xs ≡ length xs
below_is_length n [] none = refl
below_is_length n (y ∷ ys) none =
    let less : (x : ℕ) → n ≤ x → times x ys ≡ 0 = λ x h. omega (arith, none x h, times-cons x y ys) in
    let rest = below_is_length n ys less in
    ⊎_elim
    (λ (h : y < n). omega (arith, below-cons n y ys, below_yes y n h, rest))
    (λ (h : n ≤ y). absurd (omega (arith, none y h, times-cons y y ys, one_same y y refl)))
    (cases_lt y n)

-- Each of the first n numbers stands once in a list, and no other does: there are n.
pub length_each_once : (n : ℕ) (xs : List ℕ) → ((x : ℕ) → x < n → times x xs ≡ 1) → ((x : ℕ) → n ≤ x → times x xs ≡ 0) → length xs ≡ n
length_each_once n xs once none = omega (arith, below_each_once n xs once, below_is_length n xs none)

-- what stands at two places stands twice
pub times_two_places : (xs : List ℕ) (i j : ℕ) → i < length xs → j < length xs → i ≢ j → get_or xs i 0 ≡ get_or xs j 0 → 2 ≤ times (get_or xs i 0) xs
times_two_places xs i j hi hj apart same =
    let x = get_or xs i 0 in
    let without = set xs i (x + 1) in
    let first = times-set x xs i (x + 1) hi in
    let longer : j < length without = omega (arith, length-set xs i (x + 1)) in
    let stays = get_or-set_other xs i j (x + 1) 0 (λ e. apart (omega arith)) in
    let second = times-set x without j (x + 1) longer in
    omega (arith, first, second, one_same x x refl, one_other x (x + 1) (λ e. omega arith), one_same x (get_or without j 0) (stays ∙ sym same))

-- what stands in a list stands once or more
pub times_held : (xs : List ℕ) (i : ℕ) → i < length xs → 1 ≤ times (get_or xs i 0) xs
times_held xs i h =
    let x = get_or xs i 0 in
    omega (arith, times-set x xs i (x + 1) h, one_same x x refl, one_other x (x + 1) (λ e. omega arith))
