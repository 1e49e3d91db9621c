-- Loads whose numbers do not fall.
use Rattle.std.proofs.Common.{◌≡◌, ℕ, ◌<◌, ◌≤◌, ◌==◌, nat_lt, min, not, true, false, Bool, All, List, [], ◌∷◌, ◌++◌, length, map, filter, insert, Some, option_map, if◌then◌else◌, ⊎_elim, refl, sym, ap, ◌∙◌, subst, arith}
use Rattle.std.specs.List.{find, fold}
use Rattle.settle_watch.proofs.Least.{least-cons}
use Rattle.std.proofs.lemmas.Bool.{cases_lt, le-ltb}
use Rattle.std.proofs.lemmas.Bool.Decides.{nat_tests}
use Rattle.std.proofs.lemmas.List.{append-nil}
use Rattle.std.proofs.lemmas.List.Elements.{All-nil, All-cons, All-head, All-tail, All-append, All-filter, All-map, filter-append}
use Rattle.settle_watch.specs.declared.watch.Watched.{Watched}
use Rattle.settle_watch.specs.Laws.{PlacedBetween, PlacedInOrder}
use Rattle.settle_watch.specs.Watches.{AreInOrder, least, placed, store_performed}

abbrev Before : ℕ → Watched → Bool
Before s y = nat_lt y.seq s

-- loads of these numbers and greater
abbrev AreFrom : ℕ → List Watched → Type 0
AreFrom s loads = All (λ y. s ≤ y.seq) loads

before-true : (s : ℕ) (y : Watched) → y.seq < s → Before s y ≡ true
before-true s y h = grind (arith, nat_tests)

-- none of them is before s
none_before : (s : ℕ) (loads : List Watched) → AreFrom s loads → (filter (Before s) loads ≡ []) × (filter (λ y. not (Before s y)) loads ≡ loads)
none_before s [] from = (refl, refl)
none_before s (y ∷ loads) from =
    let P : Watched → Type 0 = λ x. s ≤ x.seq in
    let e : Before s y ≡ false = le-ltb y.seq s (All-head P y loads from) in
    let rest = none_before s loads (All-tail P y loads from) in
    (rw e rest.0, rw e (ap (λ xs. y ∷ xs) rest.1))

-- all of them are
all_before : (s : ℕ) (loads : List Watched) → All (λ y. y.seq < s) loads → (filter (Before s) loads ≡ loads) × (filter (λ y. not (Before s y)) loads ≡ [])
all_before s [] before = (refl, refl)
all_before s (y ∷ loads) before =
    let P : Watched → Type 0 = λ x. x.seq < s in
    let e = before-true s y (All-head P y loads before) in
    let rest = all_before s loads (All-tail P y loads before) in
    (rw e (ap (λ xs. y ∷ xs) rest.0), rw e rest.1)

-- a place behind all that are before s is that of s
pub insert_is_placed : (x : Watched) (loads : List Watched) → AreInOrder loads → insert loads (length (filter (Before x.seq) loads)) x ≡ placed x loads
insert_is_placed x [] order = refl
insert_is_placed x (y ∷ loads) order =
    ⊎_elim
    (λ (less : y.seq < x.seq). rw (before-true x.seq y less) (ap (λ xs. y ∷ xs) (insert_is_placed x loads order.1)))
    (λ (more : x.seq ≤ y.seq).
    let P : Watched → Type 0 = λ z. y.seq ≤ z.seq in
    let from : AreFrom x.seq loads = λ k d within. let step = order.0 k d within in omega arith in
    let none = none_before x.seq loads from in
    let e : Before x.seq y ≡ false = le-ltb y.seq x.seq more in
    rw (e, none.0, none.1) refl)
    (cases_lt y.seq x.seq)

-- ---- the order is kept

joined : (older : List Watched) (x : Watched) (younger : List Watched) → AreInOrder older → AreInOrder younger → All (λ y. y.seq ≤ x.seq) older → AreFrom x.seq younger → AreInOrder (older ++ x ∷ younger)
joined [] x younger p q below above = (above, q)
joined (y ∷ older) x younger p q below above =
    let P : Watched → Type 0 = λ z. y.seq ≤ z.seq in
    let Q : Watched → Type 0 = λ z. z.seq ≤ x.seq in
    let first : y.seq ≤ x.seq = All-head Q y older below in
    let behind : AreFrom y.seq younger = λ k d within. let step = above k d within in omega arith in
    (All-append P older (x ∷ younger) p.0 (All-cons P x younger first behind), joined older x younger p.1 q (All-tail Q y older below) above)

pub filter_in_order : (test : Watched → Bool) (loads : List Watched) → AreInOrder loads → AreInOrder (filter test loads)
filter_in_order test [] order = tt
filter_in_order test (y ∷ loads) order = by_test (test y) refl (filter_in_order test loads order.1)
  where
    by_test : (b : Bool) → test y ≡ b → AreInOrder (filter test loads) → AreInOrder (filter test (y ∷ loads))
    by_test true e rest = rw e (All-filter test (λ z. y.seq ≤ z.seq) loads order.0, rest)
    by_test false e rest = rw e rest

-- those that pass are before, those that don't are not
passing : (s : ℕ) (loads : List Watched) → All (λ y. y.seq ≤ s) (filter (Before s) loads) × AreFrom s (filter (λ y. not (Before s y)) loads)
passing s [] = let P : Watched → Type 0 = λ y. y.seq ≤ s in let Q : Watched → Type 0 = λ y. s ≤ y.seq in (All-nil P, All-nil Q)
passing s (y ∷ loads) =
    let P : Watched → Type 0 = λ z. z.seq ≤ s in
    let Q : Watched → Type 0 = λ z. s ≤ z.seq in
    let rest = passing s loads in
    ⊎_elim
    (λ (less : y.seq < s). rw (before-true s y less) (All-cons P y (filter (Before s) loads) (omega arith) rest.0, rest.1))
    (λ (more : s ≤ y.seq). let e : Before s y ≡ false = le-ltb y.seq s more in rw e (rest.0, All-cons Q y (filter (λ z. not (Before s z)) loads) more rest.1))
    (cases_lt y.seq s)

pub placed_in_order : PlacedInOrder
placed_in_order x loads order =
    let parts = passing x.seq loads in
    joined (filter (Before x.seq) loads) x (filter (λ y. not (Before x.seq y)) loads) (filter_in_order (Before x.seq) loads order) (filter_in_order (λ y. not (Before x.seq y)) loads order) parts.0 parts.1

pub placed_between : PlacedBetween
placed_between older younger x below above =
    let from : AreFrom x.seq younger = λ k d within. let step = above k d within in omega arith in
    let a = all_before x.seq older below in
    let b = none_before x.seq younger from in
    let front = filter-append (Before x.seq) older younger ∙ (ap (λ xs. xs ++ filter (Before x.seq) younger) a.0 ∙ (ap (λ xs. older ++ xs) b.0 ∙ append-nil older)) in
    let back = filter-append (λ y. not (Before x.seq y)) older younger ∙ (ap (λ xs. xs ++ filter (λ y. not (Before x.seq y)) younger) a.1 ∙ b.1) in
    ap (λ xs. xs ++ x ∷ filter (λ y. not (Before x.seq y)) (older ++ younger)) front ∙ ap (λ xs. older ++ x ∷ xs) back

same_seq_by : (b : Bool) (z : Watched) → (if b then record z { from_store = false } else z).seq ≡ z.seq
same_seq_by true z = refl
same_seq_by false z = refl

same_seq : (s : ℕ) (z : Watched) → (store_performed s z).seq ≡ z.seq
same_seq s z = same_seq_by (z.seq == s) z

performed_from : (s n : ℕ) (xs : List Watched) → AreFrom n xs → AreFrom n (map (store_performed s) xs)
performed_from s n [] all = let P : Watched → Type 0 = λ z. n ≤ z.seq in All-nil P
performed_from s n (x ∷ xs) all =
    let P : Watched → Type 0 = λ z. n ≤ z.seq in
    let first : n ≤ (store_performed s x).seq = omega (arith, same_seq s x, All-head P x xs all) in
    All-cons P (store_performed s x) (map (store_performed s) xs) first (performed_from s n xs (All-tail P x xs all))

pub performed_in_order : (s : ℕ) (loads : List Watched) → AreInOrder loads → AreInOrder (map (store_performed s) loads)
performed_in_order s [] order = tt
performed_in_order s (y ∷ loads) order =
    (subst (λ (n : ℕ). AreFrom n (map (store_performed s) loads)) (sym (same_seq s y)) (performed_from s y.seq loads order.0), performed_in_order s loads order.1)

-- ---- the first that passes is the oldest

fold_low : (n : ℕ) (ns : List ℕ) → All (λ m. n ≤ m) ns → fold min n ns ≡ n
fold_low n [] from = refl
fold_low n (m ∷ ns) from =
    let P : ℕ → Type 0 = λ k. n ≤ k in
    let low : n ≤ m = All-head P m ns from in
    let e : min n m ≡ n = omega arith in
    ap (λ k. fold min k ns) e ∙ fold_low n ns (All-tail P m ns from)

pub first_is_least : (test : Watched → Bool) (loads : List Watched) → AreInOrder loads → option_map (λ x. x.seq) (find test loads) ≡ least (map (λ x. x.seq) (filter test loads))
first_is_least test [] order = refl
first_is_least test (y ∷ loads) order = by_test (test y) refl (first_is_least test loads order.1)
  where
    by_test : (b : Bool) → test y ≡ b → option_map (λ x. x.seq) (find test loads) ≡ least (map (λ x. x.seq) (filter test loads)) → option_map (λ x. x.seq) (find test (y ∷ loads)) ≡ least (map (λ x. x.seq) (filter test (y ∷ loads)))
    by_test true e rest =
        let P : ℕ → Type 0 = λ m. y.seq ≤ m in
        let from = All-map P (λ (x : Watched). x.seq) (filter test loads) (All-filter test (λ z. y.seq ≤ z.seq) loads order.0) in
        let ns = map (λ (x : Watched). x.seq) (filter test loads) in
        rw e (sym (least-cons y.seq ns ∙ ap Some (fold_low y.seq ns from)))
    by_test false e rest = rw e rest
