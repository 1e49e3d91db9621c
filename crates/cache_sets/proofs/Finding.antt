-- What `find` gives in a list of ways that has changed.
use Rattle.std.proofs.Common.{◌≡◌, ℕ, ◌+◌, ◌≤◌, Bool, true, false, not, ◌&&◌, cond, List, [], ◌∷◌, ◌++◌, filter, find, count_by, Option, Some, None, option_map, arith, refl, sym, ap, ◌∙◌}
use Rattle.std.specs.Option.{option_or}
use Rattle.std.proofs.lemmas.Bool.{eqb-true, eq-eqb, and_from}
use Rattle.std.proofs.lemmas.List.Folds.{find-append}
use Rattle.std.proofs.lemmas.List.Filters.{sum_by-filter_both}
use Rattle.cache_sets.specs.Ways.{Way, has_slot, changed_at}
use Rattle.cache_sets.proofs.Counts.{one_if, count_by-cons, count_by_le, count_by_never}

-- ---- two tests that agree on a list

agree_head : {X : Type 0} (b c : Bool) (x : X) (r s : Option X) → one_if (b && not c) ≡ 0 → one_if (c && not b) ≡ 0 → r ≡ s → cond b (Some x) r ≡ cond c (Some x) s
agree_head true true x r s e f g = refl
agree_head true false x r s e f g = absurd (omega arith)
agree_head false true x r s e f g = absurd (omega arith)
agree_head false false x r s e f g = g

pub find_agree : {X : Type 0} (p q : X → Bool) (xs : List X) → count_by (λ x. p x && not (q x)) xs ≡ 0 → count_by (λ x. q x && not (p x)) xs ≡ 0 → find p xs ≡ find q xs
find_agree p q [] e f = refl
find_agree p q (x ∷ xs) e f =
    let here = count_by-cons (λ y. p y && not (q y)) x xs in
    let back = count_by-cons (λ y. q y && not (p y)) x xs in
    agree_head (p x) (q x) x (find p xs) (find q xs) (omega (arith, here, e)) (omega (arith, back, f)) (find_agree p q xs (omega (arith, here, e)) (omega (arith, back, f)))

-- where none passes, none is found
find_none : {X : Type 0} (p : X → Bool) (xs : List X) → count_by p xs ≡ 0 → find p xs ≡ None
find_none p [] e = refl
find_none p (x ∷ xs) e = let here = count_by-cons p x xs in none_head (p x) x (find p xs) (omega (arith, here, e)) (find_none p xs (omega (arith, here, e)))
  where
    none_head : {X : Type 0} (b : Bool) (x : X) (r : Option X) → one_if b ≡ 0 → r ≡ None → cond b (Some x) r ≡ None
    none_head true x r e h = absurd (omega arith)
    none_head false x r e h = h

-- what is found passes
found_passes_head : {X : Type 0} (p : X → Bool) (b : Bool) (x w : X) (r : Option X) → p x ≡ b → cond b (Some x) r ≡ Some w → (r ≡ Some w → p w ≡ true) → p w ≡ true
found_passes_head p true x w r test e later = let same : x ≡ w = cc in ap p (sym same) ∙ test
found_passes_head p false x w r test e later = later e

pub found_passes : {X : Type 0} (p : X → Bool) (xs : List X) (w : X) → find p xs ≡ Some w → p w ≡ true
found_passes p [] w e = absurd cc
found_passes p (x ∷ xs) w e = found_passes_head p (p x) x w (find p xs) refl e (found_passes p xs w)

-- and counts, also by its slot
found_counts_head : (p : Way → Bool) (b : Bool) (x w : Way) (r : Option Way) (n : ℕ) → p w ≡ true → cond b (Some x) r ≡ Some w → (r ≡ Some w → 1 ≤ n) →
    1 ≤ one_if (has_slot w.slot x && p x) + n
found_counts_head p true x w r n passes e later =
    let same : x ≡ w = cc in
    let slot : has_slot w.slot x ≡ true = eq-eqb x.slot w.slot (ap (λ (v : Way). v.slot) same) in
    let test : p x ≡ true = ap p same ∙ passes in
    let one : one_if (has_slot w.slot x && p x) ≡ 1 = ap one_if (and_from (has_slot w.slot x) (p x) slot test) in
    omega (arith, one)
found_counts_head p false x w r n passes e later = omega (arith, later e)

pub found_counts : (q p : Way → Bool) (ways : List Way) (w : Way) → find q ways ≡ Some w → p w ≡ true → 1 ≤ count_by (λ v. has_slot w.slot v && p v) ways
found_counts q p [] w e passes = absurd cc
found_counts q p (x ∷ xs) w e passes =
    let here = count_by-cons (λ v. has_slot w.slot v && p v) x xs in
    omega (arith, here, found_counts_head p (q x) x w (find q xs) (count_by (λ v. has_slot w.slot v && p v) xs) passes e (λ later. found_counts q p xs w later passes))

-- ---- a way is changed

-- the test of a way that is changed at a slot
abbrev pub tested_at : ℕ → (Way → Way) → (Way → Bool) → Way → Bool
tested_at slot change p way = cond (has_slot slot way) (p (change way)) (p way)

changed_head : (p : Way → Bool) (change : Way → Way) (b : Bool) (x : Way) (r s : Option Way) → (change x).slot ≡ x.slot → option_map (λ w. w.slot) r ≡ option_map (λ w. w.slot) s →
    option_map (λ w. w.slot) (cond (p (cond b (change x) x)) (Some (cond b (change x) x)) r) ≡ option_map (λ w. w.slot) (cond (cond b (p (change x)) (p x)) (Some x) s)
changed_head p change true x r s kept e = passed (p (change x)) (change x) x r s kept e
  where
    passed : (b : Bool) (y x : Way) (r s : Option Way) → y.slot ≡ x.slot → option_map (λ w. w.slot) r ≡ option_map (λ w. w.slot) s →
        option_map (λ w. w.slot) (cond b (Some y) r) ≡ option_map (λ w. w.slot) (cond b (Some x) s)
    passed true y x r s kept e = ap Some kept
    passed false y x r s kept e = e
changed_head p change false x r s kept e = passed (p x) x r s e
  where
    passed : (b : Bool) (x : Way) (r s : Option Way) → option_map (λ w. w.slot) r ≡ option_map (λ w. w.slot) s → option_map (λ w. w.slot) (cond b (Some x) r) ≡ option_map (λ w. w.slot) (cond b (Some x) s)
    passed true x r s e = refl
    passed false x r s e = e

pub slot-changed : (p : Way → Bool) (slot : ℕ) (change : Way → Way) (ways : List Way) → ((way : Way) → (change way).slot ≡ way.slot) →
    option_map (λ w. w.slot) (find p (changed_at (Some slot) change ways)) ≡ option_map (λ w. w.slot) (find (tested_at slot change p) ways)
slot-changed p slot change [] kept = refl
slot-changed p slot change (x ∷ xs) kept =
    changed_head p change (has_slot slot x) x (find p (changed_at (Some slot) change xs)) (find (tested_at slot change p) xs) (kept x) (slot-changed p slot change xs kept)

-- where neither the old way nor the new one passes, all is as before
quiet_new : (b c d : Bool) → (cond b c d && not d) ≡ true → (b && c) ≡ true
quiet_new true c d e = and_first c (not d) e
  where
    and_first : (a b : Bool) → (a && b) ≡ true → a ≡ true
    and_first true b e = refl
    and_first false b e = e
quiet_new false c true e = absurd cc
quiet_new false c false e = absurd cc

quiet_old : (b c d : Bool) → (d && not (cond b c d)) ≡ true → (b && d) ≡ true
quiet_old true c true e = refl
quiet_old true c false e = absurd cc
quiet_old false c true e = absurd cc
quiet_old false c false e = absurd cc

pub find_quiet : (p : Way → Bool) (slot : ℕ) (change : Way → Way) (ways : List Way) →
    count_by (λ w. has_slot slot w && p (change w)) ways ≡ 0 → count_by (λ w. has_slot slot w && p w) ways ≡ 0 → find (tested_at slot change p) ways ≡ find p ways
find_quiet p slot change ways new old =
    let a = count_by_le (λ w. tested_at slot change p w && not (p w)) (λ w. has_slot slot w && p (change w)) ways (λ w. quiet_new (has_slot slot w) (p (change w)) (p w)) in
    let b = count_by_le (λ w. p w && not (tested_at slot change p w)) (λ w. has_slot slot w && p w) ways (λ w. quiet_old (has_slot slot w) (p (change w)) (p w)) in
    find_agree (tested_at slot change p) p ways (omega (arith, a, new)) (omega (arith, b, old))

-- where the change does not touch the test
same_head : (b c : Bool) → (cond b c c && not c) ≡ false
same_head true true = refl
same_head true false = refl
same_head false true = refl
same_head false false = refl

same_back : (b c : Bool) → (c && not (cond b c c)) ≡ false
same_back true true = refl
same_back true false = refl
same_back false true = refl
same_back false false = refl

pub find_same : (p : Way → Bool) (slot : ℕ) (ways : List Way) → find (λ w. cond (has_slot slot w) (p w) (p w)) ways ≡ find p ways
find_same p slot ways =
    find_agree (λ w. cond (has_slot slot w) (p w) (p w)) p ways
    (count_by_never (λ w. cond (has_slot slot w) (p w) (p w) && not (p w)) ways (λ w. same_head (has_slot slot w) (p w)))
    (count_by_never (λ w. p w && not (cond (has_slot slot w) (p w) (p w))) ways (λ w. same_back (has_slot slot w) (p w)))

-- where the new way passes, and no other does, it is found
set_head : (b c d : Bool) (x : Way) (slot n : ℕ) (r : Option Way) → has_slot slot x ≡ b → c ≡ true → one_if (d && not b) ≡ 0 → 1 ≤ one_if b + n → (1 ≤ n → option_map (λ w. w.slot) r ≡ Some slot) →
    option_map (λ w. w.slot) (cond (cond b c d) (Some x) r) ≡ Some slot
set_head true true d x slot n r is passes alone some later = ap Some (eqb-true x.slot slot is)
set_head true false d x slot n r is passes alone some later = absurd cc
set_head false c true x slot n r is passes alone some later = absurd (omega arith)
set_head false c false x slot n r is passes alone some later = later (omega (arith, some))

pub find_set : (p : Way → Bool) (slot : ℕ) (change : Way → Way) (ways : List Way) → ((way : Way) → p (change way) ≡ true) →
    count_by (λ w. p w && not (has_slot slot w)) ways ≡ 0 → 1 ≤ count_by (has_slot slot) ways → option_map (λ w. w.slot) (find (tested_at slot change p) ways) ≡ Some slot
find_set p slot change [] passes alone some = absurd (omega arith)
find_set p slot change (x ∷ xs) passes alone some =
    let here = count_by-cons (has_slot slot) x xs in
    let others = count_by-cons (λ w. p w && not (has_slot slot w)) x xs in
    set_head (has_slot slot x) (p (change x)) (p x) x slot (count_by (has_slot slot) xs) (find (tested_at slot change p) xs) refl (passes x) (omega (arith, others, alone)) (omega (arith, here, some))
    (find_set p slot change xs passes (omega (arith, others, alone)))

-- where the new way does not pass, and no other does, none is found
cleared : (b c d : Bool) → c ≡ false → cond b c d ≡ true → (d && not b) ≡ true
cleared true c d none e = absurd cc
cleared false c true none e = refl
cleared false c false none e = absurd cc

pub find_cleared : (p : Way → Bool) (slot : ℕ) (change : Way → Way) (ways : List Way) → ((way : Way) → p (change way) ≡ false) →
    count_by (λ w. p w && not (has_slot slot w)) ways ≡ 0 → find (tested_at slot change p) ways ≡ None
find_cleared p slot change ways fails alone =
    let less = count_by_le (tested_at slot change p) (λ w. p w && not (has_slot slot w)) ways (λ w. cleared (has_slot slot w) (p (change w)) (p w) (fails w)) in
    find_none (tested_at slot change p) ways (omega (arith, less, alone))

-- ---- a way is put first

parted_head : (b c : Bool) (x : Way) (kept left : List Way) (p : Way → Bool) (r : Option Way) → p x ≡ c → find p (kept ++ left) ≡ r → (c ≡ true → find p kept ≡ None) →
    find p (cond b (x ∷ kept) kept ++ cond (not b) (x ∷ left) left) ≡ cond c (Some x) r
parted_head true c x kept left p r is e none = cc
parted_head false c x kept left p r is e none = find-append p kept (x ∷ left) ∙ behind c (find p kept) (find p left) x (p x) r is (sym (find-append p kept left) ∙ e) none
  where
    behind : (c : Bool) (first last : Option Way) (x : Way) (b : Bool) (r : Option Way) → b ≡ c → option_or first last ≡ r → (c ≡ true → first ≡ None) → option_or first (cond b (Some x) last) ≡ cond c (Some x) r
    behind true first last x b r is e none = let empty : first ≡ None = none refl in cc
    behind false first last x b r is e none = let here : cond b (Some x) last ≡ last = cc in ap (option_or first) here ∙ e

-- of a line that one way at most passes, the place does not matter
pub find_parted : (p q : Way → Bool) (ways : List Way) → count_by p ways ≤ 1 → find p (filter q ways ++ filter (λ w. not (q w)) ways) ≡ find p ways
find_parted p q [] once = refl
find_parted p q (x ∷ xs) once =
    let here = count_by-cons p x xs in
    let parts = sum_by-filter_both q (λ w. not (q w)) (λ _. refl) (λ w. cond (p w) 1 0) xs in
    parted_head (q x) (p x) x (filter q xs) (filter (λ w. not (q w)) xs) p (find p xs) refl (find_parted p q xs (omega (arith, here, once)))
    (λ e. let one : one_if (p x) ≡ 1 = ap one_if e in find_none p (filter q xs) (omega (arith, here, one, once, parts)))
