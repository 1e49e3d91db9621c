-- The line that leaves a cache for another: the way that it leaves holds it, and no way is reserved for it.
use Rattle.std.proofs.Common.{◌≡◌, ℕ, ◌+◌, ◌%◌, ◌≤◌, ◌==◌, Bool, true, false, ◌||◌, cond, List, [], ◌∷◌, find, reverse, count_by, is_none, Option, Some, None, option_map, refl, sym, ap, ◌∙◌, ⊎_elim, arith}
use Rattle.std.specs.Option.{option_or}
use Rattle.std.proofs.lemmas.Bool.{and_parts, cases_eq, eq-eqb, ne_eqb, or_left, or_right}
use Rattle.std.proofs.lemmas.Grind.{reverse_onto}
use Rattle.std.proofs.lemmas.List.Folds.{find-append}
use Rattle.std.proofs.lemmas.List.Sorted.{IsPermutation-reverse, sum_by-IsPermutation}
use Rattle.std.proofs.lemmas.List.Sums.{sum_by-cons, sum_by-le-sum_by}
use Rattle.cache_sets.specs.Caches.{CacheView, home_of, reserved_slot, room_for, set_at, set_of, slot_of}
use Rattle.cache_sets.specs.Sound.{IsSound, IsSoundSet, concerns}
use Rattle.cache_sets.specs.Ways.{Way, holds, is_free, is_reserved_for, is_unreserved, names, room_in}

-- ---- a test that at most one element of a list passes

module _ {X : Type 0} where
  count_by-cons : (p : X → Bool) (x : X) (xs : List X) → count_by p (x ∷ xs) ≡ cond (p x) 1 0 + count_by p xs
  count_by-cons p x xs = sum_by-cons (λ y. cond (p y) 1 0) x xs

  found-passes : (p : X → Bool) (xs : List X) (x : X) → find p xs ≡ Some x → p x ≡ true
  found-passes p [] x is = absurd cc
  found-passes p (y ∷ ys) x is = by (p y) refl is (found-passes p ys x)
    where
      by : (b : Bool) → p y ≡ b → cond b (Some y) (find p ys) ≡ Some x → (find p ys ≡ Some x → p x ≡ true) → p x ≡ true
      by true e is rest = let same : y ≡ x = cc in ap p (sym same) ∙ e
      by false e is rest = rest is

  found-counts : (p q : X → Bool) (xs : List X) (x : X) → find q xs ≡ Some x → p x ≡ true → 1 ≤ count_by p xs
  found-counts p q [] x is passes = absurd cc
  found-counts p q (y ∷ ys) x is passes =
      let more = by (q y) (p y) refl is (λ is. found-counts p q ys x is passes) in
      omega (arith, more, count_by-cons p y ys)
    where
      by : (b d : Bool) → p y ≡ d → cond b (Some y) (find q ys) ≡ Some x → (find q ys ≡ Some x → 1 ≤ count_by p ys) → 1 ≤ cond d 1 0 + count_by p ys
      by b true e is rest = omega arith
      by true false e is rest = let same : y ≡ x = cc in absurd cc
      by false false e is rest = omega (arith, rest is)

  -- what some search finds, one for that test does
  only-found : (p q : X → Bool) (xs : List X) (x : X) → count_by p xs ≤ 1 → find q xs ≡ Some x → p x ≡ true → find p xs ≡ Some x
  only-found p q [] x once is passes = absurd cc
  only-found p q (y ∷ ys) x once is passes = by (q y) (p y) refl is (omega (arith, once, count_by-cons p y ys)) (λ once is. only-found p q ys x once is passes)
    where
      by : (b d : Bool) → p y ≡ d → cond b (Some y) (find q ys) ≡ Some x → cond d 1 0 + count_by p ys ≤ 1 → (count_by p ys ≤ 1 → find q ys ≡ Some x → find p ys ≡ Some x) → cond d (Some y) (find p ys) ≡ Some x
      by true true e is once rest = is
      by true false e is once rest = let same : y ≡ x = cc in absurd cc
      by false true e is once rest = let more = found-counts p q ys x is passes in absurd (omega (arith, more, once))
      by false false e is once rest = rest (omega (arith, once)) is

  none-counts : (p : X → Bool) (xs : List X) → count_by p xs ≡ 0 → find p xs ≡ None
  none-counts p [] none = refl
  none-counts p (y ∷ ys) none = by (p y) (omega (arith, none, count_by-cons p y ys)) (none-counts p ys)
    where
      by : (d : Bool) → cond d 1 0 + count_by p ys ≡ 0 → (count_by p ys ≡ 0 → find p ys ≡ None) → cond d (Some y) (find p ys) ≡ None
      by true none rest = absurd (omega (arith, none))
      by false none rest = rest (omega (arith, none))

  or-none : (o : Option X) → option_or o None ≡ o
  or-none None = refl
  or-none (Some x) = refl

  found-reverse : (p : X → Bool) (xs : List X) → count_by p xs ≤ 1 → find p (reverse xs) ≡ find p xs
  found-reverse p [] once = refl
  found-reverse p (y ∷ ys) once = ap (find p) (reverse_onto ys y []) ∙ (find-append p (reverse ys) (y ∷ []) ∙ by (p y) (omega (arith, once, count_by-cons p y ys)) (found-reverse p ys))
    where
      by : (d : Bool) → cond d 1 0 + count_by p ys ≤ 1 → (count_by p ys ≤ 1 → find p (reverse ys) ≡ find p ys) → option_or (find p (reverse ys)) (cond d (Some y) None) ≡ cond d (Some y) (find p ys)
      by true once turned =
          let rest : count_by p ys ≡ 0 = omega (arith, once) in
          ap (λ o. option_or o (Some y)) (turned (omega (arith, rest)) ∙ none-counts p ys rest)
      by false once turned = or-none (find p (reverse ys)) ∙ turned (omega (arith, once))

-- ---- one set

one-most : (b : Bool) → cond b 1 0 ≤ 1
one-most true = omega arith
one-most false = omega arith

one-either : (a b : Bool) → cond a 1 0 ≤ cond (a || b) 1 0
one-either true b = omega arith
one-either false b = omega arith

once : {sets ways n : ℕ} {members : List Way} (line : ℕ) → IsSoundSet sets ways n members → count_by (concerns line) members ≤ 1
once {sets} {ways} {n} line sound = omega (arith, sound.own line, one-most (line % sets == n))

-- a way that is found, and has to do with a line, is the line's only one
alone : {sets ways n : ℕ} {members : List Way} (line : ℕ) (q : Way → Bool) (way : Way) → IsSoundSet sets ways n members → find q members ≡ Some way → concerns line way ≡ true → find (concerns line) members ≡ Some way
alone {members = members} line q way sound is passes = only-found (concerns line) q members way (once line sound) is passes

-- the way for a new line is not reserved, and a line that it holds has no other
room-alone : {sets ways n : ℕ} {members : List Way} (victim : ℕ) (way : Way) → IsSoundSet sets ways n members → room_in members ≡ Some way → holds victim way ≡ true → (find (concerns victim) members ≡ Some way) × (is_unreserved way ≡ true)
room-alone {members = members} victim way sound is holds_it = by (find is_free members) refl is
  where
    concerned : concerns victim way ≡ true
    concerned = or_left (holds victim way) (is_reserved_for victim way) holds_it

    by : (free : Option Way) → find is_free members ≡ free → option_or free (find is_unreserved (reverse members)) ≡ Some way → (find (concerns victim) members ≡ Some way) × (is_unreserved way ≡ true)
    by (Some w) e is =
        let same : find is_free members ≡ Some way = e ∙ is in
        (alone victim is_free way sound same concerned, (and_parts (is_none way.line) (is_none way.reserved) (found-passes is_free members way same)).1)
    by None e is =
        let once = once victim sound in
        let turned : count_by (concerns victim) (reverse members) ≤ 1 = omega (arith, once, sum_by-IsPermutation (λ w. cond (concerns victim w) 1 0) members (reverse members) (IsPermutation-reverse members)) in (
          sym (found-reverse (concerns victim) members once) ∙ only-found (concerns victim) is_unreserved (reverse members) way turned is concerned,
          found-passes is_unreserved (reverse members) way is,
        )

bare : (line : ℕ) (mark : Option ℕ) → is_none mark ≡ true → names line mark ≡ true → ⊥
bare line None none is = cc
bare line (Some marked) none is = cc

-- ---- a cache

pub record IsLeaving (victim : ℕ) (way : Way) (cache : CacheView) : Type 0 where
  pub held : slot_of victim cache ≡ Some way.slot
  pub unreserved : reserved_slot victim cache ≡ None

pub victim-leaves : (line victim : ℕ) (way : Way) (cache : CacheView) → IsSound cache → room_for line cache ≡ Some way → way.line ≡ Some victim → IsLeaving victim way cache
victim-leaves line victim way cache sound is holds_it =
    let n = home_of line cache in
    let members = set_at n cache in
    let some = sound.some in
    let set = sound.each n (omega arith) in
    let here : holds victim way ≡ true = ap (names victim) holds_it ∙ eq-eqb victim victim refl in
    let (only, unreserved) = room-alone victim way set is here in
    let count = found-counts (concerns victim) (concerns victim) members way only (or_left (holds victim way) (is_reserved_for victim way) here) in
    let home : home_of victim cache ≡ n =
    ⊎_elim (λ e. e)
    (λ ne.
    let none = ap {B = ℕ} (λ b. cond b 1 0) (ne_eqb (home_of victim cache) n ne) in
    absurd (omega (arith, count, set.own victim, none)))
    (cases_eq (home_of victim cache) n) in
    let there : set_of victim cache ≡ members = ap (λ k. set_at k cache) home in
    let fits : count_by (holds victim) members ≤ 1 = omega (arith, once victim set, sum_by-le-sum_by (λ w. cond (holds victim w) 1 0) (λ w. cond (concerns victim w) 1 0) members (λ w. one-either (holds victim w) (is_reserved_for victim w))) in
    record {
      held = ap (λ m. option_map (λ (w : Way). w.slot) (find (holds victim) m)) there ∙ ap (option_map (λ (w : Way). w.slot)) (only-found (holds victim) (concerns victim) members way fits only here);
      unreserved = ap (λ m. option_map (λ (w : Way). w.slot) (find (is_reserved_for victim) m)) there ∙ ap (option_map (λ (w : Way). w.slot)) (none (find (is_reserved_for victim) members) refl);
    }
  where
    none : (o : Option Way) → find (is_reserved_for victim) (set_at (home_of line cache) cache) ≡ o → o ≡ None
    none None e = refl
    none (Some w) e =
        let set = sound.each (home_of line cache) (let some = sound.some in omega arith) in
        let passes = found-passes (is_reserved_for victim) (set_at (home_of line cache) cache) w e in
        let other = alone victim (is_reserved_for victim) w set e (or_right (holds victim w) (is_reserved_for victim w) passes) in
        let here : holds victim way ≡ true = ap (names victim) holds_it ∙ eq-eqb victim victim refl in
        let (only, unreserved) = room-alone victim way set is here in
        let same : w ≡ way = cc in
        absurd (bare victim way.reserved unreserved (ap (is_reserved_for victim) (sym same) ∙ passes))
