-- What cutting leaves of accesses along which numbers rise: what goes stands at the end.
use Rattle.std.proofs.Common.{◌≡◌, ℕ, zero, suc, ◌-◌, ◌<◌, ◌≤◌, true, false, List, [], ◌∷◌, length, get_or, take, filter, Option, Some, None, nat_le, refl, sym, ap, subst, ◌∙◌, ⊎_elim, arith}
use Rattle.std.proofs.lemmas.Bool.Decides.{nat_tests}
use Rattle.std.proofs.lemmas.List.{get_or-take}
use Rattle.std.proofs.lemmas.Bool.{cases_lt}
use Rattle.std.proofs.lemmas.Option.{slice_get-get_or, get_or_from_slice_get}
use Rattle.circular_buffer.specs.Buffer.{last_item}
use Rattle.list_facts.specs.Filters.{filter-all, filter-without_last}
use Rattle.memory_queue.specs.Queues.{AreRising, is_after}
use Rattle.memory_queue.specs.declared.queued.Queued.{Queued}
use Rattle.memory_queue.proofs.Walking.{length-take}

-- the first ones of rising numbers rise
pub rising-without_last : (xs : List Queued) → AreRising xs → AreRising (take (length xs - 1) xs)
rising-without_last xs rising i k d below within =
    let n = length xs - 1 in
    let long : length (take n xs) ≡ n = length-take xs n (omega arith) in
    let low : (get_or xs i d).seq < (get_or xs k d).seq = rising i k d below (omega (arith, within, long)) in
    let first = ap (λ (x : Queued). x.seq) (get_or-take n xs i d (omega (arith, below, within, long))) in
    let second = ap (λ (x : Queued). x.seq) (get_or-take n xs k d (omega (arith, within, long))) in
    omega (arith, low, first, second)

-- the youngest has a greater number: it goes
pub filter-after : (seq : ℕ) (xs : List Queued) (last : Option Queued) → last_item xs ≡ last → is_after seq last ≡ true →
    filter (λ (x : Queued). nat_le x.seq seq) (take (length xs - 1) xs) ≡ filter (λ (x : Queued). nat_le x.seq seq) xs
filter-after seq xs None is after = absurd cc
filter-after seq xs (Some x) is after =
    filter-without_last (λ (y : Queued). nat_le y.seq seq) xs x is (grind (arith, nat_tests))

-- it has none, so no other has, or there is no access
pub filter-kept : (seq : ℕ) (xs : List Queued) (last : Option Queued) → last_item xs ≡ last → is_after seq last ≡ false → AreRising xs →
    filter (λ (x : Queued). nat_le x.seq seq) xs ≡ xs
filter-kept seq xs None is kept rising =
    filter-all (λ (x : Queued). nat_le x.seq seq) xs
    (λ k d l.
    let some : last_item xs ≡ Some (get_or xs (length xs - 1) d) = slice_get-get_or xs (length xs - 1) d (omega arith) in
    absurd (cc))
filter-kept seq xs (Some x) is kept rising =
    filter-all (λ (y : Queued). nat_le y.seq seq) xs
    (λ k d l.
    let e : get_or xs (length xs - 1) d ≡ x = get_or_from_slice_get xs (length xs - 1) x d is in
    let below : (get_or xs k d).seq ≤ x.seq =
    ⊎_elim (λ (before : k < length xs - 1). omega (arith, subst (λ (y : Queued). (get_or xs k d).seq < y.seq) e (rising k (length xs - 1) d before (omega arith))))
    (λ (past : length xs - 1 ≤ k). let here : k ≡ length xs - 1 = omega (arith, past, l) in omega (arith, ap (λ (y : Queued). y.seq) (ap (λ j. get_or xs j d) here ∙ e)))
    (cases_lt k (length xs - 1)) in
    grind (arith, nat_tests))

-- the first ones of the first ones are the first ones
take-take : (m n : ℕ) (xs : List Queued) → m ≤ n → take m (take n xs) ≡ take m xs
take-take zero n xs le = refl
take-take (suc m) zero xs le = absurd (omega (arith, le))
take-take (suc m) (suc n) [] le = refl
take-take (suc m) (suc n) (x ∷ xs) le = ap (λ (ys : List Queued). x ∷ ys) (take-take m n xs (omega (arith, le)))

-- they still are once the last is gone
pub oldest-less : (ys xs zs : List Queued) → zs ≡ take (length ys - 1) ys → ys ≡ take (length ys) xs → zs ≡ take (length zs) xs
oldest-less ys xs zs less oldest =
    let n = length ys - 1 in
    let long : length zs ≡ n = ap length less ∙ length-take ys n (omega arith) in
    less ∙ (ap (take n) oldest ∙ (take-take n (length ys) xs (omega arith) ∙ ap (λ i. take i xs) (sym long)))
