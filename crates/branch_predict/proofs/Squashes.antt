-- What a squash leaves of a stack along which numbers rise: what goes stands at the end.
use Rattle.std.proofs.Common.{◌≡◌, ℕ, zero, suc, ◌+◌, ◌-◌, ◌<◌, ◌≤◌, Bool, true, false, List, [], ◌∷◌, ◌++◌, length, get_or, take, filter, Option, Some, None, nat_lt, refl, sym, ap, subst, ◌∙◌, arith}
use Rattle.std.specs.List.{All, slice_get}
use Rattle.std.specs.List.Sorted.{IsNonDecreasingBy}
use Rattle.std.proofs.lemmas.Bool.Decides.{nat_tests}
use Rattle.std.proofs.lemmas.List.{take_more, take_all, append-nil}
use Rattle.std.proofs.lemmas.List.Elements.{filter-append, All-filter}
use Rattle.std.proofs.lemmas.List.Kept.{IsNonDecreasingBy-filter}
use Rattle.std.proofs.lemmas.Option.{slice_get-get_or, slice_get_within, get_or_from_slice_get}
use Rattle.circular_buffer.specs.Buffer.{last_item}
use Rattle.list_facts.specs.Filters.{filter-all, filter-without_last}
use Rattle.branch_predict.specs.Parts.{AreNumbered, is_from}
use Rattle.branch_predict.specs.declared.return_stack.Pushed.{Pushed}

-- the youngest is not older than the mark: it goes
pub filter-young : (mark : ℕ) (xs : List Pushed) (last : Option Pushed) → last_item xs ≡ last → is_from mark last ≡ true →
    filter (λ (p : Pushed). nat_lt p.number mark) (take (length xs - 1) xs) ≡ filter (λ (p : Pushed). nat_lt p.number mark) xs
filter-young mark xs None is young = absurd (cc)
filter-young mark xs (Some p) is young =
    filter-without_last (λ (q : Pushed). nat_lt q.number mark) xs p is (grind (arith, nat_tests))

-- it is older, so all are, or there is none
pub filter-old : (mark : ℕ) (xs : List Pushed) (last : Option Pushed) → last_item xs ≡ last → is_from mark last ≡ false → IsNonDecreasingBy (λ (p : Pushed). p.number) xs →
    filter (λ (p : Pushed). nat_lt p.number mark) xs ≡ xs
filter-old mark xs None is old rising =
    filter-all (λ (p : Pushed). nat_lt p.number mark) xs
    (λ k d l.
    let some : last_item xs ≡ Some (get_or xs (length xs - 1) d) = slice_get-get_or xs (length xs - 1) d (omega arith) in
    absurd (cc))
filter-old mark xs (Some p) is old rising =
    filter-all (λ (q : Pushed). nat_lt q.number mark) xs
    (λ k d l.
    let e : get_or xs (length xs - 1) d ≡ p = get_or_from_slice_get xs (length xs - 1) p d is in
    let below : (get_or xs k d).number ≤ p.number = subst (λ (q : Pushed). (get_or xs k d).number ≤ q.number) e (rising k (length xs - 1) d (omega arith) (omega arith)) in
    grind (arith, nat_tests))

-- what stays of a numbered stack is one
pub AreNumbered-filter : (p : Pushed → Bool) (xs : List Pushed) (n : ℕ) → AreNumbered xs n → AreNumbered (filter p xs) n
AreNumbered-filter p xs n h = record {
  rising = IsNonDecreasingBy-filter (λ (q : Pushed). q.number) p xs h.rising;
  made = All-filter p (λ (q : Pushed). q.number < n) xs h.made;
}
