-- Numbers without gaps.
use Rattle.std.proofs.Common.{◌≡◌, ℕ, ◌+◌, ◌-◌, ◌<◌, List, length, slice_get, slice_set, Some, inl, inr, refl, sym, ap, ◌∙◌, arith}
use Rattle.std.proofs.lemmas.Option.{slice_get_within}
use Rattle.active_list.specs.declared.flight.Flight.{Flight}
use Rattle.active_list.specs.Laws.{AreRising, ChangeKeepsNumbers, ChangeKeepsRising, NumberedAreRising, PopsKeepNumbers, PushKeepsNumbers, RetireKeepsNumbers}
use Rattle.active_list.specs.Lists.{AreNumbered}
use Rattle.active_list.proofs.Elements.{drop_stands, push_stands, set_stands, take_stands}

-- what stands in a changed list has the number of what stood there
same_number : (entries : List Flight) (k : ℕ) (f g : Flight) → slice_get entries k ≡ Some f → g.seq ≡ f.seq → (i : ℕ) (a : Flight) → slice_get (slice_set entries k g) i ≡ Some a
    → (b : Flight) × (slice_get entries i ≡ Some b) × (a.seq ≡ b.seq)
same_number entries k f g at same i a is =
    elim (set_stands entries k g i a is) [
      | inl before ↦ (a, before, refl)
      | inr here ↦ (f, ap (slice_get entries) here.0 ∙ at, ap (λ (x : Flight). x.seq) (sym here.1) ∙ same)
    ]

pub change_keeps_rising : ChangeKeepsRising
change_keeps_rising entries k f g rising at same i j a b lt at_i at_j =
    let first = same_number entries k f g at same i a at_i in
    let second = same_number entries k f g at same j b at_j in
    omega (arith, rising i j first.0 second.0 lt first.1 second.1, first.2, second.2)

pub numbered_are_rising : NumberedAreRising
numbered_are_rising first entries numbered i k f g lt at_i at_k = omega (arith, numbered i f at_i, numbered k g at_k)

pub push_keeps_numbers : PushKeepsNumbers
push_keeps_numbers first f entries numbered is k g at =
    elim (push_stands entries f k g at) [
      | inl before ↦ numbered k g before
      | inr last ↦ let same = ap (λ (x : Flight). x.seq) last.1 in omega (arith, last.0, same)
    ]

pub retire_keeps_numbers : RetireKeepsNumbers
retire_keeps_numbers first entries numbered k f at = omega (arith, numbered (1 + k) f (drop_stands 1 entries k f at))

pub pops_keep_numbers : PopsKeepNumbers
pops_keep_numbers first entries numbered k f at = numbered k f (take_stands _ entries k f at)

pub change_keeps_numbers : ChangeKeepsNumbers
change_keeps_numbers first entries k f g numbered at same i a is =
    let before = same_number entries k f g at same i a is in
    before.2 ∙ numbered i before.0 before.1
