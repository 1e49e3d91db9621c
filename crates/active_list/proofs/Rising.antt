-- Numbers that rise along a list.
use Rattle.std.proofs.Common.{◌≡◌, ℕ, ◌+◌, ◌-◌, ◌<◌, ◌≤◌, List, length, get_or, nat_lt, false, Some, None, inl, inr, refl, sym, ◌∙◌, arith}
use Rattle.std.proofs.Math.Nat.{eq-or-lt_of_le}
use Rattle.std.proofs.lemmas.Bool.{le-ltb, ltb-false}
use Rattle.std.proofs.lemmas.Option.{slice_get_within, slice_get_cases, slice_get-get_or, get_or_from_slice_get}
use Rattle.active_list.specs.declared.flight.Flight.{Flight}
use Rattle.active_list.specs.Laws.{AreRising, NoneIsAfter, PushKeepsRising, RetireKeepsRising, PopsKeepRising}
use Rattle.active_list.specs.Lists.{is_after, youngest}
use Rattle.active_list.proofs.Elements.{take_stands, drop_stands, push_stands}

pub push_keeps : PushKeepsRising
push_keeps f entries rising below i k a b lt at_i at_k =
    elim (push_stands entries f i a at_i) [
      | inl first ↦ elim (push_stands entries f k b at_k) [
        | inl second ↦ rising i k a b lt first second
        | inr last ↦ let less = below i a (slice_get_within entries i a first) in rw (← last.1) (rw (get_or_from_slice_get entries i a a first) at less)
      ]
      | inr last ↦ elim (push_stands entries f k b at_k) [
        | inl second ↦ let within = slice_get_within entries k b second in absurd (omega (arith, last.0))
        | inr both ↦ absurd (omega (arith, last.0, both.0))
      ]
    ]

pub retire_keeps : RetireKeepsRising
retire_keeps entries rising i k f g lt at_i at_k = rising (1 + i) (1 + k) f g (omega arith) (drop_stands 1 entries i f at_i) (drop_stands 1 entries k g at_k)

pub pops_keep : PopsKeepRising
pops_keep entries rising i k f g lt at_i at_k = rising i k f g lt (take_stands _ entries i f at_i) (take_stands _ entries k g at_k)

is_after-some : (seq : ℕ) (entries : List Flight) (y : Flight) → youngest entries ≡ Some y → is_after seq entries ≡ nat_lt seq y.seq
is_after-some seq entries y is = rw is refl

is_after-none : (seq : ℕ) (entries : List Flight) → youngest entries ≡ None → is_after seq entries ≡ false
is_after-none seq entries is = rw is refl

-- no entry has a greater number than the youngest
youngest_is_greatest : (entries : List Flight) → AreRising entries → (y : Flight) → youngest entries ≡ Some y → (k : ℕ) (d : Flight) → k < length entries → (get_or entries k d).seq ≤ y.seq
youngest_is_greatest entries rising y is k d within =
    let last = length entries - 1 in
    let upto : k ≤ last = omega arith in
    elim (eq-or-lt_of_le upto) [
      | inl same ↦ rw (same, get_or_from_slice_get entries last y d is) (omega arith)
      | inr before ↦ let less = rising k last (get_or entries k d) y before (slice_get-get_or entries k d within) is in omega (arith, less)
    ]

pub none_is_after : NoneIsAfter
none_is_after seq entries rising =
    elim (slice_get_cases entries (length entries - 1)).1 [
      | inl last ↦ let y = last.0 in let decides = is_after-some seq entries y last.2 in (
        λ no k d within. let most = youngest_is_greatest entries rising y last.2 k d within in let low = ltb-false seq y.seq (sym decides ∙ no) in omega (arith, most, low),
        λ low. decides ∙ le-ltb seq y.seq (rw last.3 at (low (length entries - 1) y last.1)),
      )
      | inr past ↦ (λ _ k d within. absurd (omega (arith, past.0)), λ _. is_after-none seq entries past.1)
    ]
