-- The counts of an end line, read one by one.
use Rattle.std.proofs.Common.{◌≡◌, ℕ, zero, suc, ◌+◌, ◌-◌, ◌<◌, ◌≤◌, List, [], ◌∷◌, ◌++◌, length, codes, decimal, Some, None, refl, sym, ap, ◌∙◌, subst, arith, append_assoc, append-nil}
use Rattle.std.specs.List.{flat_map}
use Rattle.std.proofs.lemmas.List.{append_cancel_right}
use Rattle.rsim_base.specs.Limits.{max_steps}
use Rattle.order_certificate.specs.Fields.{after, digit_at, count_at, counts_from, ending_at}
use Rattle.order_certificate.specs.OrderText.{ending}
use Rattle.order_certificate.specs.Reading.{AreCounts, IsEnding}
use Rattle.order_certificate.proofs.Decimals.{decimal_takes, decimal_again}
use Rattle.order_certificate.proofs.Feedless.{IsFeedless, feedless_none, feedless_byte, feedless_both, feedless_decimal}
use Rattle.order_certificate.proofs.LineReads.{IsWritten}
use Rattle.order_certificate.proofs.Words.{bind_some, bind_is, bind_none, some_parts, after_takes, after_again}

-- ---- the loop over the processors

pub counts_from_more : (n i : ℕ) (counts text : List ℕ) (count : ℕ) (rest : List ℕ) → i < n → count_at text ≡ Some (count, rest) →
    counts_from (n - i) counts text ≡ counts_from (n - (i + 1)) (counts ++ count ∷ []) rest
unfolding counts_from
counts_from_more n i counts text count rest below e =
    let left : n - i ≡ suc (n - (i + 1)) = omega arith in
    ap (λ k. counts_from k counts text) left ∙ bind_is (count_at text) _ _ e

pub counts_from_none : (n i : ℕ) (counts text : List ℕ) → i < n → count_at text ≡ None → counts_from (n - i) counts text ≡ None
unfolding counts_from
counts_from_none n i counts text below e =
    let left : n - i ≡ suc (n - (i + 1)) = omega arith in
    ap (λ k. counts_from k counts text) left ∙ bind_none (count_at text) _ e

pub counts_from_end : (n i : ℕ) (counts text rest : List ℕ) → n ≤ i → after (10 ∷ []) text ≡ Some rest → counts_from (n - i) counts text ≡ Some (counts, rest)
unfolding counts_from
counts_from_end n i counts text rest past e =
    let left : n - i ≡ 0 = omega arith in
    ap (λ k. counts_from k counts text) left ∙ bind_is (after (10 ∷ []) text) _ _ e

pub counts_from_no_end : (n i : ℕ) (counts text : List ℕ) → n ≤ i → after (10 ∷ []) text ≡ None → counts_from (n - i) counts text ≡ None
unfolding counts_from
counts_from_no_end n i counts text past e =
    let left : n - i ≡ 0 = omega arith in
    ap (λ k. counts_from k counts text) left ∙ bind_none (after (10 ∷ []) text) _ e

-- ---- the counts in a text

abbrev counted : ℕ → List ℕ
counted count = codes " " ++ decimal count

record IsCount (count : ℕ) (text rest : List ℕ) : Type 0 where
  is : text ≡ counted count ++ rest
  few : count ≤ max_steps

count_takes : (text : List ℕ) (count : ℕ) (rest : List ℕ) → count_at text ≡ Some (count, rest) → IsCount count text rest
unfolding count_at
count_takes text count rest e =
    let blank = bind_some (after (codes " ") text) _ _ e in
    let number = decimal_takes (max_steps + 1) blank.value count rest (omega arith) blank.more in
    record { is = after_takes (codes " ") text blank.value blank.is ∙ ap (λ t. 32 ∷ t) number.is; few = omega (arith, number.small) }

count_again : (count : ℕ) (rest : List ℕ) → count ≤ max_steps → digit_at rest ≡ None → count_at (counted count ++ rest) ≡ Some (count, rest)
unfolding count_at
count_again count rest few none =
    bind_is (after (codes " ") (counted count ++ rest)) _ (decimal count ++ rest) (after_again (codes " ") (decimal count ++ rest))
    ∙ decimal_again (max_steps + 1) count rest (omega arith) (omega arith) none

record HasCounts (n : ℕ) (before text counts rest : List ℕ) : Type 0 where
  more : List ℕ
  all : counts ≡ before ++ more
  is : text ≡ flat_map counted more ++ 10 ∷ rest
  long : length more ≡ n
  few : AreCounts more

counts_takes : (n : ℕ) (before text counts rest : List ℕ) → counts_from n before text ≡ Some (counts, rest) → HasCounts n before text counts rest
unfolding counts_from
counts_takes zero before text counts rest e =
    let feed = bind_some (after (codes "\n") text) _ _ e in
    let same = some_parts before feed.value counts rest feed.more in
    record {
      more = [];
      all = sym same.0 ∙ sym (append-nil before);
      is = after_takes (codes "\n") text feed.value feed.is ∙ ap (λ t. 10 ∷ t) same.1;
      long = refl;
      few = tt;
    }
counts_takes (suc n) before text counts rest e =
    let count = bind_some (count_at text) _ _ e in
    let taken = count_takes text count.value.0 count.value.1 count.is in
    let others = counts_takes n (before ++ count.value.0 ∷ []) count.value.1 counts rest count.more in
    record {
      more = count.value.0 ∷ others.more;
      all = others.all ∙ append_assoc before (count.value.0 ∷ []) others.more;
      is = taken.is ∙ ap (λ t. counted count.value.0 ++ t) others.is ∙ sym (append_assoc (counted count.value.0) (flat_map counted others.more) (10 ∷ rest));
      long = ap suc others.long;
      few = (taken.few, others.few);
    }

no_digit_next : (counts rest : List ℕ) → digit_at (flat_map counted counts ++ 10 ∷ rest) ≡ None
unfolding digit_at
no_digit_next [] rest = refl
no_digit_next (count ∷ counts) rest = refl

counts_again : (counts before rest : List ℕ) → AreCounts counts → counts_from (length counts) before (flat_map counted counts ++ 10 ∷ rest) ≡ Some (before ++ counts, rest)
unfolding counts_from
counts_again [] before rest few =
    bind_is (after (codes "\n") (10 ∷ rest)) _ rest (after_again (codes "\n") rest) ∙ ap (λ counts. Some (counts, rest)) (sym (append-nil before))
counts_again (count ∷ counts) before rest few =
    let left : List ℕ = flat_map counted counts ++ 10 ∷ rest in
    ap (counts_from (suc (length counts)) before) (append_assoc (counted count) (flat_map counted counts) (10 ∷ rest))
    ∙ bind_is (count_at (counted count ++ left)) _ (count, left) (count_again count left few.0 (no_digit_next counts rest))
    ∙ counts_again counts (before ++ count ∷ []) rest few.1
    ∙ ap (λ all. Some (all, rest)) (append_assoc before (count ∷ []) counts)

-- ---- the end line

-- the line without its line feed
unfoldable pub ending_body : List ℕ → List ℕ
ending_body counts = codes "end" ++ flat_map counted counts

pub ending_is : (counts : List ℕ) → ending counts ≡ ending_body counts ++ 10 ∷ []
unfolding ending ending_body
ending_is counts = refl

ending_takes : (n : ℕ) (text counts rest : List ℕ) → ending_at n text ≡ Some (counts, rest) → (text ≡ ending_body counts ++ 10 ∷ rest) × ((length counts ≡ n) × AreCounts counts)
unfolding ending_at ending_body
ending_takes n text counts rest e =
    let word = bind_some (after (codes "end") text) _ _ e in
    let taken = counts_takes n [] word.value counts rest word.more in (
      after_takes (codes "end") text word.value word.is ∙ ap (λ t. codes "end" ++ t) (taken.is ∙ ap (λ more. flat_map counted more ++ 10 ∷ rest) (sym taken.all)),
      (ap length taken.all ∙ taken.long, subst AreCounts (sym taken.all) taken.few),
    )

ending_again : (n : ℕ) (counts rest : List ℕ) → (length counts ≡ n) × AreCounts counts → ending_at n (ending_body counts ++ 10 ∷ rest) ≡ Some (counts, rest)
unfolding ending_at ending_body
ending_again n counts rest ok =
    bind_is (after (codes "end") (codes "end" ++ (flat_map counted counts ++ 10 ∷ rest))) _ (flat_map counted counts ++ 10 ∷ rest) (after_again (codes "end") (flat_map counted counts ++ 10 ∷ rest))
    ∙ ap (λ k. counts_from k [] (flat_map counted counts ++ 10 ∷ rest)) (sym ok.0) ∙ counts_again counts [] rest ok.1

counts_free : (counts : List ℕ) → AreCounts counts → IsFeedless (flat_map counted counts)
counts_free [] few = feedless_none
counts_free (count ∷ counts) few =
    feedless_both (counted count) (flat_map counted counts) (feedless_byte 32 (decimal count) refl (feedless_decimal count (omega (arith, few.0)))) (counts_free counts few.1)

ending_free : (counts : List ℕ) → AreCounts counts → IsFeedless (ending_body counts)
unfolding ending_body
ending_free counts few =
    feedless_byte 101 (110 ∷ 100 ∷ flat_map counted counts) refl (feedless_byte 110 (100 ∷ flat_map counted counts) refl (feedless_byte 100 (flat_map counted counts) refl (counts_free counts few)))

ending_back : (n : ℕ) (piece counts : List ℕ) → IsEnding n piece counts → (piece ≡ ending_body counts) × ((length counts ≡ n) × AreCounts counts)
ending_back n piece counts is = (append_cancel_right piece (ending_body counts) (codes "\n") (is.0 ∙ ending_is counts), (is.1, is.2))

pub ending_written : (n : ℕ) → IsWritten (IsEnding n) (λ counts. (length counts ≡ n) × AreCounts counts) ending_body (ending_at n)
ending_written n = record {
  is = λ counts ok. (sym (ending_is counts), ok.0, ok.1);
  back = ending_back n;
  free = λ counts ok. ending_free counts ok.1;
  takes = ending_takes n;
  again = ending_again n;
}
