-- A text that is read as an order is that order's text.
use Rattle.std.proofs.Common.{◌≡◌, ℕ, ◌+◌, ◌≤◌, Bool, true, false, nat_lt, if◌then◌else◌, inl, inr, List, [], ◌∷◌, ◌++◌, length, sum, Option, Result, Ok, Err, refl, sym, ap, ◌∙◌, subst, arith, append_assoc, append-nil, length-append}
use Rattle.std.specs.List.{AllByRecursion, flat_map}
use Rattle.std.proofs.lemmas.Bool.Decides.{nat_tests}
use Rattle.order_certificate.specs.declared.fault.TextFault.{TextFault}
use Rattle.order_certificate.specs.declared.fault.TextFault.TheVariants.{BadLine, TooMany}
use Rattle.rsim_base.specs.Limits.{max_steps}
use Rattle.order_certificate.specs.Reading.{pieces, is_all, ended, IsBody, IsHeading}
use Rattle.order_certificate.proofs.Bodies.{printed}
use Rattle.order_certificate.proofs.Counts.{ending_body, ending_written}
use Rattle.order_certificate.proofs.Cuts.{pieces_cut, all_read}
use Rattle.order_certificate.proofs.LineReads.{IsWritten}

-- an order was read at its end line: the counts add to no more than they may, and nothing is left
record EndedWell {C : Type 0} (counts : List ℕ) (order c : C) (left : List (List ℕ)) : Type 0 where
  few : sum counts ≤ max_steps
  all : is_all left ≡ true
  same : order ≡ c

ended_well : {C : Type 0} (counts : List ℕ) (order c : C) (k : ℕ) (left : List (List ℕ)) → Ok c ≡ ended counts order k left → EndedWell counts order c left
ended_well {C} counts order c k left e = by_tests (nat_lt max_steps (sum counts)) (is_all left) refl refl e
  where
    by_tests : (many all : Bool) → nat_lt max_steps (sum counts) ≡ many → is_all left ≡ all → ◌≡◌ {A = Result C TextFault} (Ok c) (if many then Err TooMany else if all then Ok order else Err (BadLine k)) → EndedWell counts order c left
    by_tests true all is_many is_all_left e = absurd (let no : ⊥ = cc in no)
    by_tests false true is_many is_all_left e = record { few = grind (arith, nat_tests); all = is_all_left; same = let same : order ≡ c = cc in same }
    by_tests false false is_many is_all_left e = absurd (let no : ⊥ = cc in no)

module _ {A : Type 0} {Is : List ℕ → A → Type 0} {P : A → Type 0} {body : A → List ℕ} {at : List ℕ → Option (A × List ℕ)} (w : IsWritten Is P body at) where
  -- the value that a line of the heading tells
  pub record Told (Then : A → List (List ℕ) → Type 0) (text : List ℕ) : Type 0 where
    pub value : A
    pub rest : List ℕ
    pub is : text ≡ body value ++ 10 ∷ rest
    pub ok : P value
    pub then_so : Then value (pieces rest)

  pub heading_told : {C : Type 0} (k : ℕ) (Then : A → List (List ℕ) → Type 0) (text : List ℕ) (c : C) → IsHeading Is k Then (pieces text) (Ok c) → Told Then text
  heading_told {C} k Then text c read = by_pieces (pieces text) refl read
    where
      by_pieces : (ps : List (List ℕ)) → pieces text ≡ ps → IsHeading Is k Then ps (Ok c) → Told Then text
      by_pieces [] e read = absurd read
      by_pieces (piece ∷ []) e read = absurd (let no : ⊥ = cc in no)
      by_pieces (piece ∷ next ∷ more) e (inr read) = absurd (let bad : Ok c ≡ Err (BadLine k) = read.1 in let no : ⊥ = cc in no)
      by_pieces (piece ∷ next ∷ more) e (inl read) =
          let first = pieces_cut text piece next more e in
          let told = w.back piece read.0 read.1 in
          record { value = read.0; rest = first.rest; is = first.is ∙ ap (λ p. p ++ 10 ∷ first.rest) told.0; ok = told.1; then_so = subst (Then read.0) (sym first.left) read.2 }

  module _ {C : Type 0} (order : List A → List ℕ → C) (n : ℕ) where
    -- what the text behind the entries so far tells
    pub record Found (entries : List A) (text : List ℕ) (c : C) : Type 0 where
      pub more : List A
      pub counts : List ℕ
      pub same : order (entries ++ more) counts ≡ c
      pub is : text ≡ flat_map (printed w order n) more ++ (ending_body counts ++ 10 ∷ [])
      pub all : AllByRecursion P more
      pub few : length (entries ++ more) ≤ max_steps
      pub long : length counts ≡ n
      pub few_steps : sum counts ≤ max_steps

    pub body_found : (ps : List (List ℕ)) (entries : List A) (k : ℕ) (text : List ℕ) (c : C) → pieces text ≡ ps → length entries ≤ max_steps → IsBody Is order n entries k ps (Ok c) → Found entries text c
    body_found [] entries k text c e room read = absurd read
    body_found (piece ∷ []) entries k text c e room read = absurd (let no : ⊥ = cc in no)
    body_found (piece ∷ next ∷ more) entries k text c e room (inl read) =
        let first = pieces_cut text piece next more e in
        let told = w.back piece read.0 read.1 in
        let longer : length (entries ++ read.0 ∷ []) ≤ max_steps = omega (arith, read.2, length-append entries (read.0 ∷ [])) in
        let rest = body_found (next ∷ more) (entries ++ read.0 ∷ []) (k + 1) first.rest c first.left longer read.3 in
        let moved = append_assoc entries (read.0 ∷ []) rest.more in
        record {
          more = read.0 ∷ rest.more;
          counts = rest.counts;
          same = ap (λ es. order es rest.counts) (sym moved) ∙ rest.same;
          is = first.is ∙ ap (λ p. p ++ 10 ∷ first.rest) told.0 ∙ ap (λ t. body read.0 ++ 10 ∷ t) rest.is
              ∙ sym (append_assoc (body read.0) (10 ∷ []) (flat_map (printed w order n) rest.more ++ (ending_body rest.counts ++ 10 ∷ [])))
              ∙ sym (append_assoc (body read.0 ++ 10 ∷ []) (flat_map (printed w order n) rest.more) (ending_body rest.counts ++ 10 ∷ []));
          all = (told.1, rest.all);
          few = subst (λ es. length es ≤ max_steps) moved rest.few;
          long = rest.long;
          few_steps = rest.few_steps;
        }
    body_found (piece ∷ next ∷ more) entries k text c e room (inr (inl read)) = absurd (let bad : Ok c ≡ Err TooMany = read.3 in let no : ⊥ = cc in no)
    body_found (piece ∷ next ∷ more) entries k text c e room (inr (inr (inl read))) =
        let first = pieces_cut text piece next more e in
        let told = (ending_written n).back piece read.0 read.1 in
        let well = ended_well read.0 (order entries read.0) c (k + 1) (next ∷ more) read.2 in
        let none : first.rest ≡ [] = all_read first.rest (ap is_all first.left ∙ well.all) in
        record {
          more = [];
          counts = read.0;
          same = ap (λ es. order es read.0) (append-nil entries) ∙ well.same;
          is = first.is ∙ (λ i. told.0 i ++ 10 ∷ none i);
          all = tt;
          few = subst (λ es. length es ≤ max_steps) (sym (append-nil entries)) room;
          long = told.1.0;
          few_steps = well.few;
        }
    body_found (piece ∷ next ∷ more) entries k text c e room (inr (inr (inr read))) = absurd (let bad : Ok c ≡ Err (BadLine k) = read.2 in let no : ⊥ = cc in no)
