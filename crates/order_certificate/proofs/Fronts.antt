-- What the text of an order, and what each front of it, is read as.
use Rattle.std.proofs.Common.{◌≡◌, ℕ, ◌+◌, ◌≤◌, ◌⊎◌, inl, inr, List, [], ◌∷◌, ◌++◌, length, sum, Option, Result, Ok, Err, refl, sym, ap, ◌∙◌, subst, arith, append_assoc, append-nil, length-append}
use Rattle.std.specs.List.{AllByRecursion, flat_map}
use Rattle.order_certificate.specs.declared.fault.TextFault.{TextFault}
use Rattle.order_certificate.specs.declared.fault.TextFault.TheVariants.{Truncated}
use Rattle.rsim_base.specs.Limits.{max_steps}
use Rattle.order_certificate.specs.Reading.{pieces, AreCounts, IsBody, IsHeading}
use Rattle.order_certificate.proofs.Bodies.{heading_taken, body_entry, body_end, printed}
use Rattle.order_certificate.proofs.Counts.{ending_body, ending_written}
use Rattle.order_certificate.proofs.Cuts.{EndsInLine, HasLine, front_line, pieces_last}
use Rattle.order_certificate.proofs.LineReads.{IsWritten}
use Rattle.order_certificate.proofs.Orders.{ended_all}

-- what a front of an order's text is read as, behind which these bytes of the text stand
abbrev pub front_of : {C : Type 0} → C → List ℕ → Result C TextFault
front_of c [] = Ok c
front_of c (b ∷ behind) = Err Truncated

front_cut : {C : Type 0} (c : C) (front behind : List ℕ) → EndsInLine front behind → front_of c behind ≡ Err Truncated
front_cut c front behind ends = ap (front_of c) ends.some

module _ {A C : Type 0} {Is : List ℕ → A → Type 0} {P : A → Type 0} {body : A → List ℕ} {at : List ℕ → Option (A × List ℕ)} (w : IsWritten Is P body at) where
  pub heading_front : (k : ℕ) (Then : A → List (List ℕ) → Type 0) (c : C) (a : A) (left front behind : List ℕ) → P a → front ++ behind ≡ body a ++ 10 ∷ left →
      ((rest : List ℕ) → rest ++ behind ≡ left → Then a (pieces rest)) → IsHeading Is k Then (pieces front) (front_of c behind)
  heading_front k Then c a left front behind ok e more = by_line (front_line (body a) left front behind (w.free a ok) e)
    where
      by_line : EndsInLine front behind ⊎ HasLine (body a) left front behind → IsHeading Is k Then (pieces front) (front_of c behind)
      by_line (inl ends) = subst (λ ps. IsHeading Is k Then ps (front_of c behind)) (sym (pieces_last front ends.free)) (front_cut c front behind ends)
      by_line (inr line) =
          heading_taken w k Then front a line.rest (front_of c behind) (ap at line.is ∙ w.again a line.rest ok) (more line.rest line.same)

  module _ (order : List A → List ℕ → C) (n : ℕ) (counts : List ℕ) (long : length counts ≡ n) (few : AreCounts counts) (few_steps : sum counts ≤ max_steps) where
    end_front : (entries : List A) (k : ℕ) (front behind : List ℕ) → front ++ behind ≡ ending_body counts ++ 10 ∷ [] → IsBody Is order n entries k (pieces front) (front_of (order entries counts) behind)
    end_front entries k front behind e = by_line (front_line (ending_body counts) [] front behind ((ending_written n).free counts (long, few)) e)
      where
        empty : (rest more : List ℕ) → rest ++ more ≡ [] → (length rest ≡ 0) × (more ≡ [])
        empty [] more e = (refl, e)
        empty (b ∷ rest) more e = absurd (let no : ⊥ = cc in no)

        by_line : EndsInLine front behind ⊎ HasLine (ending_body counts) [] front behind → IsBody Is order n entries k (pieces front) (front_of (order entries counts) behind)
        by_line (inl ends) = subst (λ ps. IsBody Is order n entries k ps (front_of (order entries counts) behind)) (sym (pieces_last front ends.free)) (front_cut (order entries counts) front behind ends)
        by_line (inr line) =
            let none = empty line.rest behind line.same in
            let is = body_end w order n entries k front counts line.rest (ap (Rattle.order_certificate.specs.Fields.ending_at n) line.is ∙ (ending_written n).again counts line.rest (long, few)) in
            subst (IsBody Is order n entries k (pieces front)) (ended_all counts (order entries counts) (k + 1) line.rest few_steps none.0 ∙ ap (front_of (order entries counts)) (sym none.1)) is

    pub body_front : (es entries : List A) (k : ℕ) (front behind : List ℕ) → AllByRecursion P es → length (entries ++ es) ≤ max_steps →
        front ++ behind ≡ flat_map (printed w order n) es ++ (ending_body counts ++ 10 ∷ []) → IsBody Is order n entries k (pieces front) (front_of (order (entries ++ es) counts) behind)
    body_front [] entries k front behind all room e =
        subst (λ xs. IsBody Is order n entries k (pieces front) (front_of (order xs counts) behind)) (sym (append-nil entries)) (end_front entries k front behind e)
    body_front (a ∷ es) entries k front behind all room e =
        by_line (λ rest same. body_front es (entries ++ a ∷ []) (k + 1) rest behind all.1 (subst (λ xs. length xs ≤ max_steps) (sym moved) room) same) (front_line (body a) left front behind (w.free a all.0) (e ∙ text_is))
      where
        left : List ℕ
        left = flat_map (printed w order n) es ++ (ending_body counts ++ 10 ∷ [])

        text_is : flat_map (printed w order n) (a ∷ es) ++ (ending_body counts ++ 10 ∷ []) ≡ body a ++ 10 ∷ left
        text_is = append_assoc (body a ++ 10 ∷ []) (flat_map (printed w order n) es) (ending_body counts ++ 10 ∷ []) ∙ append_assoc (body a) (10 ∷ []) left

        moved : (entries ++ a ∷ []) ++ es ≡ entries ++ a ∷ es
        moved = append_assoc entries (a ∷ []) es

        by_line : ((rest : List ℕ) → rest ++ behind ≡ left → IsBody Is order n (entries ++ a ∷ []) (k + 1) (pieces rest) (front_of (order ((entries ++ a ∷ []) ++ es) counts) behind)) →
            EndsInLine front behind ⊎ HasLine (body a) left front behind → IsBody Is order n entries k (pieces front) (front_of (order (entries ++ a ∷ es) counts) behind)
        by_line more (inl ends) =
            subst (λ ps. IsBody Is order n entries k ps (front_of (order (entries ++ a ∷ es) counts) behind)) (sym (pieces_last front ends.free)) (front_cut (order (entries ++ a ∷ es) counts) front behind ends)
        by_line more (inr line) =
            body_entry w order n entries k front a line.rest (front_of (order (entries ++ a ∷ es) counts) behind) (ap at line.is ∙ w.again a line.rest all.0) (omega (arith, room, length-append entries (a ∷ es)))
            (subst (λ xs. IsBody Is order n (entries ++ a ∷ []) (k + 1) (pieces line.rest) (front_of (order xs counts) behind)) moved (more line.rest line.same))
