-- What a text is read as, from what its front is read as. Entries are of any kind that has the laws of a kind of line.
use Rattle.std.proofs.Common.{◌≡◌, ℕ, suc, ◌+◌, ◌<◌, ◌≤◌, if◌then◌else◌, ◌⊎◌, inl, inr, List, [], ◌∷◌, ◌++◌, length, Option, Some, None, Result, Err, refl, sym, ap, ◌∙◌, subst, arith, append_assoc, append-nil, length-append}
use Rattle.std.specs.List.{AllByRecursion, flat_map}
use Rattle.order_certificate.specs.declared.fault.TextFault.{TextFault}
use Rattle.order_certificate.specs.declared.fault.TextFault.TheVariants.{BadLine, Truncated, TooMany}
use Rattle.rsim_base.specs.Limits.{max_steps}
use Rattle.order_certificate.specs.Fields.{ending_at, fault_at}
use Rattle.order_certificate.specs.Reading.{pieces, ended, IsBody, IsHeading}
use Rattle.order_certificate.proofs.Counts.{ending_body, ending_written}
use Rattle.order_certificate.proofs.Cuts.{IsLast, IsCut, cut, pieces_last, pieces_line, pieces_some}
use Rattle.order_certificate.proofs.LineReads.{IsWritten, written_piece}

-- ---- a line of the heading

module _ {A : Type 0} {Is : List ℕ → A → Type 0} {P : A → Type 0} {body : A → List ℕ} {at : List ℕ → Option (A × List ℕ)} (w : IsWritten Is P body at) where
  -- of a text that is read so the first piece is the line, and the other pieces are those of the rest
  pub pieces_taken : (text : List ℕ) (a : A) (rest : List ℕ) → at text ≡ Some (a, rest) → pieces text ≡ body a ∷ pieces rest
  pieces_taken text a rest e =
      let taken = w.takes text a rest e in
      ap pieces taken.0 ∙ pieces_line (body a) rest (w.free a taken.1)

  pub heading_taken : {C : Type 0} (k : ℕ) (Then : A → List (List ℕ) → Type 0) (text : List ℕ) (a : A) (rest : List ℕ) (r : Result C TextFault) → at text ≡ Some (a, rest) → Then a (pieces rest) → IsHeading Is k Then (pieces text) r
  heading_taken k Then text a rest r e more =
      let found = pieces_some rest in
      let whole : pieces text ≡ body a ∷ found.first ∷ found.others = pieces_taken text a rest e ∙ ap (λ ps. body a ∷ ps) found.is in
      subst (λ ps. IsHeading Is k Then ps r) (sym whole) (inl (a, w.is a (w.takes text a rest e).1, subst (Then a) found.is more))

  pub heading_none : (C : Type 0) (k : ℕ) (Then : A → List (List ℕ) → Type 0) (text : List ℕ) → at text ≡ None → IsHeading {C = C} Is k Then (pieces text) (Err (fault_at k text))
  heading_none C k Then text none = by_cut (cut text)
    where
      by_cut : IsLast text ⊎ IsCut text → IsHeading {C = C} Is k Then (pieces text) (Err (fault_at k text))
      by_cut (inl last) =
          subst (λ ps. IsHeading {C = C} Is k Then ps (Err (fault_at k text))) (sym (pieces_last text last.free)) (ap (λ t. Err (if t then BadLine k else Truncated)) last.none)
      by_cut (inr line) =
          let found = pieces_some line.rest in
          let whole : pieces text ≡ line.piece ∷ found.first ∷ found.others = ap pieces line.is ∙ pieces_line line.piece line.rest line.free ∙ ap (λ ps. line.piece ∷ ps) found.is in
          subst (λ ps. IsHeading {C = C} Is k Then ps (Err (fault_at k text))) (sym whole)
          (inr (λ a is. absurd (let e : Some (a, line.rest) ≡ None = sym (written_piece w line.piece a line.rest is) ∙ ap at (sym line.is) ∙ none in let no : ⊥ = cc in no), ap (λ t. Err (if t then BadLine k else Truncated)) line.some))

-- ---- the entries and the end line

module _ {A C : Type 0} {IsEntry : List ℕ → A → Type 0} {P : A → Type 0} {body : A → List ℕ} {at : List ℕ → Option (A × List ℕ)} (w : IsWritten IsEntry P body at) (order : List A → List ℕ → C) (n : ℕ) where
  pub body_entry : (entries : List A) (k : ℕ) (text : List ℕ) (e : A) (rest : List ℕ) (r : Result C TextFault) → at text ≡ Some (e, rest) → length entries < max_steps →
      IsBody IsEntry order n (entries ++ e ∷ []) (k + 1) (pieces rest) r → IsBody IsEntry order n entries k (pieces text) r
  body_entry entries k text e rest r found room more =
      let next = pieces_some rest in
      let whole : pieces text ≡ body e ∷ next.first ∷ next.others = pieces_taken w text e rest found ∙ ap (λ ps. body e ∷ ps) next.is in
      subst (λ ps. IsBody IsEntry order n entries k ps r) (sym whole)
      (inl (e, w.is e (w.takes text e rest found).1, room, subst (λ ps. IsBody IsEntry order n (entries ++ e ∷ []) (k + 1) ps r) next.is more))

  pub body_full : (entries : List A) (k : ℕ) (text : List ℕ) (e : A) (rest : List ℕ) → at text ≡ Some (e, rest) → max_steps ≤ length entries → IsBody IsEntry order n entries k (pieces text) (Err TooMany)
  body_full entries k text e rest found full =
      let next = pieces_some rest in
      let whole : pieces text ≡ body e ∷ next.first ∷ next.others = pieces_taken w text e rest found ∙ ap (λ ps. body e ∷ ps) next.is in
      subst (λ ps. IsBody IsEntry order n entries k ps (Err TooMany)) (sym whole) (inr (inl (e, w.is e (w.takes text e rest found).1, full, refl)))

  pub body_end : (entries : List A) (k : ℕ) (text counts rest : List ℕ) → ending_at n text ≡ Some (counts, rest) →
      IsBody IsEntry order n entries k (pieces text) (ended counts (order entries counts) (k + 1) (pieces rest))
  body_end entries k text counts rest found =
      let next = pieces_some rest in
      let whole : pieces text ≡ ending_body counts ∷ next.first ∷ next.others = pieces_taken (ending_written n) text counts rest found ∙ ap (λ ps. ending_body counts ∷ ps) next.is in
      let r : Result C TextFault = ended counts (order entries counts) (k + 1) (pieces rest) in
      subst (λ ps. IsBody IsEntry order n entries k ps r) (sym whole)
      (inr (inr (inl (counts, (ending_written n).is counts ((ending_written n).takes text counts rest found).1, ap (ended counts (order entries counts) (k + 1)) next.is))))

  pub body_none : (entries : List A) (k : ℕ) (text : List ℕ) → at text ≡ None → ending_at n text ≡ None → IsBody IsEntry order n entries k (pieces text) (Err (fault_at k text))
  body_none entries k text no_entry no_end = by_cut (cut text)
    where
      by_cut : IsLast text ⊎ IsCut text → IsBody IsEntry order n entries k (pieces text) (Err (fault_at k text))
      by_cut (inl last) =
          subst (λ ps. IsBody IsEntry order n entries k ps (Err (fault_at k text))) (sym (pieces_last text last.free)) (ap (λ t. Err (if t then BadLine k else Truncated)) last.none)
      by_cut (inr line) =
          let found = pieces_some line.rest in
          let whole : pieces text ≡ line.piece ∷ found.first ∷ found.others = ap pieces line.is ∙ pieces_line line.piece line.rest line.free ∙ ap (λ ps. line.piece ∷ ps) found.is in
          subst (λ ps. IsBody IsEntry order n entries k ps (Err (fault_at k text))) (sym whole)
          (inr (inr (inr (
            λ a is. absurd (let e : Some (a, line.rest) ≡ None = sym (written_piece w line.piece a line.rest is) ∙ ap at (sym line.is) ∙ no_entry in let no : ⊥ = cc in no),
            λ counts is. absurd (let e : Some (counts, line.rest) ≡ None = sym (written_piece (ending_written n) line.piece counts line.rest is) ∙ ap (ending_at n) (sym line.is) ∙ no_end in let no : ⊥ = cc in no),
            ap (λ t. Err (if t then BadLine k else Truncated)) line.some,
          ))))

  -- the line of an entry
  abbrev pub printed : A → List ℕ
  printed e = body e ++ 10 ∷ []

  pub body_entries : (es entries : List A) (k : ℕ) (rest : List ℕ) (r : Result C TextFault) → AllByRecursion P es → length (entries ++ es) ≤ max_steps →
      IsBody IsEntry order n (entries ++ es) (k + length es) (pieces rest) r → IsBody IsEntry order n entries k (pieces (flat_map printed es ++ rest)) r
  body_entries [] entries k rest r all few more =
      let none : k + 0 ≡ k = omega arith in
      subst (λ j. IsBody IsEntry order n entries j (pieces rest) r) none (subst (λ xs. IsBody IsEntry order n xs (k + 0) (pieces rest) r) (append-nil entries) more)
  body_entries (e ∷ es) entries k rest r all few more =
      let left : List ℕ = flat_map printed es ++ rest in
      let text_is : flat_map printed (e ∷ es) ++ rest ≡ body e ++ 10 ∷ left = append_assoc (printed e) (flat_map printed es) rest ∙ append_assoc (body e) (10 ∷ []) left in
      let found = w.again e left all.0 in
      let moved : (entries ++ e ∷ []) ++ es ≡ entries ++ e ∷ es = append_assoc entries (e ∷ []) es in
      let later : k + 1 + length es ≡ k + suc (length es) = omega arith in
      let room : length entries < max_steps = omega (arith, few, length-append entries (e ∷ es)) in
      subst (λ t. IsBody IsEntry order n entries k (pieces t) r) (sym text_is)
      (body_entry entries k (body e ++ 10 ∷ left) e left r found room
      (body_entries es (entries ++ e ∷ []) (k + 1) rest r all.1 (subst (λ xs. length xs ≤ max_steps) (sym moved) few)
      (subst (λ j. IsBody IsEntry order n ((entries ++ e ∷ []) ++ es) j (pieces rest) r) (sym later) (subst (λ xs. IsBody IsEntry order n xs (k + suc (length es)) (pieces rest) r) (sym moved) more))))
