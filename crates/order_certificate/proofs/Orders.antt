-- What the text of an order is read as, from what the parts of it are read as.
use Rattle.std.proofs.Common.{◌≡◌, ℕ, ◌+◌, ◌<◌, ◌≤◌, true, false, nat_lt, if◌then◌else◌, ◌⊎◌, inl, inr, List, [], ◌∷◌, ◌++◌, length, sum, codes, Option, Some, None, IsSome, Result, Ok, Err, refl, sym, ap, ◌∙◌, subst, arith, append_assoc, append-nil, length-append}
use Rattle.std.specs.List.{flat_map}
use Rattle.std.proofs.lemmas.Bool.Decides.{nat_tests}
use Rattle.std.proofs.lemmas.Grind.{flat_map-append}
use Rattle.std.proofs.lemmas.List.Elements.{All-append, All-cons, All-nil, recursion_from_All}
use Rattle.rsim_base.specs.declared.memory.Access.{Access}
use Rattle.rsim_base.specs.declared.memory.Model.{Model}
use Rattle.order_certificate.specs.declared.fault.TextFault.{TextFault}
use Rattle.order_certificate.specs.declared.fault.TextFault.TheVariants.{BadLine, Truncated, TooMany, Memory}
use Rattle.order_certificate.specs.Certificate.{CertificateView, IsInText}
use Rattle.rsim_base.specs.Limits.{max_steps}
use Rattle.order_certificate.specs.Fields.{after, model_at, processors_at, access_at, ending_at, fault_at, HasHeading, HasLines, IsOverfull}
use Rattle.order_certificate.specs.OrderText.{line}
use Rattle.order_certificate.specs.Reading.{pieces, is_all, ended, IsModel, IsProcessors, IsAccess, IsBody, IsHeading, order_of, IsOrder, IsRead, Reads}
use Rattle.order_certificate.proofs.Accesses.{access_body, line_is, access_written}
use Rattle.order_certificate.proofs.Bodies.{heading_taken, heading_none, body_full, body_end, body_none, body_entries}
use Rattle.order_certificate.proofs.Cuts.{not_all_read}
use Rattle.order_certificate.proofs.Headings.{version_at-after, version_written, model_body, model_written, processors_body, processors_written, heading_lines}
use Rattle.order_certificate.proofs.Words.{after_takes}

-- ---- results

pub reads_of : {C : Type 0} (P : Result C TextFault → Type 0) (r : Result C TextFault) → P r → Reads P r
reads_of P (Ok c) p = p
reads_of P (Err (BadLine k)) p = p
reads_of P (Err Truncated) p = p
reads_of P (Err TooMany) p = p
reads_of P (Err Memory) p = tt

pub reads_map : {C : Type 0} (P Q : Result C TextFault → Type 0) (r : Result C TextFault) → ((s : Result C TextFault) → P s → Q s) → Reads P r → Reads Q r
reads_map P Q (Ok c) f p = f (Ok c) p
reads_map P Q (Err (BadLine k)) f p = f (Err (BadLine k)) p
reads_map P Q (Err Truncated) f p = f (Err Truncated) p
reads_map P Q (Err TooMany) f p = f (Err TooMany) p
reads_map P Q (Err Memory) f p = tt

-- ---- the lines of the accesses

pub lines_printed : (lines : List Access) → flat_map line lines ≡ flat_map (λ e. access_body e ++ 10 ∷ []) lines
lines_printed [] = refl
lines_printed (e ∷ lines) = λ i. line_is e i ++ lines_printed lines i

pub has_lines_none : (text : List ℕ) → HasLines text [] text
has_lines_none text = record { is = refl; in_text = All-nil IsInText; few = omega arith }

pub has_lines_more : (text : List ℕ) (lines : List Access) (rest : List ℕ) (e : Access) (behind : List ℕ) → HasLines text lines rest → access_at rest ≡ Some (e, behind) → length lines < max_steps →
    HasLines text (lines ++ e ∷ []) behind
has_lines_more text lines rest e behind has found room =
    let taken = access_written.takes rest e behind found in
    let printed : rest ≡ line e ++ behind = taken.0 ∙ sym (append_assoc (access_body e) (10 ∷ []) behind) ∙ ap (λ t. t ++ behind) (sym (line_is e)) in
    record {
      is = has.is ∙ ap (λ t. flat_map line lines ++ t) printed ∙ sym (append_assoc (flat_map line lines) (line e) behind)
          ∙ ap (λ t. t ++ behind) (ap (λ t. flat_map line lines ++ t) (sym (append-nil (line e))) ∙ sym (flat_map-append line lines (e ∷ [])));
      in_text = All-append IsInText lines (e ∷ []) has.in_text (All-cons IsInText e [] taken.1 (All-nil IsInText));
      few = omega (arith, length-append lines (e ∷ []));
    }

-- an access leaves less of the text
pub shorter : (text : List ℕ) (e : Access) (rest : List ℕ) → access_at text ≡ Some (e, rest) → length rest < length text
shorter text e rest found =
    let taken = access_written.takes text e rest found in
    omega (arith, ap length taken.0, length-append (access_body e) (10 ∷ rest))

pub overfull : (text : List ℕ) (lines : List Access) (rest : List ℕ) (e : Access) (behind : List ℕ) → HasLines text lines rest → access_at rest ≡ Some (e, behind) → max_steps ≤ length lines → IsOverfull text
overfull text lines rest e behind has found full = record { lines = lines; rest = rest; has = has; full = full; next = subst IsSome (sym found) refl }

module _ (m : Model) (n : ℕ) (text : List ℕ) where
  order_from_lines : (lines : List Access) (rest : List ℕ) (r : Result CertificateView TextFault) → HasLines text lines rest → IsBody IsAccess (order_of m n) n lines (4 + length lines) (pieces rest) r → IsOrder m n (pieces text) r
  order_from_lines lines rest r has more =
      let text_is : flat_map (λ e. access_body e ++ 10 ∷ []) lines ++ rest ≡ text = ap (λ t. t ++ rest) (sym (lines_printed lines)) ∙ sym has.is in
      subst (λ t. IsOrder m n (pieces t) r) text_is (body_entries access_written (order_of m n) n lines [] 4 rest r (recursion_from_All IsInText lines has.in_text) has.few more)

  pub order_overfull : IsOverfull text → IsOrder m n (pieces text) (Err TooMany)
  order_overfull many = by_next (access_at many.rest) refl many.next
    where
      by_next : (next : Option (Access × List ℕ)) → access_at many.rest ≡ next → IsSome next → IsOrder m n (pieces text) (Err TooMany)
      by_next None is some = absurd (let no : ⊥ = cc in no)
      by_next (Some x) is some =
          order_from_lines many.lines many.rest (Err TooMany) many.has (body_full access_written (order_of m n) n many.lines (4 + length many.lines) many.rest x.0 x.1 is many.full)

  pub order_none : (lines : List Access) (rest : List ℕ) → HasLines text lines rest → access_at rest ≡ None → ending_at n rest ≡ None → IsOrder m n (pieces text) (Err (fault_at (4 + length lines) rest))
  order_none lines rest has no_entry no_end =
      order_from_lines lines rest (Err (fault_at (4 + length lines) rest)) has (body_none access_written (order_of m n) n lines (4 + length lines) rest no_entry no_end)

  pub order_end : (lines : List Access) (rest counts left : List ℕ) → HasLines text lines rest → ending_at n rest ≡ Some (counts, left) →
      IsOrder m n (pieces text) (ended counts (order_of m n lines counts) (4 + length lines + 1) (pieces left))
  order_end lines rest counts left has found =
      order_from_lines lines rest (ended counts (order_of m n lines counts) (4 + length lines + 1) (pieces left)) has (body_end access_written (order_of m n) n lines (4 + length lines) rest counts left found)

  -- what a call for the lines answers in place of them
  pub reads_fault : (f : TextFault) → (f ≡ Memory) ⊎ ((f ≡ TooMany) × IsOverfull text) → Reads (IsOrder m n (pieces text)) (Err f)
  reads_fault f (inl memory) = subst (λ g. Reads (IsOrder m n (pieces text)) (Err g)) (sym memory) tt
  reads_fault f (inr many) = subst (λ g. Reads (IsOrder m n (pieces text)) (Err g)) (sym many.0) (order_overfull many.1)

-- ---- how an order ends

module _ {C : Type 0} (counts : List ℕ) (order : C) (k : ℕ) (left : List ℕ) where
  pub ended_many : max_steps < sum counts → ended counts order k (pieces left) ≡ Err TooMany
  ended_many many =
      let test : nat_lt max_steps (sum counts) ≡ true = grind (arith, nat_tests) in
      ap (λ t. if t then Err TooMany else if is_all (pieces left) then Ok order else Err (BadLine k)) test

  few_test : sum counts ≤ max_steps → ended counts order k (pieces left) ≡ (if is_all (pieces left) then Ok order else Err (BadLine k))
  few_test few =
      let test : nat_lt max_steps (sum counts) ≡ false = grind (arith, nat_tests) in
      ap (λ t. if t then Err TooMany else if is_all (pieces left) then Ok order else Err (BadLine k)) test

  pub ended_all : sum counts ≤ max_steps → length left ≡ 0 → ended counts order k (pieces left) ≡ Ok order
  ended_all few none = few_test few ∙ ap (λ t. if t then Ok order else Err (BadLine k)) (empty left none)
    where
      empty : (t : List ℕ) → length t ≡ 0 → is_all (pieces t) ≡ true
      empty [] e = refl
      empty (b ∷ t) e = absurd (omega arith)

  pub ended_more : sum counts ≤ max_steps → 0 < length left → ended counts order k (pieces left) ≡ Err (BadLine k)
  ended_more few some = few_test few ∙ ap (λ t. if t then Ok order else Err (BadLine k)) (more left some)
    where
      more : (t : List ℕ) → 0 < length t → is_all (pieces t) ≡ false
      more [] e = absurd (omega arith)
      more (b ∷ t) e = not_all_read b t

-- ---- the heading

abbrev pub behind_processors : Model → Result CertificateView TextFault → ℕ → List (List ℕ) → Type 0
behind_processors m r n left = IsOrder m n left r

abbrev pub behind_model : Result CertificateView TextFault → Model → List (List ℕ) → Type 0
behind_model r m left = IsHeading IsProcessors 3 (behind_processors m r) left r

abbrev pub behind_version : Result CertificateView TextFault → Unit {0} → List (List ℕ) → Type 0
behind_version r a left = IsHeading IsModel 2 (behind_model r) left r

module _ (text : List ℕ) where
  pub no_version : after (codes "rsim order 1\n") text ≡ None → IsRead text (Err (fault_at 1 text))
  no_version none = heading_none version_written CertificateView 1 (behind_version (Err (fault_at 1 text))) text (version_at-after text None none)

  module _ (text₂ : List ℕ) (found : after (codes "rsim order 1\n") text ≡ Some text₂) where
    at_model : (r : Result CertificateView TextFault) → behind_version r tt (pieces text₂) → IsRead text r
    at_model r more = heading_taken version_written 1 (behind_version r) text tt text₂ r (version_at-after text (Some text₂) found) more

    pub no_model : model_at text₂ ≡ None → IsRead text (Err (fault_at 2 text₂))
    no_model none = at_model (Err (fault_at 2 text₂)) (heading_none model_written CertificateView 2 (behind_model (Err (fault_at 2 text₂))) text₂ none)

    module _ (m : Model) (text₃ : List ℕ) (found₂ : model_at text₂ ≡ Some (m, text₃)) where
      pub no_processors : processors_at text₃ ≡ None → IsRead text (Err (fault_at 3 text₃))
      no_processors none =
          at_model (Err (fault_at 3 text₃)) (heading_taken model_written 2 (behind_model (Err (fault_at 3 text₃))) text₂ m text₃ (Err (fault_at 3 text₃)) found₂
          (heading_none processors_written CertificateView 3 (behind_processors m (Err (fault_at 3 text₃))) text₃ none))

      pub has_heading : (n : ℕ) (rest : List ℕ) → processors_at text₃ ≡ Some (n, rest) → HasHeading text m n rest
      has_heading n rest found₃ =
          let processors = processors_written.takes text₃ n rest found₃ in
          record {
            is = after_takes (codes "rsim order 1\n") text text₂ found
                ∙ ap (λ t. codes "rsim order 1\n" ++ t) ((model_written.takes text₂ m text₃ found₂).0 ∙ ap (λ t. model_body m ++ 10 ∷ t) processors.0) ∙ sym (heading_lines m n rest);
            some = processors.1.0;
            most = processors.1.1;
          }

-- what is read behind the heading is what the text is read as
pub read_behind : (text : List ℕ) (m : Model) (n : ℕ) (rest : List ℕ) (r : Result CertificateView TextFault) → HasHeading text m n rest → IsOrder m n (pieces rest) r → IsRead text r
read_behind text m n rest r has more =
    let text₃ : List ℕ = processors_body n ++ 10 ∷ rest in
    let text₂ : List ℕ = model_body m ++ 10 ∷ text₃ in
    subst (λ t. IsRead t r) (sym (has.is ∙ heading_lines m n rest))
    (heading_taken version_written 1 (behind_version r) (codes "rsim order 1\n" ++ text₂) tt text₂ r (version_written.again tt text₂ tt)
    (heading_taken model_written 2 (behind_model r) text₂ m text₃ r (model_written.again m text₃ tt)
    (heading_taken processors_written 3 (behind_processors m r) text₃ n rest r (processors_written.again n rest (has.some, has.most)) more)))
