-- A text is read as one thing.
use Rattle.std.proofs.Common.{◌≡◌, ℕ, ◌+◌, inl, inr, List, [], ◌∷◌, ◌++◌, Option, Some, None, Result, refl, sym, ap, ◌∙◌, subst, arith}
use Rattle.rsim_base.specs.declared.memory.Access.{Access}
use Rattle.order_certificate.specs.declared.fault.TextFault.{TextFault}
use Rattle.order_certificate.specs.Certificate.{CertificateView}
use Rattle.order_certificate.specs.Fields.{digit_at, digits_at, decimal_at, decimal_then, access_at}
use Rattle.order_certificate.specs.Reading.{pieces, ended, IsAccess, IsEnding, IsBody, IsHeading, order_of, IsRead}
use Rattle.order_certificate.proofs.Accesses.{access_written}
use Rattle.order_certificate.proofs.Counts.{ending_body, ending_written}
use Rattle.order_certificate.proofs.Headings.{version_written, model_written, processors_written}
use Rattle.order_certificate.proofs.LineReads.{IsWritten, written_piece, written_once}
use Rattle.order_certificate.proofs.Orders.{behind_version, behind_model, behind_processors}

heading_once : {A C : Type 0} {Is : List ℕ → A → Type 0} {P : A → Type 0} {body : A → List ℕ} {at : List ℕ → Option (A × List ℕ)} (w : IsWritten Is P body at) (k : ℕ) (First Second : A → List (List ℕ) → Type 0)
    (ps : List (List ℕ)) (r s : Result C TextFault) → ((a : A) (left : List (List ℕ)) → First a left → Second a left → r ≡ s) → IsHeading Is k First ps r → IsHeading Is k Second ps s → r ≡ s
heading_once w k First Second [] r s once x y = absurd x
heading_once w k First Second (piece ∷ []) r s once x y = x ∙ sym y
heading_once w k First Second (piece ∷ next ∷ more) r s once (inl x) (inl y) =
    once x.0 (next ∷ more) x.2 (subst (λ a. Second a (next ∷ more)) (written_once w piece y.0 x.0 y.1 x.1) y.2)
heading_once w k First Second (piece ∷ next ∷ more) r s once (inl x) (inr y) = absurd (y.0 x.0 x.1)
heading_once w k First Second (piece ∷ next ∷ more) r s once (inr x) (inl y) = absurd (x.0 y.0 y.1)
heading_once w k First Second (piece ∷ next ∷ more) r s once (inr x) (inr y) = x.1 ∙ sym y.1

-- where no line of an entry is an end line
module _ {A C : Type 0} {IsEntry : List ℕ → A → Type 0} {P : A → Type 0} {body : A → List ℕ} {at : List ℕ → Option (A × List ℕ)} (w : IsWritten IsEntry P body at)
    (apart : (piece : List ℕ) (e : A) (n : ℕ) (counts : List ℕ) → IsEntry piece e → IsEnding n piece counts → ⊥) (order : List A → List ℕ → C) (n : ℕ) where
  pub body_once : (ps : List (List ℕ)) (entries : List A) (k : ℕ) (r s : Result C TextFault) → IsBody IsEntry order n entries k ps r → IsBody IsEntry order n entries k ps s → r ≡ s
  body_once [] entries k r s x y = absurd x
  body_once (piece ∷ []) entries k r s x y = x ∙ sym y
  body_once (piece ∷ next ∷ more) entries k r s (inl x) (inl y) =
      body_once (next ∷ more) (entries ++ x.0 ∷ []) (k + 1) r s x.3 (subst (λ e. IsBody IsEntry order n (entries ++ e ∷ []) (k + 1) (next ∷ more) s) (written_once w piece y.0 x.0 y.1 x.1) y.3)
  body_once (piece ∷ next ∷ more) entries k r s (inl x) (inr (inl y)) = absurd (omega (arith, x.2, y.2))
  body_once (piece ∷ next ∷ more) entries k r s (inl x) (inr (inr (inl y))) = absurd (apart piece x.0 n y.0 x.1 y.1)
  body_once (piece ∷ next ∷ more) entries k r s (inl x) (inr (inr (inr y))) = absurd (y.0 x.0 x.1)
  body_once (piece ∷ next ∷ more) entries k r s (inr (inl x)) (inl y) = absurd (omega (arith, x.2, y.2))
  body_once (piece ∷ next ∷ more) entries k r s (inr (inl x)) (inr (inl y)) = x.3 ∙ sym y.3
  body_once (piece ∷ next ∷ more) entries k r s (inr (inl x)) (inr (inr (inl y))) = absurd (apart piece x.0 n y.0 x.1 y.1)
  body_once (piece ∷ next ∷ more) entries k r s (inr (inl x)) (inr (inr (inr y))) = absurd (y.0 x.0 x.1)
  body_once (piece ∷ next ∷ more) entries k r s (inr (inr (inl x))) (inl y) = absurd (apart piece y.0 n x.0 y.1 x.1)
  body_once (piece ∷ next ∷ more) entries k r s (inr (inr (inl x))) (inr (inl y)) = absurd (apart piece y.0 n x.0 y.1 x.1)
  body_once (piece ∷ next ∷ more) entries k r s (inr (inr (inl x))) (inr (inr (inl y))) =
      x.2 ∙ ap (λ counts. ended counts (order entries counts) (k + 1) (next ∷ more)) (written_once (ending_written n) piece x.0 y.0 x.1 y.1) ∙ sym y.2
  body_once (piece ∷ next ∷ more) entries k r s (inr (inr (inl x))) (inr (inr (inr y))) = absurd (y.1 x.0 x.1)
  body_once (piece ∷ next ∷ more) entries k r s (inr (inr (inr x))) (inl y) = absurd (x.0 y.0 y.1)
  body_once (piece ∷ next ∷ more) entries k r s (inr (inr (inr x))) (inr (inl y)) = absurd (x.0 y.0 y.1)
  body_once (piece ∷ next ∷ more) entries k r s (inr (inr (inr x))) (inr (inr (inl y))) = absurd (x.1 y.0 y.1)
  body_once (piece ∷ next ∷ more) entries k r s (inr (inr (inr x))) (inr (inr (inr y))) = x.2 ∙ sym y.2

-- an end line begins with no number
no_access : (counts rest : List ℕ) → access_at (ending_body counts ++ 10 ∷ rest) ≡ None
unfolding access_at decimal_then decimal_at digits_at digit_at ending_body
no_access counts rest = refl

apart_from_end : (piece : List ℕ) (e : Access) (n : ℕ) (counts : List ℕ) → IsAccess piece e → IsEnding n piece counts → ⊥
apart_from_end piece e n counts is end =
    let found : access_at (piece ++ 10 ∷ []) ≡ Some (e, []) = written_piece access_written piece e [] is in
    let none : access_at (piece ++ 10 ∷ []) ≡ None = ap (λ p. access_at (p ++ 10 ∷ [])) ((ending_written n).back piece counts end).0 ∙ no_access counts [] in
    let both : ◌≡◌ {A = Option (Access × List ℕ)} (Some (e, [])) None = sym found ∙ none in
    let no : ⊥ = cc in
    no

pub read_once : (text : List ℕ) (r s : Result CertificateView TextFault) → IsRead text r → IsRead text s → r ≡ s
read_once text r s first second =
    heading_once version_written 1 (behind_version r) (behind_version s) (pieces text) r s
    (λ a left x y. heading_once model_written 2 (behind_model r) (behind_model s) left r s
    (λ m left x y. heading_once processors_written 3 (behind_processors m r) (behind_processors m s) left r s
    (λ n left x y. body_once access_written apart_from_end (order_of m n) n left [] 4 r s x y) x y) x y) first second
