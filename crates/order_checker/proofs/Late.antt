-- The order fault of a line, as the walk finds it.
use Rattle.std.proofs.Common.{◌≡◌, ◌<◌, ◌&&◌, nat_lt, ℕ, if◌then◌else◌, length, None, Some, find, option_map, option_and_then, unwrap_or, slice_get, slice_index, sym, ap, ◌∙◌, arith}
use Rattle.std.specs.List.{take_while}
use Rattle.std.proofs.lemmas.Option.{get_or_from_slice_get}
use Rattle.rsim_base.specs.Made.{Made}
use Rattle.rsim_base.specs.declared.memory.Access.{Access}
use Rattle.elf64_load.specs.Image.{ImageView}
use Rattle.order_axioms.specs.Axioms.{needs}
use Rattle.order_axioms.specs.Counted.{counts, made_after}
use Rattle.order_axioms.specs.declared.counting.Fences.{Fences}
use Rattle.order_certificate.specs.Certificate.{CertificateView}
use Rattle.order_checker.specs.declared.verdict.Rejected.TheVariants.{OutOfOrder}
use Rattle.order_checker.specs.declared.walk.Walk.{Walk}
use Rattle.order_checker.specs.Faults.{is_needed, is_late, late, place_of, programs, file_line}
use Rattle.order_checker.specs.Firsts.{first}
use Rattle.order_checker.specs.Order.{made_at}
use Rattle.order_checker.specs.Walking.{is_needed_of, is_needed_by, IsAtLine}
use Rattle.order_checker.proofs.AtLines.{IsAt, IsAt-from, here_is}
use Rattle.order_checker.proofs.LinePlaces.{place_is}
use Rattle.order_checker.proofs.FirstOnes.{first-least, first-same}
use Rattle.list_facts.specs.Options.{Some-injective}
use Rattle.order_checker.proofs.StillStanding.{first_standing}

made_is : (m : Made) (f : Fences) → counts f ≡ m.fences → made_after m.access f ≡ m
made_is m f e = λ t. record { access = m.access; fences = e t }

-- whether access k must stand before line e, by what the walk keeps
pub needed_same : (image : ImageView) (c : CertificateView) (j : ℕ) (e : Access) (w : Walk) → IsAtLine image c j e w → (k : ℕ) → k < length w.program.places.items →
    is_needed_by c.model c.lines w.program e k ≡ is_needed image c (made_at (programs image c) e.node.0 k) (made_at (programs image c) e.node.0 e.index)
needed_same image c j e w at k below =
    let is = IsAt-from image c j e w at in
    let x = is.own k below in
    let y = is.own e.index is.within in
    let same : e ≡ y.made.access = Some-injective (sym at.stands ∙ ap (slice_get c.lines) (Some-injective (sym is.here ∙ y.is_place)) ∙ y.stands) in
    ap (λ o. is_needed_of c.model (option_and_then (slice_get c.lines) o) (slice_get w.program.fences.items k) e (slice_get w.program.fences.items e.index)) x.kept
    ∙ ap (λ o. is_needed_of c.model o (slice_get w.program.fences.items k) e (slice_get w.program.fences.items e.index)) x.stands
    ∙ ap (λ o. is_needed_of c.model (Some x.made.access) o e (slice_get w.program.fences.items e.index)) x.are_fences
    ∙ ap (is_needed_of c.model (Some x.made.access) (Some x.fences) e) y.are_fences
    ∙ ap (λ a. needs c.model (made_after x.made.access x.fences) (made_after a y.fences)) same
    ∙ ap (λ m. needs c.model m (made_after y.made.access y.fences)) (made_is x.made x.fences x.counted)
    ∙ ap (needs c.model x.made) (made_is y.made y.fences y.counted)
    ∙ ap (λ o. is_needed image c o (Some y.made)) (sym x.is_made)
    ∙ ap (is_needed image c (made_at (programs image c) e.node.0 k)) (sym y.is_made)

pub late_found : (image : ImageView) (c : CertificateView) (j : ℕ) (e : Access) (w : Walk) → IsAtLine image c j e w →
    first (late image c j e) e.index ≡ option_map (OutOfOrder (file_line j) e.node) (find (is_needed_by c.model c.lines w.program e) (take_while (λ k. nat_lt k e.index) w.left.items))
late_found image c j e w at =
    let is = IsAt-from image c j e w at in
    let places = w.program.places.items in
    let at_j : slice_index places e.index ≡ j = here_is image c j e w at in
    first-least (OutOfOrder (file_line j) e.node) (is_late image c j e) e.index
    ∙ ap (option_map (OutOfOrder (file_line j) e.node)) (
    first-same (λ k. if is_late image c j e k then Some k else None) (λ k. if is_needed_by c.model c.lines w.program e k && nat_lt j (slice_index places k) then Some k else None) e.index (λ k below. ap (λ b. if b then Some k else None) (same is k below))
    ∙ sym (first_standing places j e.index w.next w.left.items (is_needed_by c.model c.lines w.program e) at.walk.walked at.reached at_j (λ k below. apart is at_j k below))
    )
  where
    same : IsAt image c j e w → (k : ℕ) → k < e.index → is_late image c j e k ≡ (is_needed_by c.model c.lines w.program e k && nat_lt j (slice_index w.program.places.items k))
    same is k below =
        let within : k < length w.program.places.items = omega (arith, is.within) in
        let x = is.own k within in
        ap (λ b. b && nat_lt j (unwrap_or (place_of c.lines e.node.0 k) 0)) (sym (needed_same image c j e w at k within))
        ∙ ap (λ q. is_needed_by c.model c.lines w.program e k && nat_lt j q) (ap (λ o. unwrap_or o 0) x.is_place ∙ sym (get_or_from_slice_get w.program.places.items k x.place 0 x.kept))

    apart : IsAt image c j e w → slice_index w.program.places.items e.index ≡ j → (k : ℕ) → k < e.index → slice_index w.program.places.items k ≡ j → ⊥
    apart is at_j k below at_k =
        let within : k < length w.program.places.items = omega (arith, is.within) in
        let x = is.own k within in
        let stands_at : x.place ≡ j = sym (get_or_from_slice_get w.program.places.items k x.place 0 x.kept) ∙ at_k in
        let index = (place_is c.lines e.node.0 k j e (x.is_place ∙ ap Some stands_at) at.stands).1 in
        omega arith
