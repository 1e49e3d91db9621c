-- Tables of lines, with one line more.
use Rattle.std.proofs.Common.{◌≡◌, ◌⊎◌, ◌+◌, ◌<◌, ◌==◌, ◌&&◌, nat_le, ℕ, zero, suc, Bool, true, false, if◌then◌else◌, List, [], ◌∷◌, ◌++◌, length, Option, None, Some, is_some, get_or, slice_get, slice_set, Result, Ok, Err, OnOk, IfErr, refl, sym, ap, subst, inl, inr, ⊎_elim, ◌∙◌, add-one, arith}
use Rattle.std.specs.Option.{option_or}
use Rattle.std.proofs.Math.ListN.{length-set}
use Rattle.std.proofs.lemmas.List.{length_push}
use Rattle.std.proofs.lemmas.Bool.{and_left, and_parts, or_from, or_cases, or_left, or_right, lt-leb, eqb-true, eq-eqb, ne_eqb, cond-true, cond-false, cases_eq, true≢false}
use Rattle.rsim_base.specs.declared.memory.Access.{Access}
use Rattle.order_checker.specs.declared.places.Table.{Table}
use Rattle.order_checker.specs.declared.verdict.Rejected.{Rejected}
use Rattle.order_checker.specs.declared.verdict.Rejected.TheVariants.{Foreign, Memory}
use Rattle.order_checker.specs.Faults.{is_of, place_among, stray, stray_of}
use Rattle.order_checker.specs.Firsts.{first}
use Rattle.order_checker.specs.Outcomes.{IsFault}
use Rattle.order_checker.specs.Tables.{place_in, AreTables, has_line, is_stray, IsNoted}
use Rattle.order_checker.proofs.FirstOnes.{first_found, first_none-more}
use Rattle.std.proofs.lemmas.Option.{slice_get-get_or}
use Rattle.list_facts.specs.Places.{slice_get_more}
use Rattle.list_facts.specs.Options.{Some-injective}

pub OnOk_both : {A E P Q R : Type 0} (r : Result A E) → (P → Q → R) → OnOk r P → OnOk r Q → OnOk r R
OnOk_both (Ok x) f p q = f p q
OnOk_both (Err e) f p q = tt

pub IfErr_map : {A E : Type 0} (r : Result A E) {P Q : E → Type 0} → IfErr r P → ((e : E) → P e → Q e) → IfErr r Q
IfErr_map (Ok x) p f = tt
IfErr_map (Err e) p f = f e p

pub slice_get-set_same : {A : Type 0} (xs : List A) (i : ℕ) (x : A) → i < length xs → slice_get (slice_set xs i x) i ≡ Some x
slice_get-set_same [] i x below = absurd (omega arith)
slice_get-set_same (y ∷ ys) zero x below = refl
slice_get-set_same (y ∷ ys) (suc i) x below = slice_get-set_same ys i x (omega arith)

pub slice_get-set_other : {A : Type 0} (xs : List A) (i j : ℕ) (x : A) → (j ≡ i → ⊥) → slice_get (slice_set xs i x) j ≡ slice_get xs j
slice_get-set_other [] i j x ne = refl
slice_get-set_other (y ∷ ys) zero zero x ne = absurd (ne refl)
slice_get-set_other (y ∷ ys) zero (suc j) x ne = refl
slice_get-set_other (y ∷ ys) (suc i) zero x ne = refl
slice_get-set_other (y ∷ ys) (suc i) (suc j) x ne = slice_get-set_other ys i j x (λ e. ne (ap suc e))

step_place : (o : Option ℕ) (b : Bool) (j : ℕ) → (b ≡ true → o ≡ None) → (if b then Some j else o) ≡ option_or o (if b then Some j else None)
step_place None true j fresh = refl
step_place None false j fresh = refl
step_place (Some k) true j fresh = absurd (clash (fresh refl))
  where
    clash : Some k ≡ None → ⊥
    clash e = absurd cc
step_place (Some k) false j fresh = refl

-- where the line of an access stands among one more
among_more : (lines : List Access) (p i j : ℕ) (e : Access) → slice_get lines j ≡ Some e → ((e.node.0 == p) && (e.index == i) ≡ true → place_among lines p i j ≡ None) →
    (if (e.node.0 == p) && (e.index == i) then Some j else place_among lines p i j) ≡ place_among lines p i (suc j)
among_more lines p i j e at fresh = step_place (place_among lines p i j) ((e.node.0 == p) && (e.index == i)) j fresh ∙ ap (λ o. option_or (place_among lines p i j) (if is_of p i o then Some j else None)) (sym at)

pub AreTables-noted : (lines : List Access) (n j : ℕ) (e : Access) (old new : List Table) → slice_get lines j ≡ Some e → AreTables lines n j old → IsNoted e j old new → AreTables lines n (suc j) new
AreTables-noted lines n j e old new at are noted = record {
  count = ap length noted.is ∙ length-set old e.node.0 noted.table ∙ are.count;
  places = λ p t at_p i. ⊎_elim (λ same. here p t at_p i same) (λ ne. other p t at_p i ne) (cases_eq p e.node.0);
}
  where
    here : (p : ℕ) (t : Table) → slice_get new p ≡ Some t → (i : ℕ) → p ≡ e.node.0 → place_in t i ≡ place_among lines p i (suc j)
    here p t at_p i same =
        let t_is : noted.table ≡ t = Some-injective (sym (slice_get-set_same old e.node.0 noted.table noted.among) ∙ ap (λ xs. slice_get xs e.node.0) (sym noted.is) ∙ ap (slice_get new) (sym same) ∙ at_p) in
        let of_p : (e.node.0 == p) ≡ true = eq-eqb e.node.0 p (sym same) in
        let before : place_in noted.before i ≡ place_among lines p i j = are.places p noted.before (ap (slice_get old) same ∙ noted.was) i in
        let fresh : (e.node.0 == p) && (e.index == i) ≡ true → place_among lines p i j ≡ None =
        λ both. sym before ∙ ap (place_in noted.before) (sym (eqb-true e.index i (and_parts (e.node.0 == p) (e.index == i) both).1)) ∙ noted.fresh in
        ap (λ (u : Table). place_in u i) (sym t_is) ∙ noted.put i ∙ ap (λ o. if e.index == i then Some j else o) before
        ∙ ap (λ b. if b && (e.index == i) then Some j else place_among lines p i j) (sym of_p) ∙ among_more lines p i j e at fresh

    other : (p : ℕ) (t : Table) → slice_get new p ≡ Some t → (i : ℕ) → (p ≡ e.node.0 → ⊥) → place_in t i ≡ place_among lines p i (suc j)
    other p t at_p i ne =
        let not_p : (e.node.0 == p) && (e.index == i) ≡ false = and_left (e.node.0 == p) (e.index == i) (ne_eqb e.node.0 p (λ same. ne (sym same))) in
        are.places p t (sym (slice_get-set_other old e.node.0 p noted.table ne) ∙ ap (λ xs. slice_get xs p) (sym noted.is) ∙ at_p) i
        ∙ sym (cond-false _ (Some j) (place_among lines p i j) not_p) ∙ among_more lines p i j e at (λ both. absurd (true≢false (sym both ∙ not_p)))

pub stray-noted : (lines : List Access) (n j : ℕ) (e : Access) (old new : List Table) → slice_get lines j ≡ Some e → AreTables lines n j old → IsNoted e j old new → stray n lines j ≡ None
stray-noted lines n j e old new at are noted = ap (stray_of n lines j) at ∙
    cond-false _ _ _ (or_from _ _ (lt-leb n e.node.0 (subst (λ m. e.node.0 < m) are.count noted.among)) (ap is_some (sym (are.places e.node.0 noted.before noted.was e.index) ∙ noted.fresh)))

pub stray_is : (lines : List Access) (n j : ℕ) (e : Access) (tables : List Table) → slice_get lines j ≡ Some e → AreTables lines n j tables → is_stray e tables ≡ true → stray n lines j ≡ Some (Foreign (j + 4))
stray_is lines n j e tables at are is = ap (stray_of n lines j) at ∙ cond-true _ _ _ (⊎_elim
    (λ past. or_left _ _ (ap (λ m. nat_le m e.node.0) (sym are.count) ∙ past))
    (λ has. or_right (nat_le n e.node.0) _ (twice (slice_get tables e.node.0) refl has)) (or_cases _ _ is))
  where
    twice : (o : Option Table) → slice_get tables e.node.0 ≡ o → has_line e.index o ≡ true → is_some (place_among lines e.node.0 e.index j) ≡ true
    twice None found has = absurd cc
    twice (Some t) found has = ap is_some (sym (are.places e.node.0 t found e.index)) ∙ has

-- ---- a loop over the lines

pub stray_found : (lines : List Access) (n j : ℕ) (e : Access) (tables : List Table) (r : Rejected) → slice_get lines j ≡ Some e → j < length lines → AreTables lines n j tables → first (stray n lines) j ≡ None →
    (r ≡ Memory) ⊎ ((r ≡ Foreign (j + 4)) × (is_stray e tables ≡ true)) → IsFault (first (stray n lines) (length lines)) r
stray_found lines n j e tables r at below are none (inl out) = inl out
stray_found lines n j e tables r at below are none (inr (told, is)) = inr (first_found (stray n lines) j (length lines) r none (stray_is lines n j e tables at are is ∙ ap Some (sym told)) below)

-- one table more without a line
pub tables_push : (lines : List Access) (n : ℕ) (old : List Table) (t : Table) → AreTables lines n 0 old → ((i : ℕ) → place_in t i ≡ None) → AreTables lines (n + 1) 0 (old ++ t ∷ [])
tables_push lines n old t are none = record {
  count = let e = length_push old t in let f = are.count in omega arith;
  places = λ p u at i. ⊎_elim (λ was. are.places p u was i) (λ (here, is). ap (λ (v : Table). place_in v i) is ∙ none i) (slice_get_more old t p u at);
}

pub fault_found : (lines : List Access) (n j : ℕ) (d : Access) (tables : List Table) (r : Rejected) → j < length lines → first (stray n lines) j ≡ None → AreTables lines n j tables →
    (r ≡ Memory) ⊎ ((r ≡ Foreign (j + 4)) × (is_stray (get_or lines j d) tables ≡ true)) → IsFault (first (stray n lines) (length lines)) r
fault_found lines n j d tables r below none are fault = stray_found lines n j (get_or lines j d) tables r (slice_get-get_or lines j d below) below are none fault

pub tables_more : (lines : List Access) (n j : ℕ) (d : Access) (old new : List Table) → j < length lines → first (stray n lines) j ≡ None → AreTables lines n j old → IsNoted (get_or lines j d) j old new →
    (first (stray n lines) (j + 1) ≡ None) × AreTables lines n (j + 1) new
tables_more lines n j d old new below none are noted =
    let at = slice_get-get_or lines j d below in (
      subst (λ k. first (stray n lines) k ≡ None) (sym (add-one j)) (first_none-more (stray n lines) j none (stray-noted lines n j (get_or lines j d) old new at are noted)),
      subst (λ k. AreTables lines n k new) (sym (add-one j)) (AreTables-noted lines n j (get_or lines j d) old new at are noted),
    )
