-- Where the line of each access stands.
use Rattle.std.proofs.Common.{◌≡◌, ◌<◌, ◌==◌, ◌||◌, ℕ, Bool, true, false, if◌then◌else◌, List, length, get_or, slice_get, Option, None, Some, is_some, refl, sym, ap, ⊎_elim, ◌∙◌, arith}
use Rattle.std.proofs.lemmas.Bool.{and_parts, and_from, or_from, eqb-true, eq-eqb, leb-false, lt-leb, cond-false, false_from_ne_true, cases_order, false≢true}
use Rattle.std.proofs.lemmas.Option.{slice_get_within, get_or_from_slice_get}
use Rattle.rsim_base.specs.declared.memory.Access.{Access}
use Rattle.order_checker.specs.declared.verdict.Rejected.{Rejected}
use Rattle.order_checker.specs.Faults.{is_of, place_among, place_of, stray, stray_of}
use Rattle.list_facts.specs.Options.{Some-injective}
use Rattle.order_checker.proofs.FirstOnes.{least_is, least_at, least_none, least_none-at}

-- the line at place j is of access i of processor p
pub record IsLineOf (lines : List Access) (p i j : ℕ) (e : Access) : Type 0 where
  pub stands : slice_get lines j ≡ Some e
  pub node : e.node.0 ≡ p
  pub index : e.index ≡ i

found_of : (lines : List Access) (p i j : ℕ) (o : Option Access) → slice_get lines j ≡ o → is_of p i o ≡ true → (e : Access) × IsLineOf lines p i j e
found_of lines p i j None at is = absurd cc
found_of lines p i j (Some e) at is =
    let parts = and_parts (e.node.0 == p) (e.index == i) is in
    (e, record { stands = at; node = eqb-true e.node.0 p parts.0; index = eqb-true e.index i parts.1 })

pub line_of-is_of : (lines : List Access) (p i j : ℕ) → is_of p i (slice_get lines j) ≡ true → (e : Access) × IsLineOf lines p i j e
line_of-is_of lines p i j is = found_of lines p i j (slice_get lines j) refl is

pub is_of-line : (lines : List Access) (p i j : ℕ) (e : Access) → IsLineOf lines p i j e → is_of p i (slice_get lines j) ≡ true
is_of-line lines p i j e line = ap (is_of p i) line.stands ∙ and_from (e.node.0 == p) (e.index == i) (eq-eqb e.node.0 p line.node) (eq-eqb e.index i line.index)

pub line_of-place : (lines : List Access) (p i j : ℕ) → place_of lines p i ≡ Some j → (e : Access) × IsLineOf lines p i j e
line_of-place lines p i j is = line_of-is_of lines p i j (least_at (λ k. is_of p i (slice_get lines k)) (length lines) j is).passes

-- and it is of that access alone
pub place_is : (lines : List Access) (p i j : ℕ) (e : Access) → place_of lines p i ≡ Some j → slice_get lines j ≡ Some e → (e.node.0 ≡ p) × (e.index ≡ i)
place_is lines p i j e is at = same (line_of-place lines p i j is)
  where
    same : (f : Access) × IsLineOf lines p i j f → (e.node.0 ≡ p) × (e.index ≡ i)
    same (f, line) = let e_is : e ≡ f = Some-injective (sym at ∙ line.stands) in (ap (λ (x : Access). x.node.0) e_is ∙ line.node, ap (λ (x : Access). x.index) e_is ∙ line.index)

-- no two lines are of one access
pub record AreOnce (lines : List Access) : Type 0 where
  pub once : (j k : ℕ) (e f : Access) → slice_get lines j ≡ Some e → slice_get lines k ≡ Some f → e.node.0 ≡ f.node.0 → e.index ≡ f.index → j ≡ k

not_before : (lines : List Access) (p i j : ℕ) (e : Access) → AreOnce lines → IsLineOf lines p i j e → (k : ℕ) → k < j → is_of p i (slice_get lines k) ≡ false
not_before lines p i j e are line k below = false_from_ne_true (is_of p i (slice_get lines k)) (λ is. clash (line_of-is_of lines p i k is))
  where
    clash : (f : Access) × IsLineOf lines p i k f → ⊥
    clash (f, other) = let same = are.once k j f e other.stands line.stands (other.node ∙ sym line.node) (other.index ∙ sym line.index) in omega arith

pub place_once : (lines : List Access) (p i j : ℕ) (e : Access) → AreOnce lines → IsLineOf lines p i j e → place_of lines p i ≡ Some j
place_once lines p i j e are line =
    least_is (λ k. is_of p i (slice_get lines k)) j (length lines) (is_of-line lines p i j e line) (slice_get_within lines j e line.stands) (not_before lines p i j e are line)

-- ---- lines that are no strays

test_none : (a : Bool) (o : Option ℕ) (r : Rejected) → (if a || is_some o then Some r else None) ≡ None → (a ≡ false) × (o ≡ None)
test_none true o r e = absurd cc
test_none false (Some x) r e = absurd cc
test_none false None r e = (refl, refl)

pub stray_none : (n : ℕ) (lines : List Access) (j : ℕ) (e : Access) → slice_get lines j ≡ Some e → stray n lines j ≡ None → (e.node.0 < n) × (place_among lines e.node.0 e.index j ≡ None)
stray_none n lines j e at none =
    let parts = test_none _ (place_among lines e.node.0 e.index j) _ (ap (stray_of n lines j) (sym at) ∙ none) in
    (leb-false n e.node.0 parts.0, parts.1)

pub AreOnce-from : (n : ℕ) (lines : List Access) → ((j : ℕ) → j < length lines → stray n lines j ≡ None) → AreOnce lines
AreOnce-from n lines none = record {
  once = λ j k e f at_j at_k node index.
      ⊎_elim (λ same. same) (⊎_elim (λ lt. absurd (clash j k e f at_j at_k node index lt)) (λ lt. absurd (clash k j f e at_k at_j (sym node) (sym index) lt))) (cases_order j k);
}
  where
    clash : (j k : ℕ) (e f : Access) → slice_get lines j ≡ Some e → slice_get lines k ≡ Some f → e.node.0 ≡ f.node.0 → e.index ≡ f.index → j < k → ⊥
    clash j k e f at_j at_k node index lt =
        let first = (stray_none n lines k f at_k (none k (slice_get_within lines k f at_k))).1 in
        false≢true (sym (least_none-at (λ i. is_of f.node.0 f.index (slice_get lines i)) k j first lt) ∙ is_of-line lines f.node.0 f.index j e (record { stands = at_j; node = node; index = index }))

pub stray_from : (n : ℕ) (lines : List Access) → AreOnce lines → ((j : ℕ) (e : Access) → slice_get lines j ≡ Some e → e.node.0 < n) → (j : ℕ) → stray n lines j ≡ None
stray_from n lines are among j = by_found (slice_get lines j) refl
  where
    by_found : (o : Option Access) → slice_get lines j ≡ o → stray_of n lines j o ≡ None
    by_found None at = refl
    by_found (Some e) at =
        let before = least_none (λ k. is_of e.node.0 e.index (slice_get lines k)) j (not_before lines e.node.0 e.index j e are (record { stands = at; node = refl; index = refl })) in
        cond-false _ _ _ (or_from _ _ (lt-leb n e.node.0 (among j e at)) (ap is_some before))

-- what the code reads at a place of the lines
pub same_line : (lines kept : List Access) (at : ℕ) (f x : Access) → slice_get lines at ≡ Some f → kept ≡ lines → x ≡ get_or kept at x → x ≡ f
same_line lines kept at f x stands same read = read ∙ ap (λ ls. get_or ls at x) same ∙ get_or_from_slice_get lines at f x stands
