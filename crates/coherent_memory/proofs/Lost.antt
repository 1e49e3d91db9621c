-- Lines that leave nodes, one step after the other.
use Rattle.std.proofs.Common.{◌≡◌, ◌≢◌, ◌⊎◌, inl, inr, ⊎_elim, ℕ, ◌≤◌, ◌==◌, Bool, true, false, ◌&&◌, ◌||◌, not, List, [], ◌∷◌, ◌++◌, length, refl, sym, ap, ◌∙◌, true≢false, arith, length-append}
use Rattle.std.specs.List.{list_any}
use Rattle.std.proofs.lemmas.Bool.{and_from, and_parts, eqb-true, eq-eqb, not-true, or_from, or_left, or_right}
use Rattle.std.proofs.lemmas.List.{length-map}
use Rattle.std.proofs.lemmas.List.Folds.{list_any-append}
use Rattle.rsim_base.specs.declared.memory.Line.{Line}
use Rattle.rsim_base.specs.declared.memory.Node.{Node}
use Rattle.memory_contracts.specs.Protocol.NodeTable.{is_held}
use Rattle.memory_contracts.specs.Store.{are_once, is_among}
use Rattle.node_memory.specs.Nodes.{copy_of, left_from}
use Rattle.coherent_memory.specs.Lost.{AreGone, TurnsTell, holds}
use Rattle.coherent_memory.specs.Systems.{System}
use Rattle.coherent_memory.proofs.Places.{eqb-refl}

-- ---- lists of lines that left

among-append : (xs ys : List (Node × Line)) (p l : ℕ) → is_among (xs ++ ys) p l ≡ (is_among xs p l || is_among ys p l)
among-append xs ys p l = list_any-append (λ (x : Node × Line). (x.0.0 == p) && (x.1.0 == l)) xs ys

here : (x : Node × Line) (xs : List (Node × Line)) → is_among (x ∷ xs) x.0.0 x.1.0 ≡ true
here x xs = or_left ((x.0.0 == x.0.0) && (x.1.0 == x.1.0)) (is_among xs x.0.0 x.1.0) (and_from (x.0.0 == x.0.0) (x.1.0 == x.1.0) (eqb-refl x.0.0) (eqb-refl x.1.0))

later : (x : Node × Line) (xs : List (Node × Line)) (p l : ℕ) → is_among xs p l ≡ true → is_among (x ∷ xs) p l ≡ true
later x xs p l e = or_right ((x.0.0 == p) && (x.1.0 == l)) (is_among xs p l) e

once-append : (xs ys : List (Node × Line)) → are_once xs ≡ true → are_once ys ≡ true → ((p l : ℕ) → is_among xs p l ≡ true → is_among ys p l ≡ false) → are_once (xs ++ ys) ≡ true
once-append [] ys first second apart = second
once-append (x ∷ xs) ys first second apart =
    let (new, rest) = and_parts (not (is_among xs x.0.0 x.1.0)) (are_once xs) first in
    let apart_now : is_among (xs ++ ys) x.0.0 x.1.0 ≡ false =
    among-append xs ys x.0.0 x.1.0
    ∙ or_from (is_among xs x.0.0 x.1.0) (is_among ys x.0.0 x.1.0) (not-true (is_among xs x.0.0 x.1.0) new) (apart x.0.0 x.1.0 (here x xs)) in
    let more = once-append xs ys rest second (λ p l e. apart p l (later x xs p l e)) in
    ap (λ b. not b && are_once (xs ++ ys)) apart_now ∙ more

-- ---- two steps

one-way : (a b c : Bool) → (a ≡ false → b ≡ true → c ≡ true) → (a ≡ true → b ≡ false → c ≡ false) → ((a && not b) || (b && not c)) ≡ (a && not c)
one-way true true c comes leaves = refl
one-way true false c comes leaves = ap not (sym (leaves refl refl))
one-way false true c comes leaves = ap not (comes refl refl)
one-way false false c comes leaves = refl

gone-before : (a b c : Bool) → (a && not b) ≡ true → (b && not c) ≡ false
gone-before true true c e = absurd (true≢false (sym e))
gone-before true false c e = refl
gone-before false b c e = absurd (true≢false (sym e))

-- what comes in the first step stays in the second, and what leaves in the first stays away
pub record AreOneWay (r s t : System) : Type 0 where
  pub comes : (p l : ℕ) → holds r p l ≡ false → holds s p l ≡ true → holds t p l ≡ true
  pub leaves : (p l : ℕ) → holds r p l ≡ true → holds s p l ≡ false → holds t p l ≡ false

pub gone-joined : (r s t : System) (gone more : List (Node × Line)) → AreOneWay r s t → AreGone r s gone → AreGone s t more → AreGone r t (gone ++ more)
gone-joined r s t gone more way first second = record {
  exactly = λ p l.
      among-append gone more p l
      ∙ ap (λ b. b || is_among more p l) (first.exactly p l)
      ∙ ap (λ b. (holds r p l && not (holds s p l)) || b) (second.exactly p l)
      ∙ one-way (holds r p l) (holds s p l) (holds t p l) (way.comes p l) (way.leaves p l);
  once = once-append gone more first.once second.once
      (λ p l among. second.exactly p l ∙ gone-before (holds r p l) (holds s p l) (holds t p l) (sym (first.exactly p l) ∙ among));
}

-- ---- a step after which all nodes hold what they held

pub and-not : (b : Bool) → (b && not b) ≡ false
and-not true = refl
and-not false = refl

pub gone-none : (s t : System) → ((p l : ℕ) → holds t p l ≡ holds s p l) → AreGone s t []
gone-none s t same = record {
  exactly = λ p l. sym (ap (λ b. holds s p l && not b) (same p l) ∙ and-not (holds s p l));
  once = refl;
}

-- ---- a step of one node, which at most one line leaves

abbrev pub are_lines : List ℕ → ℕ → Bool
are_lines lines l = list_any (λ x. x == l) lines

among-left : (p : ℕ) (lines : List ℕ) (q l : ℕ) → is_among (left_from p lines) q l ≡ ((p == q) && are_lines lines l)
among-left p [] q l = by (p == q)
  where
    by : (b : Bool) → false ≡ (b && false)
    by true = refl
    by false = refl
among-left p (x ∷ lines) q l = ap (λ b. ((p == q) && (x == l)) || b) (among-left p lines q l) ∙ by (p == q) (x == l) (are_lines lines l)
  where
    by : (a b c : Bool) → ((a && b) || (a && c)) ≡ (a && (b || c))
    by true b c = refl
    by false b c = refl

once-few : (p : ℕ) (lines : List ℕ) → length lines ≤ 1 → are_once (left_from p lines) ≡ true
once-few p [] few = refl
once-few p (x ∷ []) few = refl
once-few p (x ∷ y ∷ lines) few = absurd (omega (arith, few))

pub left-length : (p : ℕ) (lines : List ℕ) → length (left_from p lines) ≡ length lines
left-length p lines = length-map lines (λ line. (record { 0 = p }, record { 0 = line }))

pub gone-from_node : (p : ℕ) (s t : System) (lines : List ℕ) → ((q : ℕ) → q ≢ p → t.nodes q ≡ s.nodes q) → ((l : ℕ) → are_lines lines l ≡ (holds s p l && not (holds t p l))) → length lines ≤ 1 → AreGone s t (left_from p lines)
gone-from_node p s t lines others exactly few = record {
  exactly = λ q l. among-left p lines q l ∙ by q l (p == q) refl;
  once = once-few p lines few;
}
  where
    by : (q l : ℕ) (b : Bool) → (p == q) ≡ b → (b && are_lines lines l) ≡ (holds s q l && not (holds t q l))
    by q l true e = exactly l ∙ ap (λ (x : ℕ). holds s x l && not (holds t x l)) (eqb-true p q e)
    by q l false e =
        let other : q ≢ p = λ same. true≢false (sym (eq-eqb p q (sym same)) ∙ e) in
        sym (ap (λ v. holds s q l && not (is_held (copy_of v l))) (others q other) ∙ and-not (holds s q l))

-- ---- the turns of all

module _ (p : ℕ) (s t u : System) (before : (q : ℕ) → p ≤ q → t.nodes q ≡ s.nodes q) (after : (q : ℕ) → q ≢ p → u.nodes q ≡ t.nodes q) where
  stays-once : (q : ℕ) → (t.nodes q ≡ s.nodes q) ⊎ (u.nodes q ≡ t.nodes q)
  stays-once q = by (q == p) refl
    where
      by : (b : Bool) → (q == p) ≡ b → (t.nodes q ≡ s.nodes q) ⊎ (u.nodes q ≡ t.nodes q)
      by true e = let same = eqb-true q p e in inl (before q (omega (arith, same)))
      by false e = inr (after q (λ same. true≢false (sym (eq-eqb q p same) ∙ e)))

  changes-once : AreOneWay s t u
  changes-once = record {
    comes = λ q l gone there. ⊎_elim
        (λ same. absurd (true≢false (sym there ∙ ap (λ v. is_held (copy_of v l)) same ∙ gone)))
        (λ same. ap (λ v. is_held (copy_of v l)) same ∙ there)
        (stays-once q);
    leaves = λ q l there gone. ⊎_elim
        (λ same. absurd (true≢false (sym there ∙ sym (ap (λ v. is_held (copy_of v l)) same) ∙ gone)))
        (λ same. ap (λ v. is_held (copy_of v l)) same ∙ gone)
        (stays-once q);
  }

pub turns-tell : TurnsTell
turns-tell p s t u gone more below from = record {
  told = gone-joined s t u gone more (changes-once p s t u below.others from.others) below.told from.told;
  others = λ q above. from.others q (omega (arith, above)) ∙ below.others q (omega (arith, above));
  few = let long = length-append gone more in let first = below.few in let second = from.few in omega (arith, long, first, second);
}
