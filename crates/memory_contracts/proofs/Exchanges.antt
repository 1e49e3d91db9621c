-- What the turns of a tick leave: which lines have left their nodes, and which wishes there are still.
use Rattle.std.proofs.Common.{◌≡◌, ℕ, zero, suc, ◌≤◌, ◌==◌, Bool, true, false, not, ◌&&◌, ◌||◌, cond, List, [], ◌∷◌, ◌++◌, Option, None, Some, refl, sym, ap, subst, ◌∙◌, inl, inr, append-nil, arith}
use Rattle.std.specs.List.{list_any}
use Rattle.std.proofs.lemmas.Bool.{and_parts, and_from, and_right, or_parts, or_from, eqb-true, eqb-false, eq-eqb, ne_eqb, not-true, not_from_false, false_from_ne_true}
use Rattle.rsim_base.specs.declared.memory.Line.{Line}
use Rattle.rsim_base.specs.declared.memory.Node.{Node}
use Rattle.memory_contracts.specs.Store.{IsLeftOf, Ticks, Wish, are_once, is_among}
use Rattle.memory_contracts.specs.Flat.{FlatView, Moves, exchanged, given, has_moved, is_at, left_by, line_named, store_of, ticked, turn, turn_with, turns, with_left}

-- ---- lists

or_false : (b : Bool) → (b || false) ≡ b
or_false true = refl
or_false false = refl

any-append : {X : Type 0} (p : X → Bool) (xs : List X) (x : X) → list_any p (xs ++ x ∷ []) ≡ (list_any p xs || p x)
any-append p [] x = or_false (p x)
any-append p (y ∷ xs) x = by_first (p y) (any-append p xs x)
  where
    by_first : (b : Bool) → list_any p (xs ++ x ∷ []) ≡ (list_any p xs || p x) → (b || list_any p (xs ++ x ∷ [])) ≡ ((b || list_any p xs) || p x)
    by_first true rest = refl
    by_first false rest = rest

eqb_sym-false : (a b : ℕ) → (a == b) ≡ false → (b == a) ≡ false
eqb_sym-false a b e = ne_eqb b a (λ same. eqb-false a b e (sym same))

other_pair : (a b x y : ℕ) → ((a == x) && (b == y)) ≡ false → ((x == a) && (y == b)) ≡ false
other_pair a b x y e = false_from_ne_true _ (λ both.
    let parts = and_parts (x == a) (y == b) both in
    let pair = and_from (a == x) (b == y) (eq-eqb a x (sym (eqb-true x a parts.0))) (eq-eqb b y (sym (eqb-true y b parts.1))) in
    absurd cc)

-- one more that is not among them
once-append : (xs : List (Node × Line)) (x : Node × Line) → are_once xs ≡ true → is_among xs x.0.0 x.1.0 ≡ false → are_once (xs ++ x ∷ []) ≡ true
once-append [] x once new = refl
once-append (y ∷ xs) x once new =
    let firsts = and_parts (not (is_among xs y.0.0 y.1.0)) (are_once xs) once in
    let news = or_parts ((y.0.0 == x.0.0) && (y.1.0 == x.1.0)) (is_among xs x.0.0 x.1.0) new in
    let none : is_among (xs ++ x ∷ []) y.0.0 y.1.0 ≡ false =
    any-append (λ z. (z.0.0 == y.0.0) && (z.1.0 == y.1.0)) xs x
    ∙ or_from _ _ (not-true _ firsts.0) (other_pair y.0.0 y.1.0 x.0.0 x.1.0 news.0) in
    and_from _ _ (not_from_false _ none) (once-append xs x firsts.1 news.1)

-- ---- lines that have left their nodes

-- now is what some moves have left of first
pub record AreMoved (first now : Moves) : Type 0 where
  pub kept : (l : ℕ) → has_moved l now ≡ false → now.owner l ≡ first.owner l
  pub exactly : (p l : ℕ) → is_among now.lost p l ≡ (is_at (first.owner l) p && not (is_at (now.owner l) p))
  pub once : are_once now.lost ≡ true

and_not : (b : Bool) → (b && not b) ≡ false
and_not true = refl
and_not false = refl

among-left : (lost : List (Node × Line)) (o : Option Node) (line q l : ℕ) → is_among (lost ++ left_by o line) q l ≡ (is_among lost q l || (is_at o q && (line == l)))
among-left lost None line q l = ap (λ xs. is_among xs q l) (append-nil lost) ∙ sym (or_false (is_among lost q l))
among-left lost (Some r) line q l = any-append (λ z. (z.0.0 == q) && (z.1.0 == l)) lost (r, line_named line)

-- a line that has not moved is not among the lost
not_lost : (first m : Moves) → AreMoved first m → (line : ℕ) → has_moved line m ≡ false → (q : ℕ) → is_among m.lost q line ≡ false
not_lost first m is line still q =
    is.exactly q line ∙ ap (λ o. is_at (first.owner line) q && not (is_at o q)) (is.kept line still) ∙ and_not (is_at (first.owner line) q)

once-left : (lost : List (Node × Line)) (o : Option Node) (line : ℕ) → are_once lost ≡ true → ((q : ℕ) → is_among lost q line ≡ false) → are_once (lost ++ left_by o line) ≡ true
once-left lost None line once new = ap are_once (append-nil lost) ∙ once
once-left lost (Some r) line once new = once-append lost (r, line_named line) once (new r.0)

-- a node that had it, and is not the one that gets it
without_next : (o : Option Node) (p q : ℕ) → is_at o p ≡ false → is_at o q ≡ (is_at o q && not (p == q))
without_next o p q other = by_node (p == q) refl
  where
    and_true : (b : Bool) → b ≡ (b && true)
    and_true true = refl
    and_true false = refl

    by_node : (b : Bool) → (p == q) ≡ b → is_at o q ≡ (is_at o q && not b)
    by_node true e = let none : is_at o q ≡ false = ap (is_at o) (sym (eqb-true p q e)) ∙ other in none ∙ sym (and_right (is_at o q) false refl)
    by_node false e = and_true (is_at o q)

given-moved : (first m : Moves) (p line : ℕ) → AreMoved first m → has_moved line m ≡ false → is_at (m.owner line) p ≡ false → AreMoved first (given p line m)
given-moved first m p line is still other = record {
  kept = λ l none.
      let parts = or_parts (has_moved l m) (line == l) (sym (any-append (λ (x : Line). x.0 == l) m.moved (line_named line)) ∙ none) in
      ap (λ b. cond b (Some (record { 0 = p })) (m.owner l)) (eqb_sym-false line l parts.1) ∙ is.kept l parts.0;
  exactly = λ q l. among-left m.lost (m.owner line) line q l ∙ by_line q l (l == line) refl;
  once = once-left m.lost (m.owner line) line is.once (not_lost first m is line still);
}
  where
    by_line : (q l : ℕ) (b : Bool) → (l == line) ≡ b → (is_among m.lost q l || (is_at (m.owner line) q && (line == l))) ≡ (is_at (first.owner l) q && not (is_at (cond b (Some (record { 0 = p })) (m.owner l)) q))
    by_line q l true e =
        let same : l ≡ line = eqb-true l line e in
        let P : ℕ → Type 0 = λ l. (is_among m.lost q l || (is_at (m.owner line) q && (line == l))) ≡ (is_at (first.owner l) q && not (p == q)) in
        subst P (sym same) (
        ap (λ b. b || (is_at (m.owner line) q && (line == line))) (not_lost first m is line still q)
        ∙ ap (λ b. is_at (m.owner line) q && b) (eq-eqb line line refl)
        ∙ and_true (is_at (m.owner line) q)
        ∙ without_next (m.owner line) p q other
        ∙ ap (λ o. is_at o q && not (p == q)) (is.kept line still))
      where
        and_true : (b : Bool) → (b && true) ≡ b
        and_true true = refl
        and_true false = refl
    by_line q l false e =
        ap (λ b. is_among m.lost q l || (is_at (m.owner line) q && b)) (eqb_sym-false l line e)
        ∙ ap (λ b. is_among m.lost q l || b) (and_right (is_at (m.owner line) q) false refl)
        ∙ or_false (is_among m.lost q l)
        ∙ is.exactly q l

left-moved : (first m : Moves) (p : ℕ) (ws : List Wish) → AreMoved first m → AreMoved first (with_left p ws m)
left-moved first m p ws is = record { kept = is.kept; exactly = is.exactly; once = is.once }

turn_with-moved : (first m : Moves) (p : ℕ) (ws : List Wish) → AreMoved first m → AreMoved first (turn_with p ws m)
turn_with-moved first m p [] is = is
turn_with-moved first m p (w ∷ ws) is = by_tests (has_moved w.line m) (is_at (m.owner w.line) p) refl refl
  where
    by_tests : (moved at : Bool) → has_moved w.line m ≡ moved → is_at (m.owner w.line) p ≡ at → AreMoved first (cond moved m (cond at (with_left p ws m) (given p w.line (with_left p ws m))))
    by_tests true at e f = is
    by_tests false true e f = left-moved first m p ws is
    by_tests false false e f = given-moved first (with_left p ws m) p w.line (left-moved first m p ws is) e f

turns-moved : (first m : Moves) (n : ℕ) → AreMoved first m → AreMoved first (turns n m)
turns-moved first m zero is = is
turns-moved first m (suc n) is = turn_with-moved first (turns n m) n ((turns n m).wishes n) (turns-moved first m n is)

-- ---- wishes

left_of-same : (ws : List Wish) → IsLeftOf ws ws
left_of-same [] = refl
left_of-same (w ∷ ws) = inr (ws, refl, left_of-same ws)

turn_with-others : (p q : ℕ) → (q == p) ≡ false → (ws : List Wish) (m : Moves) → (turn_with p ws m).wishes q ≡ m.wishes q
turn_with-others p q other [] m = refl
turn_with-others p q other (w ∷ ws) m = by_tests (has_moved w.line m) (is_at (m.owner w.line) p)
  where
    by_tests : (moved at : Bool) → (cond moved m (cond at (with_left p ws m) (given p w.line (with_left p ws m)))).wishes q ≡ m.wishes q
    by_tests true at = refl
    by_tests false true = rw other refl
    by_tests false false = rw other refl

turn_with-left : (p : ℕ) (ws : List Wish) (m : Moves) → m.wishes p ≡ ws → IsLeftOf ((turn_with p ws m).wishes p) ws
turn_with-left p [] m e = e
turn_with-left p (w ∷ ws) m e = by_tests (has_moved w.line m) (is_at (m.owner w.line) p)
  where
    rest : IsLeftOf (cond (p == p) ws (m.wishes p)) (w ∷ ws)
    rest =
        let P : Bool → Type 0 = λ b. IsLeftOf (cond b ws (m.wishes p)) (w ∷ ws) in
        subst P (sym (eq-eqb p p refl)) (inl (left_of-same ws))

    by_tests : (moved at : Bool) → IsLeftOf ((cond moved m (cond at (with_left p ws m) (given p w.line (with_left p ws m)))).wishes p) (w ∷ ws)
    by_tests true at = let P : List Wish → Type 0 = λ xs. IsLeftOf xs (w ∷ ws) in subst P (sym e) (left_of-same (w ∷ ws))
    by_tests false true = rest
    by_tests false false = rest

turns-later : (n q : ℕ) (m : Moves) → n ≤ q → (turns n m).wishes q ≡ m.wishes q
turns-later zero q m later = refl
turns-later (suc n) q m later =
    turn_with-others n q (ne_eqb q n (λ same. omega (arith, same, later))) ((turns n m).wishes n) (turns n m) ∙ turns-later n q m (omega (arith, later))

turns-left : (n q : ℕ) (m : Moves) → IsLeftOf ((turns n m).wishes q) (m.wishes q)
turns-left zero q m = left_of-same (m.wishes q)
turns-left (suc n) q m = by_node (q == n) refl (turns-left n q m)
  where
    by_node : (b : Bool) → (q == n) ≡ b → IsLeftOf ((turns n m).wishes q) (m.wishes q) → IsLeftOf ((turn n (turns n m)).wishes q) (m.wishes q)
    by_node true e before =
        let same : n ≡ q = sym (eqb-true q n e) in
        let P : ℕ → Type 0 = λ q. IsLeftOf ((turn n (turns n m)).wishes q) (m.wishes q) in
        let Q : List Wish → Type 0 = λ ws. IsLeftOf ((turn n (turns n m)).wishes n) ws in
        subst P same (subst Q (turns-later n n m (omega arith)) (turn_with-left n ((turns n m).wishes n) (turns n m) refl))
    by_node false e before =
        let P : List Wish → Type 0 = λ ws. IsLeftOf ws (m.wishes q) in
        subst P (sym (turn_with-others n q e ((turns n m).wishes n) (turns n m))) before

-- ---- a tick

pub ticks-ticked : (v : FlatView) → Ticks (store_of v) (store_of (ticked v)) (exchanged v).lost
ticks-ticked v =
    let first : Moves = record { owner = v.owner; wishes = v.wishes; moved = []; lost = [] } in
    let is = turns-moved first first v.nodes (record { kept = λ l none. refl; exactly = λ p l. sym (and_not (is_at (v.owner l) p)); once = refl }) in
    record {
      same = refl;
      lost = record { exactly = is.exactly; once = is.once };
      left = λ p. turns-left v.nodes p first;
    }
