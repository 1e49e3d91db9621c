-- The turn of a node, and the wishes that it leaves.
use Rattle.std.proofs.Common.{◌≡◌, ℕ, zero, suc, ◌≤◌, ◌==◌, Bool, true, false, cond, List, [], ◌∷◌, length, drop, Some, refl, sym, ap, ◌∙◌, arith}
use Rattle.std.specs.List.{All, slice_get}
use Rattle.std.proofs.lemmas.List.{length-drop}
use Rattle.memory_contracts.specs.Flat.{Moves, is_at, given, with_left, has_moved, turn, turn_with}
use Rattle.memory_contracts.specs.Parts.{wishes_of}
use Rattle.memory_contracts.specs.Updates.{with_at}
use Rattle.memory_contracts.specs.declared.wishes.Wanted.{Wanted}

pub first-drop : (xs : List Wanted) (w : Wanted) → slice_get xs 0 ≡ Some w → xs ≡ w ∷ drop 1 xs
first-drop [] w e = cc
first-drop (x ∷ xs) w e = let same : x ≡ w = cc in ap (λ y. y ∷ xs) same

pub known-first : (has : ℕ → Bool) (xs : List Wanted) (w : Wanted) → All (λ (w : Wanted). has w.line.0 ≡ true) xs → slice_get xs 0 ≡ Some w → has w.line.0 ≡ true
known-first has [] w known e = cc
known-first has (x ∷ xs) w known e =
    let same : x ≡ w = cc in
    ap (λ (y : Wanted). has y.line.0) (sym same) ∙ known 0 w (omega arith)

pub All-one : (has : ℕ → Bool) (w : Wanted) → has w.line.0 ≡ true → All (λ (w : Wanted). has w.line.0 ≡ true) (w ∷ [])
All-one has w here zero d below = here
All-one has w here (suc k) d below = absurd (omega (arith, below))

-- ---- wishes of which some are taken off or put on

pub wishes-with : (wanted : ℕ → List Wanted) (p : ℕ) (ws : List Wanted) (q : ℕ) → wishes_of (with_at wanted p ws q) ≡ cond (q == p) (wishes_of ws) (wishes_of (wanted q))
wishes-with wanted p ws q = by_node (q == p)
  where
    by_node : (b : Bool) → wishes_of (cond b ws (wanted q)) ≡ cond b (wishes_of ws) (wishes_of (wanted q))
    by_node true = refl
    by_node false = refl

pub known-with : (has : ℕ → Bool) (wanted : ℕ → List Wanted) (p : ℕ) (ws : List Wanted) → ((q : ℕ) → All (λ (w : Wanted). has w.line.0 ≡ true) (wanted q)) → All (λ (w : Wanted). has w.line.0 ≡ true) ws → (q : ℕ) → All (λ (w : Wanted). has w.line.0 ≡ true) (with_at wanted p ws q)
known-with has wanted p ws known here q = by_node (q == p)
  where
    by_node : (b : Bool) → All (λ (w : Wanted). has w.line.0 ≡ true) (cond b ws (wanted q))
    by_node true = here
    by_node false = known q

pub few-with : (wanted : ℕ → List Wanted) (p : ℕ) (ws : List Wanted) → ((q : ℕ) → length (wanted q) ≤ 16) → length ws ≤ 16 → (q : ℕ) → length (with_at wanted p ws q) ≤ 16
few-with wanted p ws few here q = by_node (q == p)
  where
    by_node : (b : Bool) → length (cond b ws (wanted q)) ≤ 16
    by_node true = here
    by_node false = few q

pub length-tail : (xs : List Wanted) → length xs ≤ 16 → length (drop 1 xs) ≤ 16
length-tail xs few = let l = length-drop 1 xs in omega (arith, l, few)

-- ---- the three turns of a node with a wish

-- the line has moved
pub turn-waits : (p : ℕ) (xs : List Wanted) (w : Wanted) (m : Moves) → slice_get xs 0 ≡ Some w → m.wishes p ≡ wishes_of xs → has_moved w.line.0 m ≡ true → turn p m ≡ m
turn-waits p xs w m first wishes moved =
    ap (λ ws. turn_with p ws m) (wishes ∙ ap wishes_of (first-drop xs w first)) ∙ rw moved refl

-- the node has it already
pub turn-keeps : (p : ℕ) (xs : List Wanted) (w : Wanted) (m : Moves) → slice_get xs 0 ≡ Some w → m.wishes p ≡ wishes_of xs → has_moved w.line.0 m ≡ false → is_at (m.owner w.line.0) p ≡ true → turn p m ≡ with_left p (wishes_of (drop 1 xs)) m
turn-keeps p xs w m first wishes moved at =
    ap (λ ws. turn_with p ws m) (wishes ∙ ap wishes_of (first-drop xs w first)) ∙ rw (moved, at) refl

-- the line moves
pub turn-moves : (p : ℕ) (xs : List Wanted) (w : Wanted) (m : Moves) → slice_get xs 0 ≡ Some w → m.wishes p ≡ wishes_of xs → has_moved w.line.0 m ≡ false → is_at (m.owner w.line.0) p ≡ false → turn p m ≡ given p w.line.0 (with_left p (wishes_of (drop 1 xs)) m)
turn-moves p xs w m first wishes moved at =
    ap (λ ws. turn_with p ws m) (wishes ∙ ap wishes_of (first-drop xs w first)) ∙ rw (moved, at) refl
