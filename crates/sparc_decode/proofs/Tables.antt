-- Tables in which no two rows have the same key: each row is the one that is found for its key, and none for a key
-- that no row has.
use Rattle.std.specs.Prelude.{◌≡◌, ◌≢◌, ◌<◌, ℕ, zero, suc, Bool, true, false, ◌==◌, ◌&&◌, not, List, [], ◌∷◌, length, AllPairs, slice_index_or, All}
use Rattle.std.proofs.Common.{arith, refl, sym}
use Rattle.std.proofs.lemmas.Bool.Decides.{nat_tests}
use Rattle.std.proofs.lemmas.List.Elements.{All-head, All-tail}
use Rattle.sparc_decode.specs.Forms as form
use Rattle.sparc_decode.specs.Instr.{Row, by_row}

-- a fact for each row of a table, one after the other
infixr 1 ◌also◌
pub ◌also◌ : {A B : Type 0} → A → B → A × B
a also b = (a, b)

-- no row has this key
abbrev pub is_fresh : ℕ → List Row → Bool
is_fresh key [] = true
is_fresh key (row ∷ rows) = not (key == row.0) && is_fresh key rows

abbrev pub keys_differ : List Row → Bool
keys_differ [] = true
keys_differ (row ∷ rows) = is_fresh row.0 rows && keys_differ rows

pub and_first : (a b : Bool) → a && b ≡ true → a ≡ true
and_first true b e = refl
and_first false b e = cc

pub and_second : (a b : Bool) → a && b ≡ true → b ≡ true
and_second true b e = e
and_second false b e = cc

unlike : (k n : ℕ) → not (k == n) ≡ true → k ≢ n
unlike k n e = grind (arith, nat_tests)

unlike_test : (k n : ℕ) → k ≢ n → (k == n) ≡ false
unlike_test k n e = grind (arith, nat_tests)

same_test : (k : ℕ) → (k == k) ≡ true
same_test k = grind (arith, nat_tests)

pub fresh_at : (key : ℕ) (rows : List Row) (n : ℕ) (d : Row) → is_fresh key rows ≡ true → n < length rows → key ≢ (slice_index_or rows n d).0
fresh_at key [] n d fresh h = absurd (omega arith)
fresh_at key (row ∷ rows) zero d fresh h = unlike key row.0 (and_first _ _ fresh)
fresh_at key (row ∷ rows) (suc n) d fresh h = fresh_at key rows n d (and_second (not (key == row.0)) _ fresh) (omega arith)

pub differ_at : (rows : List Row) → keys_differ rows ≡ true → AllPairs (λ (row : Row) (later : Row). row.0 ≢ later.0) rows
differ_at [] e i j d low high = absurd (omega arith)
differ_at (row ∷ rows) e i zero d low high = absurd (omega arith)
differ_at (row ∷ rows) e zero (suc j) d low high = fresh_at row.0 rows j d (and_first _ _ e) (omega arith)
differ_at (row ∷ rows) e (suc i) (suc j) d low high = differ_at rows (and_second (is_fresh row.0 rows) _ e) i j d (omega arith) (omega arith)

-- the row at a place is the one that is found for its key
pub found_at : (rows : List Row) (n : ℕ) (d : Row) (word : ℕ) → keys_differ rows ≡ true → n < length rows
    → by_row rows (slice_index_or rows n d).0 word ≡ (slice_index_or rows n d).1 word
found_at [] n d word e h = absurd (omega arith)
found_at (row ∷ rows) zero d word e h = rw (same_test row.0) refl
found_at (row ∷ rows) (suc n) d word e h =
    let apart = fresh_at row.0 rows n d (and_first _ _ e) (omega arith) in
    rw (unlike_test _ _ apart) (found_at rows n d word (and_second (is_fresh row.0 rows) _ e) (omega arith))

-- a key that no row has is illegal_instruction
pub none_found : (rows : List Row) (key word : ℕ) → All (λ (row : Row). key ≢ row.0) rows → by_row rows key word ≡ form.ill 0x010
none_found [] key word none = refl
none_found (row ∷ rows) key word none =
    let unlike = λ (same : row.0 ≡ key). All-head (λ (r : Row). key ≢ r.0) row rows none (sym same) in
    rw (unlike_test _ _ unlike) (none_found rows key word (All-tail (λ (r : Row). key ≢ r.0) row rows none))
