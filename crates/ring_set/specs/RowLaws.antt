-- What the calls on sets do to the row of a test, while entries join, leave and change.
use Rattle.std.specs.Prelude.{◌≡◌, ℕ, ◌<◌, ◌==◌, ◌&&◌, ◌||◌, not, nat_lt, Bool, true, false, List, [], ◌∷◌, ◌++◌, length, take, position, if◌then◌else◌, Some, None, slice_set}
use Rattle.ring_set.specs.Rows.{IsRow, both}
use Rattle.ring_set.specs.Sets.{aged, has, least, place_at}
use Rattle.ring_set.specs.declared.set.Places.{Places}

-- no entry
abbrev pub RowNone : Type 0
RowNone = (w : Places) (head : ℕ) → ((j : ℕ) → has w j ≡ false) → IsRow w head []

-- the oldest place is that of the first entry that passes
abbrev pub RowFirst : Type 0
RowFirst = (w : Places) (head : ℕ) (bs : List Bool) → IsRow w head bs → let k = least (aged w head) 128 in position (λ b. b) bs ≡ (if nat_lt k 128 then Some k else None)

-- those of the first n
abbrev pub RowCut : Type 0
RowCut =
    (w run v : Places) (head n : ℕ) (bs : List Bool) → IsRow w head bs
    → ((k : ℕ) → k < 128 → aged run head k ≡ nat_lt k n) → ((j : ℕ) → has v j ≡ (has w j && has run j))
    → IsRow v head (take n bs)

-- an entry joins
abbrev pub RowPush : Type 0
RowPush =
    (w v : Places) (head : ℕ) (b : Bool) (bs : List Bool) → IsRow w head bs → length bs < 128
    → ((j : ℕ) → has v j ≡ ((b && (j == place_at head (length bs))) || has w j))
    → IsRow v head (bs ++ b ∷ [])

-- the oldest leaves
abbrev pub RowPop : Type 0
RowPop =
    (w v : Places) (head : ℕ) (b : Bool) (bs : List Bool) → IsRow w head (b ∷ bs) → head < 128
    → ((j : ℕ) → has v j ≡ (not (j == head) && has w j))
    → IsRow v (place_at head 1) bs

-- an entry comes to pass, or not to
abbrev pub RowSet : Type 0
RowSet =
    (w v : Places) (head k : ℕ) (bs : List Bool) → IsRow w head bs → k < length bs
    → (((j : ℕ) → has v j ≡ ((j == place_at head k) || has w j)) → IsRow v head (slice_set bs k true))
    × (((j : ℕ) → has v j ≡ (not (j == place_at head k) && has w j)) → IsRow v head (slice_set bs k false))

abbrev pub RowAnd : Type 0
RowAnd =
    (w v u : Places) (head : ℕ) (as' bs : List Bool) → IsRow w head as' → IsRow v head bs → ((j : ℕ) → has u j ≡ (has w j && has v j)) → IsRow u head (both as' bs)
