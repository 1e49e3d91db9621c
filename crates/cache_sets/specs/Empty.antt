-- A new cache has no line, and none of its ways is reserved.
use Rattle.std.proofs.Common.{◌≡◌, ℕ, ◌*◌, zero, suc, List, [], ◌∷◌, get_or, map, find, None, option_map, Bool, refl, ap}
use Rattle.std.specs.List.{range_with_len}
use Rattle.std.proofs.lemmas.List.FromFn.{length-map-range_with_len}
use Rattle.cache_sets.specs.Ways.{Way, holds, is_reserved_for}
use Rattle.cache_sets.specs.Caches.{home_of, slot_of, reserved_slot, slot_count, empty_way, empty_cache}

nothing_held : (line : ℕ) (slots : List ℕ) → find (holds line) (map empty_way slots) ≡ None
nothing_held line [] = refl
nothing_held line (j ∷ js) = nothing_held line js

nothing_reserved : (line : ℕ) (slots : List ℕ) → find (is_reserved_for line) (map empty_way slots) ≡ None
nothing_reserved line [] = refl
nothing_reserved line (j ∷ js) = nothing_reserved line js

-- a test that finds nothing in each set finds nothing
none_in_any : (p : Way → Bool) (make : ℕ → List Way) (sets : List ℕ) (n : ℕ) → ((k : ℕ) → find p (make k) ≡ None) → find p (get_or (map make sets) n []) ≡ None
none_in_any p make [] n none = refl
none_in_any p make (s ∷ ss) zero none = none s
none_in_any p make (s ∷ ss) (suc n) none = none_in_any p make ss n none

pub slot_of-empty : (sets ways line : ℕ) → slot_of line (empty_cache sets ways) ≡ None
slot_of-empty sets ways line =
    ap (option_map (λ (way : Way). way.slot))
    (none_in_any (holds line) (λ n. map empty_way (range_with_len (n * ways) ways)) (range_with_len 0 sets) (home_of line (empty_cache sets ways)) (λ n. nothing_held line (range_with_len (n * ways) ways)))

pub reserved_slot-empty : (sets ways line : ℕ) → reserved_slot line (empty_cache sets ways) ≡ None
reserved_slot-empty sets ways line =
    ap (option_map (λ (way : Way). way.slot))
    (none_in_any (is_reserved_for line) (λ n. map empty_way (range_with_len (n * ways) ways)) (range_with_len 0 sets) (home_of line (empty_cache sets ways)) (λ n. nothing_reserved line (range_with_len (n * ways) ways)))

pub slot_count-empty : (sets ways : ℕ) → slot_count (empty_cache sets ways) ≡ sets * ways
slot_count-empty sets ways = ap (λ (n : ℕ). n * ways) (length-map-range_with_len (λ n. map empty_way (range_with_len (n * ways) ways)) 0 sets)
