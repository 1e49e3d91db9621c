-- What a program may read is mapped.
use Rattle.std.proofs.Common.{◌≡◌, ℕ, ◌+◌, ◌-◌, ◌/◌, ◌<◌, ◌≤◌, Bool, true, ◌&&◌, nat_le, nat_lt, List, [], ◌∷◌, length, arith, ⊎_elim}
use Rattle.std.specs.List.{list_any}
use Rattle.std.proofs.lemmas.Bool.{and_parts, and_from, or_cases, or_left, or_right, leb-true, le-leb, ltb-true, lt-ltb}
use Rattle.elf64_load.specs.Image.{ImageView, RegionView, holds, in_one_stack, is_mapped, is_readable, stack_start}

holds-within : (a n k : ℕ) (r : RegionView) → k < n → holds a n r ≡ true → holds (a + k) 1 r ≡ true
holds-within a n k r below all =
    let parts = and_parts (nat_le r.first a) (nat_le (a + n) (r.first + length r.bytes)) all in
    let low = leb-true _ _ parts.0 in
    let high = leb-true _ _ parts.1 in
    and_from (nat_le r.first (a + k)) (nat_le (a + k + 1) (r.first + length r.bytes)) (le-leb _ _ (omega (arith, low))) (le-leb _ _ (omega (arith, high, below)))

any-within : (a n k : ℕ) (t : RegionView → Bool) (rs : List RegionView) → k < n → list_any (λ r. t r && holds a n r) rs ≡ true → list_any (holds (a + k) 1) rs ≡ true
any-within a n k t [] below any = any
any-within a n k t (r ∷ rs) below any =
    ⊎_elim (λ (here : (t r && holds a n r) ≡ true). or_left (holds (a + k) 1 r) (list_any (holds (a + k) 1) rs) (holds-within a n k r below (and_parts (t r) (holds a n r) here).1))
    (λ (there : list_any (λ r. t r && holds a n r) rs ≡ true). or_right (holds (a + k) 1 r) (list_any (holds (a + k) 1) rs) (any-within a n k t rs below there))
    (or_cases (t r && holds a n r) (list_any (λ r. t r && holds a n r) rs) any)

stack-within : (a n k : ℕ) → k < n → in_one_stack a n ≡ true → in_one_stack (a + k) 1 ≡ true
stack-within a n k below all =
    let parts = and_parts (nat_le (stack_start 0) a && nat_lt a (stack_start 64)) (nat_le (a + n) (stack_start ((a - stack_start 0) / 0x10000 + 1))) all in
    let ends = and_parts (nat_le (stack_start 0) a) (nat_lt a (stack_start 64)) parts.0 in
    let low : stack_start 0 ≤ a = leb-true _ _ ends.0 in
    let high : a < stack_start 64 = ltb-true _ _ ends.1 in
    let end : a + n ≤ stack_start ((a - stack_start 0) / 0x10000 + 1) = leb-true _ _ parts.1 in
    and_from (nat_le (stack_start 0) (a + k) && nat_lt (a + k) (stack_start 64)) (nat_le (a + k + 1) (stack_start ((a + k - stack_start 0) / 0x10000 + 1)))
    (and_from (nat_le (stack_start 0) (a + k)) (nat_lt (a + k) (stack_start 64)) (le-leb _ _ (omega (arith, low))) (lt-ltb _ _ (omega (arith, low, high, end, below))))
    (le-leb _ _ (omega (arith, low, end, below)))

pub mapped-readable : (image : ImageView) (a n : ℕ) → is_readable image a n ≡ true → (k : ℕ) → k < n → is_mapped image (a + k) ≡ true
mapped-readable image a n readable k below =
    ⊎_elim (λ (region : list_any (λ r. r.may_read && holds a n r) image.regions ≡ true). or_left (list_any (holds (a + k) 1) image.regions) (in_one_stack (a + k) 1) (any-within a n k (λ r. r.may_read) image.regions below region))
    (λ (stack : in_one_stack a n ≡ true). or_right (list_any (holds (a + k) 1) image.regions) (in_one_stack (a + k) 1) (stack-within a n k below stack))
    (or_cases (list_any (λ r. r.may_read && holds a n r) image.regions) (in_one_stack a n) readable)
