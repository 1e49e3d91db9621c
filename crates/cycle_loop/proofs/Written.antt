-- Memory after one access more, and the bytes of a value that memory has.
use Rattle.std.proofs.Common.{◌≡◌, ◌+◌, ◌-◌, ◌*◌, ◌/◌, ◌%◌, ◌<◌, ◌≤◌, ◌^◌, ◌&&◌, nat_lt, nat_le, ℕ, zero, suc, Bool, true, false, if◌then◌else◌, List, [], ◌∷◌, ◌++◌, length, Option, Some, option_and_then, slice_get, refl, sym, ap, ⊎_elim, ◌∙◌, arith}
use Rattle.std.proofs.Math.Nat.{div-div-eq-div-mul}
use Rattle.std.proofs.lemmas.Bool.{cases_lt, leb-true, leb-false, ltb-true, ltb-false}
use Rattle.std.proofs.lemmas.Nat.{pow-add}
use Rattle.rsim_base.specs.Bytes.{byte_of, count_of, gap_of, FitsIn}
use Rattle.rsim_base.specs.declared.memory.Access.{Access}
use Rattle.rsim_base.specs.declared.memory.Size.{Size}
use Rattle.rsim_base.specs.declared.memory.Size.TheVariants.{B1, B2, B4, B8}
use Rattle.elf64_load.specs.Image.{ImageView}
use Rattle.memory_contracts.specs.Store.{stored, value_at}
use Rattle.order_checker.specs.Faults.{writes, byte_from}
use Rattle.order_checker.specs.Firsts.{last}
use Rattle.order_checker.specs.Values.{stored_byte}
use Rattle.order_checker.specs.Walking.{written_byte}
use Rattle.list_facts.specs.Places.{slice_get_last, slice_get-append_front, length_more}

-- ---- what all accesses of an order have written

last_same : (t u : ℕ → Bool) (n : ℕ) → ((k : ℕ) → k < n → t k ≡ u k) → last t n ≡ last u n
last_same t u zero same = refl
last_same t u (suc n) same =
    ap (λ b. if b then Some n else last t n) (same n (omega arith)) ∙ ap (λ o. if u n then Some n else o) (last_same t u n (λ k below. same k (omega arith)))

abbrev found_at : List Access → ℕ → ℕ → Option Access
found_at lines n byte = option_and_then (slice_get lines) (last (λ k. writes byte (slice_get lines k)) n)

-- accesses behind the first n don't count
found_front : (lines more : List Access) (n byte : ℕ) → n ≤ length lines → found_at (lines ++ more) n byte ≡ found_at lines n byte
found_front lines more zero byte within = refl
found_front lines more (suc n) byte within =
    ap (λ o. option_and_then (slice_get (lines ++ more)) (if writes byte o then Some n else last (λ k. writes byte (slice_get (lines ++ more) k)) n)) same
    ∙ by_test (found_front lines more n byte (omega arith)) (writes byte (slice_get lines n))
  where
    same : slice_get (lines ++ more) n ≡ slice_get lines n
    same = slice_get-append_front lines more n (omega arith)

    by_test : found_at (lines ++ more) n byte ≡ found_at lines n byte → (b : Bool) → option_and_then (slice_get (lines ++ more)) (if b then Some n else last (λ k. writes byte (slice_get (lines ++ more) k)) n)
        ≡ option_and_then (slice_get lines) (if b then Some n else last (λ k. writes byte (slice_get lines k)) n)
    by_test before true = same
    by_test before false = before

pub written_more : (image : ImageView) (order : List Access) (e : Access) (byte : ℕ) →
    written_byte image (order ++ e ∷ []) (length (order ++ e ∷ [])) byte ≡ (if writes byte (Some e) then stored_byte e byte else written_byte image order (length order) byte)
written_more image order e byte =
    ap (λ n. written_byte image (order ++ e ∷ []) n byte) (length_more order e)
    ∙ ap (λ o. byte_from image byte (option_and_then (slice_get (order ++ e ∷ [])) (if writes byte o then Some (length order) else last (λ k. writes byte (slice_get (order ++ e ∷ []) k)) (length order)))) (slice_get_last order e)
    ∙ by_test (writes byte (Some e))
  where
    by_test : (b : Bool) → byte_from image byte (option_and_then (slice_get (order ++ e ∷ [])) (if b then Some (length order) else last (λ k. writes byte (slice_get (order ++ e ∷ []) k)) (length order)))
        ≡ (if b then stored_byte e byte else written_byte image order (length order) byte)
    by_test true = ap (byte_from image byte) (slice_get_last order e)
    by_test false = ap (byte_from image byte) (found_front order (e ∷ []) (length order) byte (omega arith))

-- ---- the bytes of values

-- each byte of the value that is in memory, where bytes are bytes
byte_of-value : (bytes : ℕ → ℕ) (a n k : ℕ) → ((i : ℕ) → i < n → bytes (a + i) < 256) → k < n → byte_of (value_at bytes a n) n k ≡ bytes (a + k)
byte_of-value bytes a zero k small below = absurd (omega arith)
byte_of-value bytes a (suc n) k small below = ⊎_elim (λ lt. earlier lt (byte_of-value bytes a n k (λ i low. small i (omega arith)) lt)) here (cases_lt k n)
  where
    here : n ≤ k → byte_of (value_at bytes a (suc n)) (suc n) k ≡ bytes (a + k)
    here past =
        let same : k ≡ n = omega arith in
        let none : 8 * (suc n - 1 - k) ≡ 0 = omega arith in
        let byte : bytes (a + n) < 256 = small n (omega arith) in
        ap (λ d. (value_at bytes a n * 256 + bytes (a + n)) / 2 ^ d % 256) none ∙ last_byte (value_at bytes a n) (bytes (a + n)) byte ∙ ap (λ i. bytes (a + i)) (sym same)
      where
        last_byte : (v b : ℕ) → b < 256 → (v * 256 + b) / 2 ^ 0 % 256 ≡ b
        last_byte v b byte = omega arith

    earlier : k < n → byte_of (value_at bytes a n) n k ≡ bytes (a + k) → byte_of (value_at bytes a (suc n)) (suc n) k ≡ bytes (a + k)
    earlier lt before =
        let more : 8 * (suc n - 1 - k) ≡ 8 + 8 * (n - 1 - k) = omega arith in
        let v = value_at bytes a n in
        let byte : bytes (a + n) < 256 = small n (omega arith) in
        ap (λ d. (v * 256 + bytes (a + n)) / 2 ^ d % 256) more
        ∙ ap (λ d. (v * 256 + bytes (a + n)) / d % 256) (pow-add 2 8 (8 * (n - 1 - k)))
        ∙ ap (λ q. q % 256) (sym (div-div-eq-div-mul (v * 256 + bytes (a + n)) 256 (2 ^ (8 * (n - 1 - k)))))
        ∙ ap (λ q. q / 2 ^ (8 * (n - 1 - k)) % 256) (front v (bytes (a + n)) byte)
        ∙ before
      where
        front : (v b : ℕ) → b < 256 → (v * 256 + b) / 256 ≡ v
        front v b byte = omega arith

pub value_at-byte : (bytes : ℕ → ℕ) (a : ℕ) (n : Size) (k : ℕ) → ((i : ℕ) → i < count_of n → bytes (a + i) < 256) → k < count_of n →
    byte_of (value_at bytes a (count_of n)) (count_of n) k ≡ bytes (a + k)
value_at-byte bytes a n k small below = byte_of-value bytes a (count_of n) k small below

pub value_at-fits : (bytes : ℕ → ℕ) (a : ℕ) (n : Size) → ((i : ℕ) → i < count_of n → bytes (a + i) < 256) → FitsIn n (value_at bytes a (count_of n))
value_at-fits bytes a B1 small = let b0 = small 0 (omega arith) in omega arith
value_at-fits bytes a B2 small = let b0 = small 0 (omega arith) in let b1 = small 1 (omega arith) in omega arith
value_at-fits bytes a B4 small = let b0 = small 0 (omega arith) in let b1 = small 1 (omega arith) in let b2 = small 2 (omega arith) in let b3 = small 3 (omega arith) in omega arith
value_at-fits bytes a B8 small =
    let b0 = small 0 (omega arith) in let b1 = small 1 (omega arith) in let b2 = small 2 (omega arith) in let b3 = small 3 (omega arith) in
    let b4 = small 4 (omega arith) in let b5 = small 5 (omega arith) in let b6 = small 6 (omega arith) in let b7 = small 7 (omega arith) in
    omega arith

-- ---- memory after a store

-- an aligned access has the addresses from its own on
gap_within : (n : Size) (a b : ℕ) → a % count_of n ≡ 0 → a < 2 ^ 64 → b < 2 ^ 64 → a ≤ b → b < a + count_of n → gap_of a b ≡ b - a
gap_within B1 a b aligned fits byte from until = omega arith
gap_within B2 a b aligned fits byte from until = omega arith
gap_within B4 a b aligned fits byte from until = omega arith
gap_within B8 a b aligned fits byte from until = omega arith

within_gap : (n : Size) (a b : ℕ) → a % count_of n ≡ 0 → a < 2 ^ 64 → b < 2 ^ 64 → gap_of a b < count_of n → (a ≤ b) × (b < a + count_of n)
within_gap B1 a b aligned fits byte near = (omega arith, omega arith)
within_gap B2 a b aligned fits byte near = (omega arith, omega arith)
within_gap B4 a b aligned fits byte near = (omega arith, omega arith)
within_gap B8 a b aligned fits byte near = (omega arith, omega arith)

pub stored-is : (bytes : ℕ → ℕ) (a : ℕ) (n : Size) (value b : ℕ) → a % count_of n ≡ 0 → a < 2 ^ 64 → b < 2 ^ 64 →
    stored bytes a (count_of n) value b ≡ (if nat_lt (gap_of a b) (count_of n) then byte_of value (count_of n) (gap_of a b) else bytes b)
stored-is bytes a n value b aligned fits byte = by_tests (nat_le a b) (nat_lt b (a + count_of n)) (nat_lt (gap_of a b) (count_of n)) refl refl refl
  where
    by_tests : (from until near : Bool) → nat_le a b ≡ from → nat_lt b (a + count_of n) ≡ until → nat_lt (gap_of a b) (count_of n) ≡ near →
        (if from && until then byte_of value (count_of n) (b - a) else bytes b) ≡ (if near then byte_of value (count_of n) (gap_of a b) else bytes b)
    by_tests true true true f u g = ap (byte_of value (count_of n)) (sym (gap_within n a b aligned fits byte (leb-true a b f) (ltb-true b (a + count_of n) u)))
    by_tests true true false f u g =
        let gap = gap_within n a b aligned fits byte (leb-true a b f) (ltb-true b (a + count_of n) u) in
        absurd (omega (arith, gap, leb-true a b f, ltb-true b (a + count_of n) u, ltb-false (gap_of a b) (count_of n) g))
    by_tests false until true f u g = let in_it = within_gap n a b aligned fits byte (ltb-true (gap_of a b) (count_of n) g) in absurd (omega (arith, in_it.0, leb-false a b f))
    by_tests true false true f u g = let in_it = within_gap n a b aligned fits byte (ltb-true (gap_of a b) (count_of n) g) in absurd (omega (arith, in_it.1, ltb-false b (a + count_of n) u))
    by_tests false until false f u g = refl
    by_tests true false false f u g = refl
