-- Values of several bytes in memory that is kept as doublewords.
use Rattle.std.proofs.Common.{◌≡◌, ℕ, zero, suc, ◌+◌, ◌-◌, ◌*◌, ◌/◌, ◌%◌, ◌^◌, ◌<◌, ◌≤◌, ◌==◌, Bool, true, false, ◌&&◌, nat_le, nat_lt, if◌then◌else◌, refl, sym, ap, ◌∙◌, arith}
use Rattle.std.proofs.Math.Nat.{div-eq_of_lt, div-div-eq-div-mul}
use Rattle.std.proofs.lemmas.Bool.{eqb-true, eqb-false, leb-true, leb-false, ltb-true, ltb-false}
use Rattle.std.proofs.lemmas.Nat.{pow-add, div-add-mod'}
use Rattle.rsim_base.specs.Bytes.{byte_of, count_of}
use Rattle.rsim_base.specs.declared.memory.Size.{Size}
use Rattle.rsim_base.specs.declared.memory.Size.TheVariants.{B1, B2, B4, B8}
use Rattle.memory_contracts.specs.Store.{stored, value_at}
use Rattle.memory_contracts.specs.Parts.{byte_of_all}
use Rattle.memory_contracts.specs.Updates.{with_at}

-- an aligned access lies in one doubleword
pub in_one_doubleword : (n : Size) (a : ℕ) → a % count_of n ≡ 0 → a % 8 + count_of n ≤ 8
in_one_doubleword B1 a aligned = omega arith
in_one_doubleword B2 a aligned = omega arith
in_one_doubleword B4 a aligned = omega arith
in_one_doubleword B8 a aligned = omega arith

-- the first k bytes of a value are what is left of it without its others
value_at-front : (bytes : ℕ → ℕ) (a n v : ℕ) → v < 2 ^ (8 * n) → ((k : ℕ) → k < n → byte_of v n k ≡ bytes (a + k)) → (k : ℕ) → k ≤ n → value_at bytes a k ≡ v / 2 ^ (8 * (n - k))
value_at-front bytes a n v fits same zero within =
    let whole : 8 * (n - 0) ≡ 8 * n = omega arith in
    sym (ap (λ d. v / 2 ^ d) whole ∙ div-eq_of_lt fits)
value_at-front bytes a n v fits same (suc k) within =
    let here : 8 * (n - suc k) ≡ 8 * (n - 1 - k) = omega arith in
    let before : 8 * (n - k) ≡ 8 * (n - 1 - k) + 8 = omega (arith, within) in
    let x = v / 2 ^ (8 * (n - 1 - k)) in
    let front : v / 2 ^ (8 * (n - k)) ≡ x / 256 =
    ap (λ d. v / 2 ^ d) before ∙ ap (λ d. v / d) (pow-add 2 (8 * (n - 1 - k)) 8) ∙ sym (div-div-eq-div-mul v (2 ^ (8 * (n - 1 - k))) 256) in
    let byte : bytes (a + k) ≡ x % 256 = sym (same k (omega (arith, within))) in
    ap (λ f. f * 256 + bytes (a + k)) (value_at-front bytes a n v fits same k (omega (arith, within)) ∙ front)
    ∙ ap (λ b. x / 256 * 256 + b) byte
    ∙ div-add-mod' x 256
    ∙ ap (λ d. v / 2 ^ d) (sym here)

-- a value that has the bytes of memory is the value there
pub value_at-bytes : (bytes : ℕ → ℕ) (a n v : ℕ) → v < 2 ^ (8 * n) → ((k : ℕ) → k < n → byte_of v n k ≡ bytes (a + k)) → v ≡ value_at bytes a n
value_at-bytes bytes a n v fits same =
    let none : 8 * (n - n) ≡ 0 = omega arith in
    let all : v / 2 ^ (8 * (n - n)) ≡ v = ap (λ d. v / 2 ^ d) none ∙ omega arith in
    sym (value_at-front bytes a n v fits same n (omega arith) ∙ all)

-- a byte of the doubleword that an aligned access is in
pub byte_of_all-near : (doublewords : ℕ → ℕ) (a k : ℕ) → a % 8 + k < 8 → byte_of (doublewords (a / 8)) 8 (a % 8 + k) ≡ byte_of_all doublewords (a + k)
byte_of_all-near doublewords a k near =
    let number : a / 8 ≡ (a + k) / 8 = omega arith in
    let place : a % 8 + k ≡ (a + k) % 8 = omega arith in
    ap (λ w. byte_of (doublewords w) 8 (a % 8 + k)) number ∙ ap (byte_of (doublewords ((a + k) / 8)) 8) place

-- memory in which the doubleword of an aligned access has the bytes of a value
pub stored-doubleword : (old : ℕ → ℕ) (a : ℕ) (n : Size) (value new : ℕ) → a % count_of n ≡ 0 →
    ((j : ℕ) → j < 8 → byte_of new 8 j ≡ (if nat_le (a % 8) j && nat_lt j (a % 8 + count_of n) then byte_of value (count_of n) (j - a % 8) else byte_of (old (a / 8)) 8 j)) →
    (b : ℕ) → byte_of_all (with_at old (a / 8) new) b ≡ stored (byte_of_all old) a (count_of n) value b
stored-doubleword old a n value new aligned bytes b = by_number (b / 8 == a / 8) refl
  where
    room : a % 8 + count_of n ≤ 8
    room = in_one_doubleword n a aligned

    -- a byte of that doubleword
    here : b / 8 ≡ a / 8 → (from until from' until' : Bool) → nat_le (a % 8) (b % 8) ≡ from → nat_lt (b % 8) (a % 8 + count_of n) ≡ until → nat_le a b ≡ from' → nat_lt b (a + count_of n) ≡ until' →
        (if from && until then byte_of value (count_of n) (b % 8 - a % 8) else byte_of (old (a / 8)) 8 (b % 8)) ≡ (if from' && until' then byte_of value (count_of n) (b - a) else byte_of (old (b / 8)) 8 (b % 8))
    here e true true true true f u f' u' = let place : b % 8 - a % 8 ≡ b - a = omega (arith, e) in ap (byte_of value (count_of n)) place
    here e true false true false f u f' u' = ap (λ w. byte_of (old w) 8 (b % 8)) (sym e)
    here e false until false until' f u f' u' = ap (λ w. byte_of (old w) 8 (b % 8)) (sym e)
    here e true until false until' f u f' u' = absurd (omega (arith, e, leb-true (a % 8) (b % 8) f, leb-false a b f'))
    here e false until true until' f u f' u' = absurd (omega (arith, e, leb-false (a % 8) (b % 8) f, leb-true a b f'))
    here e true true true false f u f' u' = absurd (omega (arith, e, ltb-true (b % 8) (a % 8 + count_of n) u, ltb-false b (a + count_of n) u'))
    here e true false true true f u f' u' = absurd (omega (arith, e, ltb-false (b % 8) (a % 8 + count_of n) u, ltb-true b (a + count_of n) u'))

    -- a byte of another
    far : (b / 8 ≡ a / 8 → ⊥) → (from until : Bool) → nat_le a b ≡ from → nat_lt b (a + count_of n) ≡ until →
        byte_of (old (b / 8)) 8 (b % 8) ≡ (if from && until then byte_of value (count_of n) (b - a) else byte_of (old (b / 8)) 8 (b % 8))
    far other true true f u = absurd (other (omega (arith, leb-true a b f, ltb-true b (a + count_of n) u, room)))
    far other true false f u = refl
    far other false until f u = refl

    by_number : (same : Bool) → (b / 8 == a / 8) ≡ same → byte_of (if same then new else old (b / 8)) 8 (b % 8) ≡ stored (byte_of_all old) a (count_of n) value b
    by_number true e = bytes (b % 8) (omega arith) ∙ here (eqb-true (b / 8) (a / 8) e) (nat_le (a % 8) (b % 8)) (nat_lt (b % 8) (a % 8 + count_of n)) (nat_le a b) (nat_lt b (a + count_of n)) refl refl refl refl
    by_number false e = far (eqb-false (b / 8) (a / 8) e) (nat_le a b) (nat_lt b (a + count_of n)) refl refl
