-- How many places a word has, and that this is the same from each head on.
use Rattle.std.proofs.Common.{◌≡◌, ℕ, zero, suc, ◌+◌, ◌-◌, ◌/◌, ◌%◌, ◌^◌, ◌<◌, ◌==◌, Bool, true, false, cond, refl, sym, ap, ◌∙◌, arith, pow-suc}
use Rattle.std.specs.Int.Count.{ones}
use lib.Count.{ones_step}
use Rattle.std.proofs.lemmas.Nat.Bits.{bit_at_lowest, bit_at-suc}
use Rattle.std.proofs.lemmas.Bool.Decides.{nat_tests}
use Rattle.ring_set.specs.Sets.{how_many}
use Rattle.ring_set.proofs.Bits.{test}

how_many_same : (p q : ℕ → Bool) (n : ℕ) → ((k : ℕ) → k < n → p k ≡ q k) → how_many p n ≡ how_many q n
unfolding how_many
how_many_same p q zero same = refl
how_many_same p q (suc n) same =
    let rest = how_many_same (λ k. p (suc k)) (λ k. q (suc k)) n (λ k lt. same (suc k) (omega arith)) in
    λ i. cond (same zero (omega arith) i) (suc (rest i)) (rest i)

how_many-cond : (p : ℕ → Bool) (n : ℕ) → how_many p (suc n) ≡ cond (p zero) 1 0 + how_many (λ k. p (suc k)) n
unfolding how_many
how_many-cond p n = elim (p zero) as (λ b. cond b (suc (how_many (λ k. p (suc k)) n)) (how_many (λ k. p (suc k)) n) ≡ cond b 1 0 + how_many (λ k. p (suc k)) n) [ true ↦ omega arith | false ↦ omega arith ]

how_many-none : (p : ℕ → Bool) → how_many p zero ≡ 0
unfolding how_many
how_many-none p = refl

how_many-add : (m : ℕ) (p : ℕ → Bool) (n : ℕ) → how_many p (m + n) ≡ how_many p m + how_many (λ k. p (m + k)) n
how_many-add zero p n =
    let e : zero + n ≡ n = omega arith in
    let same = how_many_same (λ k. p (zero + k)) p n (λ k _. let z : zero + k ≡ k = omega arith in ap p z) in
    ap (how_many p) e ∙ sym same ∙ sym (ap (λ x. x + how_many (λ k. p (zero + k)) n) (how_many-none p) ∙ omega arith)
how_many-add (suc m) p n =
    let e : suc m + n ≡ suc (m + n) = omega arith in
    let same = how_many_same (λ k. p (suc (m + k))) (λ k. p (suc m + k)) n (λ k _. let z : suc (m + k) ≡ suc m + k = omega arith in ap p z) in
    ap (how_many p) e ∙ omega (arith, how_many-cond p (m + n), how_many-cond p m, how_many-add m (λ k. p (suc k)) n, same)

-- the count of a ring does not ask where it begins
pub how_many-turned : (p : ℕ → Bool) (h : ℕ) → h < 128 → how_many (λ k. p ((h + k) % 128)) 128 ≡ how_many p 128
how_many-turned p h lt =
    let front : ℕ = 128 - h in
    let e : front + h ≡ 128 = omega arith in
    let e' : h + front ≡ 128 = omega arith in
    let q : ℕ → Bool = λ k. p ((h + k) % 128) in
    let turned : how_many q (front + h) ≡ how_many q front + how_many (λ k. q (front + k)) h = how_many-add front q h in
    let plain : how_many p (h + front) ≡ how_many p h + how_many (λ k. p (h + k)) front = how_many-add h p front in
    let back : how_many (λ k. q (front + k)) h ≡ how_many p h = how_many_same (λ k. q (front + k)) p h (λ k l. let z : (h + (front + k)) % 128 ≡ k = omega arith in ap p z) in
    let ahead : how_many q front ≡ how_many (λ k. p (h + k)) front = how_many_same q (λ k. p (h + k)) front (λ k l. let z : (h + k) % 128 ≡ h + k = omega arith in ap p z) in
    ap (how_many q) (sym e) ∙ turned ∙ omega (arith, back, ahead, plain) ∙ ap (how_many p) e'

lowest_bit : (x : ℕ) → x < 2 → cond (x == 1) 1 0 ≡ x
lowest_bit x lt = grind (arith, nat_tests)

lowest : (w : ℕ) → cond (test w 0) 1 0 ≡ w % 2
lowest w = ap (λ b. cond (b == 1) 1 0) (bit_at_lowest w) ∙ lowest_bit (w % 2) (omega arith)

pub ones-how_many : (n w : ℕ) → w < 2 ^ n → ones w ≡ how_many (test w) n
unfolding ones
ones-how_many zero w lt = let e : w ≡ 0 = omega arith in ap ones e ∙ sym (how_many-none (test w))
ones-how_many (suc n) w lt =
    let half : w / 2 < 2 ^ n = omega (arith, pow-suc 2 n) in
    let rest : how_many (λ k. test w (suc k)) n ≡ how_many (test (w / 2)) n = how_many_same (λ k. test w (suc k)) (test (w / 2)) n (λ k _. ap (λ b. b == 1) (bit_at-suc w k)) in
    let low : cond (test w 0) 1 0 ≡ w % 2 = lowest w in
    omega (arith, ones_step w, how_many-cond (test w) n, rest, ones-how_many n (w / 2) half)
