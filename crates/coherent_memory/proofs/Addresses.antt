-- An aligned access lies in one line.
use Rattle.std.proofs.Common.{◌≡◌, ℕ, ◌+◌, ◌*◌, ◌/◌, ◌%◌, ◌<◌, ◌≤◌, mul_assoc, mul_comm, sym, ap, ◌∙◌, arith}
use Rattle.std.proofs.Math.Nat.{add-mul, div-add-mod, div-eq_of_lt-le, mod-eq_of_lt, mod-lt, mul-add-mod_self_left}
use Rattle.rsim_base.specs.Bytes.{count_of}
use Rattle.rsim_base.specs.declared.memory.Size.{Size}
use Rattle.rsim_base.specs.declared.memory.Size.TheVariants.{B1, B2, B4, B8}
use Rattle.cache_levels.specs.Sizes.{IsLineSize}

-- a number of which the quotient and the remainder are known
pub quotient : (lb q r : ℕ) → r < lb → (lb * q + r) / lb ≡ q
quotient lb q r below =
    let low : q * lb ≤ lb * q + r = omega (arith, mul_comm q lb) in
    let high : lb * q + r < (q + 1) * lb = omega (arith, add-mul q 1 lb, mul_comm q lb, below) in
    div-eq_of_lt-le lb low high

pub remainder : (lb q r : ℕ) → r < lb → (lb * q + r) % lb ≡ r
remainder lb q r below = mul-add-mod_self_left lb q r ∙ mod-eq_of_lt below

-- the bytes of an access at a place that is a multiple of its size do not reach past a line of so many doublewords
room_by : (n : Size) (r m : ℕ) → r % count_of n ≡ 0 → r < 8 * m → r + count_of n ≤ 8 * m
room_by B1 r m aligned below = omega (arith, below)
room_by B2 r m aligned below = omega (arith, below, aligned)
room_by B4 r m aligned below = omega (arith, below, aligned)
room_by B8 r m aligned below = omega (arith, below, aligned)

aligned_by : (n : Size) (t r : ℕ) → (8 * t + r) % count_of n ≡ 0 → r % count_of n ≡ 0
aligned_by B1 t r aligned = omega arith
aligned_by B2 t r aligned = omega (arith, aligned)
aligned_by B4 t r aligned = omega (arith, aligned)
aligned_by B8 t r aligned = omega (arith, aligned)

module _ (lb a : ℕ) (n : Size) (size : IsLineSize lb) (aligned : a % count_of n ≡ 0) where
  pub in_room : a % lb + count_of n ≤ lb
  in_room =
      let m = lb / 8 in
      let words : lb ≡ 8 * m = omega (arith, size.words) in
      let parts : lb * (a / lb) + a % lb ≡ a = div-add-mod a lb in
      let times : lb * (a / lb) ≡ 8 * (m * (a / lb)) = ap (λ (k : ℕ). k * (a / lb)) words ∙ mul_assoc 8 m (a / lb) in
      let whole : 8 * (m * (a / lb)) + a % lb ≡ a = ap (λ (k : ℕ). k + a % lb) (sym times) ∙ parts in
      let low : a % lb < lb = mod-lt a (omega (arith, size.low)) in
      let r : a % lb % count_of n ≡ 0 = aligned_by n (m * (a / lb)) (a % lb) (ap (λ (k : ℕ). k % count_of n) whole ∙ aligned) in
      let below : a % lb < 8 * m = omega (arith, low, words) in
      let room = room_by n (a % lb) m r below in
      omega (arith, room, words)

  module _ (k : ℕ) (below : k < count_of n) where
    split : lb * (a / lb) + (a % lb + k) ≡ a + k
    split = omega (arith, div-add-mod a lb)

    inside : a % lb + k < lb
    inside = omega (arith, in_room, below)

    pub same_line : (a + k) / lb ≡ a / lb
    same_line = ap (λ (b : ℕ). b / lb) (sym split) ∙ quotient lb (a / lb) (a % lb + k) inside

    pub next_place : (a + k) % lb ≡ a % lb + k
    next_place = ap (λ (b : ℕ). b % lb) (sym split) ∙ remainder lb (a / lb) (a % lb + k) inside
