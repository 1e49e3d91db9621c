-- A write into a line is a write into memory.
use Rattle.std.proofs.Common.{◌≡◌, ℕ, ◌+◌, ◌-◌, ◌*◌, ◌/◌, ◌%◌, ◌<◌, ◌≤◌, ◌==◌, Bool, true, false, ◌&&◌, nat_le, nat_lt, List, length, cond, if◌then◌else◌, slice_index, refl, sym, ap, ◌∙◌, arith}
use Rattle.std.proofs.Math.Nat.{div-add-mod}
use Rattle.std.proofs.lemmas.Bool.{eqb-true, leb-true, leb-false, ltb-true, ltb-false}
use Rattle.std.proofs.lemmas.Bool.Decides.{nat_tests}
use Rattle.rsim_base.specs.Bytes.{byte_of, count_of}
use Rattle.rsim_base.specs.declared.memory.Size.{Size}
use Rattle.memory_contracts.specs.Store.{stored}
use Rattle.cache_levels.specs.Bytes.{written_at}
use Rattle.cache_levels.specs.Laws.{WriteReadsBack}
use Rattle.cache_levels.specs.Sizes.{IsLineSize}
use Rattle.coherent_memory.proofs.Addresses.{in_room, same_line}

-- is address b among the count from a on
among : ℕ → ℕ → ℕ → Bool
among a count b = nat_le a b && nat_lt b (a + count)

-- the bytes of a line after a write, by address
module _ (reads : WriteReadsBack) (lb a : ℕ) (n : Size) (value : ℕ) (size : IsLineSize lb) (aligned : a % count_of n ≡ 0) (old : List ℕ) (long : lb ≤ length old) where
  room : a % lb + count_of n ≤ length old
  room = omega (arith, in_room lb a n size aligned, long)

  -- in the line of the write
  here : (b : ℕ) → b / lb ≡ a / lb → (from until : Bool) → nat_le a b ≡ from → nat_lt b (a + count_of n) ≡ until →
      slice_index (written_at (a % lb) n value old) (b % lb) ≡ (if from && until then byte_of value (count_of n) (b - a) else slice_index old (b % lb))
  here b same true true f u =
      let parts_a = div-add-mod a lb in
      let parts_b : lb * (a / lb) + b % lb ≡ b = ap (λ (q : ℕ). lb * q + b % lb) (sym same) ∙ div-add-mod b lb in
      let low = leb-true a b f in
      let high = ltb-true b (a + count_of n) u in
      let place : b % lb ≡ a % lb + (b - a) = omega (arith, parts_a, parts_b, low) in
      let few : b - a < count_of n = omega (arith, low, high) in
      ap (slice_index (written_at (a % lb) n value old)) place ∙ (reads (a % lb) n value old room).0 (b - a) few
  here b same false until f u =
      let parts_a = div-add-mod a lb in
      let parts_b : lb * (a / lb) + b % lb ≡ b = ap (λ (q : ℕ). lb * q + b % lb) (sym same) ∙ div-add-mod b lb in
      let low = leb-false a b f in
      let before : b % lb < a % lb = omega (arith, parts_a, parts_b, low) in
      (reads (a % lb) n value old room).1 (b % lb) before
  here b same true false f u =
      let parts_a = div-add-mod a lb in
      let parts_b : lb * (a / lb) + b % lb ≡ b = ap (λ (q : ℕ). lb * q + b % lb) (sym same) ∙ div-add-mod b lb in
      let high = ltb-false b (a + count_of n) u in
      let behind : a % lb + count_of n ≤ b % lb = omega (arith, parts_a, parts_b, high) in
      (reads (a % lb) n value old room).2 (b % lb) behind

  -- in another line nothing is written
  away : (b : ℕ) → (b / lb ≡ a / lb → ⊥) → (among a (count_of n) b) ≡ false
  unfolding among
  away b other = by (nat_le a b) (nat_lt b (a + count_of n)) refl refl
    where
      by : (from until : Bool) → nat_le a b ≡ from → nat_lt b (a + count_of n) ≡ until → (from && until) ≡ false
      by true true f u = absurd (other (same (leb-true a b f) (ltb-true b (a + count_of n) u)))
        where
          same : a ≤ b → b < a + count_of n → b / lb ≡ a / lb
          same low high =
              let k = b - a in
              let few : k < count_of n = omega (arith, low, high) in
              let is : a + k ≡ b = omega (arith, low) in
              ap (λ (c : ℕ). c / lb) (sym is) ∙ same_line lb a n size aligned k few
      by true false f u = refl
      by false until f u = refl

  -- memory in which the line has the new bytes
  pub stored-line : (bytes new : ℕ → ℕ) (b : ℕ) → ((c : ℕ) → c / lb ≡ a / lb → bytes c ≡ slice_index old (c % lb)) → ((c : ℕ) → c / lb ≡ a / lb → new c ≡ slice_index (written_at (a % lb) n value old) (c % lb)) → ((c : ℕ) → (c / lb ≡ a / lb → ⊥) → new c ≡ bytes c) → new b ≡ stored bytes a (count_of n) value b
  unfolding among
  stored-line bytes new b was is others = by (b / lb == a / lb) refl
    where
      by : (t : Bool) → (b / lb == a / lb) ≡ t → new b ≡ stored bytes a (count_of n) value b
      by true e =
          let same = eqb-true (b / lb) (a / lb) e in
          is b same ∙ here b same (nat_le a b) (nat_lt b (a + count_of n)) refl refl ∙ ap (λ (x : ℕ). cond (among a (count_of n) b) (byte_of value (count_of n) (b - a)) x) (sym (was b same))
      by false e =
          let other : b / lb ≡ a / lb → ⊥ = λ same. grind (arith, nat_tests, same, e) in
          others b other ∙ sym (ap (λ (t : Bool). cond t (byte_of value (count_of n) (b - a)) (bytes b)) (away b other))
