-- Memory after the store of a value, byte by byte.
use Rattle.std.proofs.Common.{◌≡◌, ◌≤◌, ◌<◌, ◌+◌, ◌-◌, ◌%◌, ◌^◌, ◌&&◌, ℕ, Bool, true, false, nat_eq, nat_le, nat_lt, if◌then◌else◌, Some, refl, sym, ap, ◌∙◌, arith}
use Rattle.std.proofs.lemmas.Bool.{eqb-true, eqb-false, leb-true, leb-false, ltb-true, ltb-false}
use Rattle.rsim_base.specs.Bytes.{count_of, byte_of, gap_of}
use Rattle.rsim_base.specs.declared.memory.Size.{Size}
use Rattle.rsim_base.specs.declared.memory.Size.TheVariants.{B1, B2, B4, B8}
use Rattle.elf64_load.specs.Image.{ImageView}
use Rattle.image_memory.specs.declared.memory.Memory.{Memory}
use Rattle.image_memory.specs.Memory.{doubleword_at, of_doubleword, byte_in, IsWritten}

-- an aligned access lies in one doubleword
pub in_one_doubleword : (n : Size) (addr : ℕ) → addr % count_of n ≡ 0 → addr % 8 + count_of n ≤ 8
in_one_doubleword B1 addr aligned = omega arith
in_one_doubleword B2 addr aligned = omega arith
in_one_doubleword B4 addr aligned = omega arith
in_one_doubleword B8 addr aligned = omega arith

-- the doubleword at start has the n bytes of the value from addr on, and its other bytes as before
pub record IsReplaced (image : ImageView) (addr : ℕ) (n : Size) (value start new : ℕ) (old : Memory) : Type 0 where
  pub starts : start ≡ addr - addr % 8
  pub bytes : (j : ℕ) → j < 8 →
      byte_of new 8 j ≡ (if nat_le (addr % 8) j && nat_lt j (addr % 8 + count_of n) then byte_of value (count_of n) (j - addr % 8) else byte_in image old (start + j))

-- a byte of that doubleword
byte_there : (image : ImageView) (addr : ℕ) (n : Size) (value start new : ℕ) (old : Memory) (a : ℕ) → addr % count_of n ≡ 0 → addr < 2 ^ 64 → a < 2 ^ 64 → start ≡ a - a % 8 →
    IsReplaced image addr n value start new old → byte_of new 8 (a % 8) ≡ (if nat_lt (gap_of addr a) (count_of n) then byte_of value (count_of n) (gap_of addr a) else byte_in image old a)
byte_there image addr n value start new old a aligned fits a_fits here is =
    is.bytes (a % 8) (omega arith) ∙ by_tests (nat_le (addr % 8) (a % 8)) (nat_lt (a % 8) (addr % 8 + count_of n)) (nat_lt (gap_of addr a) (count_of n)) refl refl refl
  where
    room : addr % 8 + count_of n ≤ 8
    room = in_one_doubleword n addr aligned

    -- both are in the doubleword at start
    starts : addr - addr % 8 ≡ a - a % 8
    starts = sym is.starts ∙ here

    by_tests : (from until near : Bool) → nat_le (addr % 8) (a % 8) ≡ from → nat_lt (a % 8) (addr % 8 + count_of n) ≡ until → nat_lt (gap_of addr a) (count_of n) ≡ near →
        (if from && until then byte_of value (count_of n) (a % 8 - addr % 8) else byte_in image old (start + a % 8))
        ≡ (if near then byte_of value (count_of n) (gap_of addr a) else byte_in image old a)
    by_tests true true true e f g =
        let gap : a % 8 - addr % 8 ≡ gap_of addr a = omega (arith, leb-true (addr % 8) (a % 8) e, starts, fits, a_fits) in
        ap (byte_of value (count_of n)) gap
    by_tests true true false e f g =
        absurd (omega (arith, leb-true (addr % 8) (a % 8) e, ltb-true (a % 8) (addr % 8 + count_of n) f, ltb-false (gap_of addr a) (count_of n) g, starts, fits, a_fits))
    by_tests true false true e f g =
        absurd (omega (arith, leb-true (addr % 8) (a % 8) e, ltb-false (a % 8) (addr % 8 + count_of n) f, ltb-true (gap_of addr a) (count_of n) g, starts, fits, a_fits))
    by_tests false until true e f g =
        absurd (omega (arith, leb-false (addr % 8) (a % 8) e, ltb-true (gap_of addr a) (count_of n) g, starts, fits, a_fits, room))
    by_tests true false false e f g = let whole : start + a % 8 ≡ a = omega (arith, here) in ap (byte_in image old) whole
    by_tests false until false e f g = let whole : start + a % 8 ≡ a = omega (arith, here) in ap (byte_in image old) whole

-- a byte of another doubleword is none of the access
far : (n : Size) (addr a start : ℕ) → addr % count_of n ≡ 0 → addr < 2 ^ 64 → a < 2 ^ 64 → start ≡ addr - addr % 8 → (start ≡ a - a % 8 → ⊥) → nat_lt (gap_of addr a) (count_of n) ≡ false
far n addr a start aligned fits a_fits starts other = by_test (nat_lt (gap_of addr a) (count_of n)) refl
  where
    room : addr % 8 + count_of n ≤ 8
    room = in_one_doubleword n addr aligned

    by_test : (near : Bool) → nat_lt (gap_of addr a) (count_of n) ≡ near → near ≡ false
    by_test false e = refl
    by_test true e = absurd (other (omega (arith, ltb-true (gap_of addr a) (count_of n) e, starts, room, fits, a_fits)))

pub IsWritten-replaced : (image : ImageView) (addr : ℕ) (n : Size) (value start doubleword : ℕ) (old new : Memory) → addr % count_of n ≡ 0 → addr < 2 ^ 64 →
    IsReplaced image addr n value start doubleword old →
    ((a : ℕ) → doubleword_at new a ≡ (if nat_eq start a then Some doubleword else doubleword_at old a)) → IsWritten image addr n value old new
IsWritten-replaced image addr n value start doubleword old new aligned fits is set a a_fits =
    ap (λ found. of_doubleword image found a) (set (a - a % 8)) ∙ by_test (nat_eq start (a - a % 8)) refl
  where
    by_test : (here : Bool) → nat_eq start (a - a % 8) ≡ here →
        of_doubleword image (if here then Some doubleword else doubleword_at old (a - a % 8)) a
        ≡ (if nat_lt (gap_of addr a) (count_of n) then byte_of value (count_of n) (gap_of addr a) else byte_in image old a)
    by_test true e = byte_there image addr n value start doubleword old a aligned fits a_fits (eqb-true start (a - a % 8) e) is
    by_test false e = sym (ap (λ near. if near then byte_of value (count_of n) (gap_of addr a) else byte_in image old a) (far n addr a start aligned fits a_fits is.starts (eqb-false start (a - a % 8) e)))
