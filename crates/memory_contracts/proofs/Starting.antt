-- What the memory of an image begins with.
use Rattle.std.proofs.Common.{◌≡◌, ℕ, ◌-◌, ◌*◌, ◌/◌, ◌%◌, ◌^◌, ◌<◌, Bool, true, false, Option, Some, None, is_some, unwrap_or, refl, sym, ap, ◌∙◌}
use Rattle.std.proofs.Math.Nat.{zero-div}
use Rattle.std.proofs.lemmas.Bool.{and_parts, false_from_ne_true}
use Rattle.rsim_base.specs.Bytes.{byte_of}
use Rattle.rsim_base.specs.declared.memory.Node.{Node}
use Rattle.elf64_load.specs.Image.{ImageView, byte_at, is_mapped}
use Rattle.image_memory.specs.Images.{byte_at-unmapped}
use Rattle.memory_contracts.specs.Flat.{is_at}
use Rattle.memory_contracts.specs.Parts.{AreFresh, byte_in, has_doubleword, has_line, has_place}
use Rattle.memory_contracts.specs.declared.memory.Memory.{Memory}
use Rattle.memory_contracts.specs.declared.owners.Owners.{Owners}

unwrap_none : (o : Option ℕ) → is_some o ≡ false → unwrap_or o 0 ≡ 0
unwrap_none None none = refl
unwrap_none (Some x) none = cc

-- a doubleword that is not kept is one of zeros
byte_in-unkept : (memory : Memory) (a : ℕ) → has_doubleword memory (a / 8) ≡ false → byte_in memory a ≡ 0
byte_in-unkept memory a none =
    ap (λ w. byte_of w 8 (a % 8)) (unwrap_none _ none) ∙ ap (λ n. n % 256) (zero-div (2 ^ (8 * (8 - 1 - a % 8))))

pub bytes-start : (image : ImageView) (memory : Memory) (owners : Owners) (per_line : ℕ) → AreFresh image memory owners → ((a : ℕ) → is_mapped image a ≡ true → has_place memory owners per_line (a / 8) ≡ true) →
    (a : ℕ) → a < 2 ^ 64 → byte_in memory a ≡ byte_at image a
bytes-start image memory owners per_line fresh there a fits = by_test (has_doubleword memory (a / 8)) refl
  where
    by_test : (b : Bool) → has_doubleword memory (a / 8) ≡ b → byte_in memory a ≡ byte_at image a
    by_test true e = fresh.bytes a fits e
    by_test false e =
        let none : is_mapped image a ≡ false = false_from_ne_true _ (λ mapped.
        let parts = and_parts (has_doubleword memory (a / 8)) (has_line owners (a / 8 / per_line)) (there a mapped) in
        absurd cc) in
        byte_in-unkept memory a e ∙ sym (byte_at-unmapped image a none)

pub is_at-none : (o : Option Node) (p : ℕ) → o ≡ None → is_at o p ≡ false
is_at-none None p e = refl
is_at-none (Some q) p e = cc
