-- Places that are added to a memory.
use Rattle.std.proofs.Common.{◌≡◌, ℕ, ◌+◌, ◌*◌, ◌/◌, ◌%◌, ◌^◌, ◌<◌, ◌==◌, Bool, true, false, cond, Option, None, refl, sym, ap, ◌∙◌, arith}
use Rattle.std.proofs.lemmas.Bool.{and_from, and_parts, eqb-true, eq-eqb}
use Rattle.rsim_base.specs.declared.memory.Node.{Node}
use Rattle.elf64_load.specs.Image.{ImageView, byte_at}
use Rattle.memory_contracts.specs.First.{AreFirst}
use Rattle.memory_contracts.specs.Parts.{AreFresh, AreMore, byte_of_all, doubleword_in, has_doubleword, has_line, has_place, owner_in}
use Rattle.memory_contracts.specs.Updates.{with_at}
use Rattle.memory_contracts.specs.declared.memory.Memory.{Memory}
use Rattle.memory_contracts.specs.declared.owners.Owners.{Owners}

-- the doubleword of the image is there with the others
with-first : (image : ImageView) (old : ℕ → ℕ) (has : ℕ → Bool) (number v : ℕ) → AreFirst image number v →
    ((a : ℕ) → a < 2 ^ 64 → has (a / 8) ≡ true → byte_of_all old a ≡ byte_at image a) → (a : ℕ) → a < 2 ^ 64 → with_at has number true (a / 8) ≡ true → byte_of_all (with_at old number v) a ≡ byte_at image a
with-first image old has number v first before a fits there = by_number (a / 8 == number) refl there
  where
    by_number : (b : Bool) → (a / 8 == number) ≡ b → cond b true (has (a / 8)) ≡ true → byte_of_all (λ k. cond (k == number) v (old k)) a ≡ byte_at image a
    by_number true e there =
        let number_is : a / 8 ≡ number = eqb-true (a / 8) number e in
        let whole : number * 8 + a % 8 ≡ a = omega (arith, number_is) in
        rw e (first (a % 8) (omega arith) (omega (arith, whole, fits)) ∙ ap (byte_at image) whole)
    by_number false e there = rw e (before a fits there)

with-none : (owner : ℕ → Option Node) (line : ℕ) → ((l : ℕ) → owner l ≡ None) → (l : ℕ) → with_at owner line None l ≡ None
with-none owner line free l = by_line (l == line)
  where
    by_line : (b : Bool) → cond b None (owner l) ≡ None
    by_line true = refl
    by_line false = free l

with_true-grows : (has : ℕ → Bool) (x k : ℕ) → has k ≡ true → with_at has x true k ≡ true
with_true-grows has x k there = by_place (k == x)
  where
    by_place : (b : Bool) → cond b true (has k) ≡ true
    by_place true = refl
    by_place false = there

with_true-there : (has : ℕ → Bool) (x : ℕ) → with_at has x true x ≡ true
with_true-there has x = ap (λ b. cond b true (has x)) (eq-eqb x x refl)

-- what one more doubleword and its line make of a memory
pub record IsAdded (image : ImageView) (per_line number : ℕ) (old : Memory) (old_owners : Owners) (new : Memory) (new_owners : Owners) : Type 0 where
  pub value : ℕ
  pub first : AreFirst image number value
  pub doublewords : doubleword_in new ≡ with_at (doubleword_in old) number value
  pub kept : has_doubleword new ≡ with_at (has_doubleword old) number true
  pub owner : owner_in new_owners ≡ with_at (owner_in old_owners) (number / per_line) None
  pub lines : has_line new_owners ≡ with_at (has_line old_owners) (number / per_line) true

pub AreMore-added : (image : ImageView) (per_line number : ℕ) (old : Memory) (old_owners : Owners) (new : Memory) (new_owners : Owners) → IsAdded image per_line number old old_owners new new_owners → AreFresh image old old_owners → AreMore image per_line old old_owners new new_owners
AreMore-added image per_line number old old_owners new new_owners is fresh = record {
  fresh = record {
    bytes = λ a fits there.
        ap (λ (d : ℕ → ℕ). byte_of_all d a) is.doublewords
        ∙ with-first image (doubleword_in old) (has_doubleword old) number is.value is.first fresh.bytes a fits (sym (ap (λ (has : ℕ → Bool). has (a / 8)) is.kept) ∙ there);
    free = λ l. ap (λ (owner : ℕ → Option Node). owner l) is.owner ∙ with-none (owner_in old_owners) (number / per_line) fresh.free l;
  };
  grows = λ k there.
      let parts = and_parts (has_doubleword old k) (has_line old_owners (k / per_line)) there in
      and_from (has_doubleword new k) (has_line new_owners (k / per_line))
      (ap (λ (has : ℕ → Bool). has k) is.kept ∙ with_true-grows (has_doubleword old) number k parts.0)
      (ap (λ (has : ℕ → Bool). has (k / per_line)) is.lines ∙ with_true-grows (has_line old_owners) (number / per_line) (k / per_line) parts.1);
}

pub has_place-added : (image : ImageView) (per_line number : ℕ) (old : Memory) (old_owners : Owners) (new : Memory) (new_owners : Owners) → IsAdded image per_line number old old_owners new new_owners → has_place new new_owners per_line number ≡ true
has_place-added image per_line number old old_owners new new_owners is =
    and_from (has_doubleword new number) (has_line new_owners (number / per_line))
    (ap (λ (has : ℕ → Bool). has number) is.kept ∙ with_true-there (has_doubleword old) number)
    (ap (λ (has : ℕ → Bool). has (number / per_line)) is.lines ∙ with_true-there (has_line old_owners) (number / per_line))
