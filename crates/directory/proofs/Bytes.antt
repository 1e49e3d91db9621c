-- The bytes of a line, as they are put down one after the other.
use Rattle.std.proofs.Common.{◌≡◌, ◌≢◌, ◌⊎◌, inl, inr, ℕ, zero, suc, ◌+◌, ◌*◌, ◌^◌, ◌<◌, ◌≤◌, List, length, get_or, set, replicate, slice_index, refl, sym, ap, subst, ◌∙◌, ⊎_elim, arith}
use Rattle.std.proofs.lemmas.Bool.{cases_order}
use Rattle.std.proofs.lemmas.Grind.{get_or-set_at}
use Rattle.std.proofs.lemmas.List.{get_or-set_other, length-replicate, length-set}
use Rattle.rsim_base.specs.Limits.{line_room}
use Rattle.elf64_load.specs.Image.{ImageView, byte_at}
use Rattle.directory.specs.Start.{AreFirst}

-- the first of them stand, and those behind are 0
pub record AreFirstUpTo (image : ImageView) (line_bytes line count : ℕ) (bytes : List ℕ) : Type 0 where
  pub size : length bytes ≡ line_room
  pub small : (k : ℕ) → slice_index bytes k < 256
  pub image_bytes : (k : ℕ) → k < count → line * line_bytes + k < 2 ^ 64 → slice_index bytes k ≡ byte_at image (line * line_bytes + k)
  pub behind : (k : ℕ) → count ≤ k → slice_index bytes k ≡ 0

zeros : (n k : ℕ) → ◌≡◌ {A = ℕ} (get_or (replicate n 0) k 0) 0
zeros zero k = refl
zeros (suc n) zero = refl
zeros (suc n) (suc k) = zeros n k

pub first-none : (image : ImageView) (line_bytes line : ℕ) → AreFirstUpTo image line_bytes line 0 (replicate line_room 0)
first-none image line_bytes line = record {
  size = length-replicate {A = ℕ} line_room 0;
  small = λ k. subst (λ (b : ℕ). b < 256) (sym (zeros line_room k)) (omega arith);
  image_bytes = λ k below. absurd (omega (arith, below));
  behind = λ k above. zeros line_room k;
}

pub first-more : (image : ImageView) (line_bytes line count b : ℕ) (bytes : List ℕ) → count < line_room → b < 256 → AreFirstUpTo image line_bytes line count bytes → (line * line_bytes + count < 2 ^ 64 → b ≡ byte_at image (line * line_bytes + count)) →
    AreFirstUpTo image line_bytes line (count + 1) (set bytes count b)
first-more image line_bytes line count b bytes few small first here =
    let size = first.size in
    record {
      size = length-set bytes count b ∙ size;
      small = λ k.
          ⊎_elim
          (λ (same : k ≡ count). subst (λ (x : ℕ). x < 256) (sym (get_or-set_at bytes count k b 0 same (omega (arith, few, size)))) small)
          (λ other. subst (λ (x : ℕ). x < 256) (sym (get_or-set_other bytes count k b 0 (apart k count other))) (first.small k))
          (cases_order k count);
      image_bytes = λ k below fits.
          ⊎_elim
          (λ (same : k ≡ count). get_or-set_at bytes count k b 0 same (omega (arith, few, size)) ∙ here (omega (arith, fits, same)) ∙ ap (λ j. byte_at image (line * line_bytes + j)) (sym same))
          (λ other. get_or-set_other bytes count k b 0 (apart k count other) ∙ first.image_bytes k (under k count other below) fits)
          (cases_order k count);
      behind = λ k above. get_or-set_other bytes count k b 0 (λ same. omega (arith, same, above)) ∙ first.behind k (omega (arith, above));
    }
  where
    apart : (k count : ℕ) → (k < count) ⊎ (count < k) → k ≢ count
    apart k count (inl below) same = omega (arith, below, same)
    apart k count (inr above) same = omega (arith, above, same)

    under : (k count : ℕ) → (k < count) ⊎ (count < k) → k < count + 1 → k < count
    under k count (inl below) most = below
    under k count (inr above) most = absurd (omega (arith, above, most))

pub first-all : (image : ImageView) (line_bytes line count : ℕ) (bytes : List ℕ) → count ≡ line_bytes → AreFirstUpTo image line_bytes line count bytes → AreFirst image line_bytes line bytes
first-all image line_bytes line count bytes whole first = record {
  size = first.size;
  small = first.small;
  image_bytes = λ k below fits. first.image_bytes k (omega (arith, below, whole)) fits;
  behind = λ k above. first.behind k (omega (arith, above, whole));
}
