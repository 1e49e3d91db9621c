-- A change of recency: what is true of a cache stays true, and it has as many slots.
use Rattle.std.proofs.Common.{◌≡◌, ℕ, ◌*◌, ◌/◌, ◌<◌, not, cond, List, [], length, get_or, slice_set, refl, ⊎_elim, arith, sym, ap, ◌∙◌, subst}
use Rattle.std.specs.List.Sorted.{IsPermutation}
use Rattle.std.proofs.lemmas.Bool.{cases_eq}
use Rattle.std.proofs.lemmas.List.{get_or-set_other, get_or-set_same, length-set}
use Rattle.std.proofs.lemmas.List.Sorted.{IsPermutation-filter_both, length_permutation, sum_by-IsPermutation}
use Rattle.cache_sets.specs.Caches.{CacheView, set_at, slot_count, touched}
use Rattle.cache_sets.specs.Sound.{IsSound, IsSoundSet, concerns, is_torn}
use Rattle.cache_sets.specs.Ways.{Way, has_slot, touched_in}

-- the ways of a set in another order
IsSoundSet-permuted : {sets ways n : ℕ} (xs ys : List Way) → IsPermutation xs ys → IsSoundSet sets ways n xs → IsSoundSet sets ways n ys
IsSoundSet-permuted xs ys moved sound = record {
  count = length_permutation xs ys moved ∙ sound.count;
  slots = λ slot. sum_by-IsPermutation (λ w. cond (has_slot slot w) 1 0) xs ys moved ∙ sound.slots slot;
  own = λ line. omega (arith, sum_by-IsPermutation (λ w. cond (concerns line w) 1 0) xs ys moved, sound.own line);
  whole = sum_by-IsPermutation (λ w. cond (is_torn w) 1 0) xs ys moved ∙ sound.whole;
}

pub slot_count-touched : (slot : ℕ) (cache : CacheView) → slot_count (touched slot cache) ≡ slot_count cache
slot_count-touched slot cache = let n = slot / cache.ways in ap (λ k. k * cache.ways) (length-set cache.sets n (touched_in slot (set_at n cache)))

pub IsSound-touched : (slot : ℕ) (cache : CacheView) → IsSound cache → IsSound (touched slot cache)
IsSound-touched slot cache sound = record {
  some = omega (arith, same, sound.some);
  each = λ k within. let inside : k < length cache.sets = omega (arith, same, within) in rw same (⊎_elim (here k inside) (other k inside) (cases_eq k n));
}
  where
    n : ℕ
    n = slot / cache.ways

    new : List Way
    new = touched_in slot (set_at n cache)

    same : length (slice_set cache.sets n new) ≡ length cache.sets
    same = length-set cache.sets n new

    Sound : ℕ → List Way → Type 0
    Sound k members = IsSoundSet (length cache.sets) cache.ways k members

    other : (k : ℕ) → k < length cache.sets → (k ≡ n → ⊥) → Sound k (get_or (slice_set cache.sets n new) k [])
    other k inside ne = rw (get_or-set_other cache.sets n k new [] ne) (sound.each k inside)

    here : (k : ℕ) → k < length cache.sets → k ≡ n → Sound k (get_or (slice_set cache.sets n new) k [])
    here k inside e =
        let within : n < length cache.sets = omega (arith, e, inside) in
        let moved = IsPermutation-filter_both (has_slot slot) (λ w. not (has_slot slot w)) (λ _. refl) (set_at n cache) in
        subst (λ j. Sound j (get_or (slice_set cache.sets n new) j [])) (sym e)
        (rw (get_or-set_same cache.sets n new [] within) (IsSoundSet-permuted (set_at n cache) new moved (sound.each n within)))
