-- What an access may touch is mapped.
use Rattle.std.proofs.Common.{◌≡◌, ◌<◌, ◌+◌, ◌-◌, ◌/◌, ◌&&◌, ◌||◌, nat_le, nat_lt, ℕ, Bool, true, List, [], ◌∷◌, length, refl, ap, ⊎_elim, ◌∙◌, arith}
use Rattle.std.specs.List.{list_any}
use Rattle.std.proofs.lemmas.Bool.{and_from, and_parts, le-leb, leb-true, lt-ltb, ltb-true, or_cases, or_left, or_right}
use Rattle.rsim_base.specs.Bytes.{count_of}
use Rattle.rsim_base.specs.ByteSets.{count_of-bounds}
use Rattle.elf64_load.specs.Image.{ImageView, RegionView, holds, in_one_stack, is_mapped, is_readable, is_writable, stack_start}
use Rattle.memory_contracts.specs.Store.{AreMapped, IsLineMapped, StoreView, line_at}
use Rattle.rsim_base.specs.declared.memory.Size.{Size}
use Rattle.sparc_meaning.specs.declared.acts.Act.{Act}
use Rattle.sparc_meaning.specs.declared.acts.Act.TheVariants.{Nothing, Load, Store, Atomic, Fence, Out, End as Ended}
use Rattle.cycle_loop.specs.Lines.{IsActMapped}
use Rattle.cycle_loop.proofs.Allowed.{IsAllowed}

holds_each : (a n k : ℕ) (r : RegionView) → k < n → holds a n r ≡ true → holds (a + k) 1 r ≡ true
holds_each a n k r below is =
    let parts = and_parts (nat_le r.first a) (nat_le (a + n) (r.first + length r.bytes)) is in
    let from = leb-true r.first a parts.0 in
    let until = leb-true (a + n) (r.first + length r.bytes) parts.1 in
    and_from (nat_le r.first (a + k)) (nat_le (a + k + 1) (r.first + length r.bytes)) (le-leb r.first (a + k) (omega arith)) (le-leb (a + k + 1) (r.first + length r.bytes) (omega arith))

-- ...where the test is of one more thing
region_each : (test : RegionView → Bool) (a n k : ℕ) (regions : List RegionView) → k < n → list_any (λ r. test r && holds a n r) regions ≡ true → list_any (holds (a + k) 1) regions ≡ true
region_each test a n k [] below is = absurd cc
region_each test a n k (r ∷ regions) below is = ⊎_elim
    (λ here. or_left (holds (a + k) 1 r) (list_any (holds (a + k) 1) regions) (holds_each a n k r below (and_parts (test r) (holds a n r) here).1))
    (λ behind. or_right (holds (a + k) 1 r) (list_any (holds (a + k) 1) regions) (region_each test a n k regions below behind))
    (or_cases (test r && holds a n r) (list_any (λ r. test r && holds a n r) regions) is)

stack_each : (a n k : ℕ) → k < n → in_one_stack a n ≡ true → in_one_stack (a + k) 1 ≡ true
stack_each a n k below is =
    let outer = and_parts (nat_le (stack_start 0) a && nat_lt a (stack_start 64)) (nat_le (a + n) (stack_start ((a - stack_start 0) / 0x10000 + 1))) is in
    let inner = and_parts (nat_le (stack_start 0) a) (nat_lt a (stack_start 64)) outer.0 in
    let from = leb-true (stack_start 0) a inner.0 in
    let below_all = ltb-true a (stack_start 64) inner.1 in
    let until = leb-true (a + n) (stack_start ((a - stack_start 0) / 0x10000 + 1)) outer.1 in
    and_from (nat_le (stack_start 0) (a + k) && nat_lt (a + k) (stack_start 64)) (nat_le (a + k + 1) (stack_start ((a + k - stack_start 0) / 0x10000 + 1)))
    (and_from (nat_le (stack_start 0) (a + k)) (nat_lt (a + k) (stack_start 64)) (le-leb (stack_start 0) (a + k) (omega arith)) (lt-ltb (a + k) (stack_start 64) (omega arith)))
    (le-leb (a + k + 1) (stack_start ((a + k - stack_start 0) / 0x10000 + 1)) (omega arith))

mapped_each : (test : RegionView → Bool) (image : ImageView) (a n k : ℕ) → k < n → (list_any (λ r. test r && holds a n r) image.regions || in_one_stack a n) ≡ true → is_mapped image (a + k) ≡ true
mapped_each test image a n k below is = ⊎_elim
    (λ region. or_left (list_any (holds (a + k) 1) image.regions) (in_one_stack (a + k) 1) (region_each test a n k image.regions below region))
    (λ stack. or_right (list_any (holds (a + k) 1) image.regions) (in_one_stack (a + k) 1) (stack_each a n k below stack))
    (or_cases (list_any (λ r. test r && holds a n r) image.regions) (in_one_stack a n) is)

pub readable-mapped : (image : ImageView) (v : StoreView) (a n : ℕ) → v.mapped ≡ is_mapped image → is_readable image a n ≡ true → AreMapped v a n
readable-mapped image v a n same is k below = ap (λ (m : ℕ → Bool). m (a + k)) same ∙ mapped_each (λ (r : RegionView). r.may_read) image a n k below is

pub writable-mapped : (image : ImageView) (v : StoreView) (a n : ℕ) → v.mapped ≡ is_mapped image → is_writable image a n ≡ true → AreMapped v a n
writable-mapped image v a n same is k below = ap (λ (m : ℕ → Bool). m (a + k)) same ∙ mapped_each (λ (r : RegionView). r.may_write) image a n k below is

pub allowed-mapped : (image : ImageView) (v : StoreView) (act : Act) → v.mapped ≡ is_mapped image → IsAllowed image act → IsActMapped v act
allowed-mapped image v (Load addr n loaded) same is = readable-mapped image v addr.0 (count_of n) same is
allowed-mapped image v (Store addr n value) same is = writable-mapped image v addr.0 (count_of n) same is
allowed-mapped image v (Atomic addr n loaded value) same is = readable-mapped image v addr.0 (count_of n) same (and_parts (is_readable image addr.0 (count_of n)) (is_writable image addr.0 (count_of n)) is).0
allowed-mapped image v Nothing same is = tt
allowed-mapped image v (Fence mask) same is = tt
allowed-mapped image v (Out spoken) same is = tt
allowed-mapped image v Ended same is = tt

-- the line of an access has a byte that is mapped
pub line_mapped : (v : StoreView) (a : ℕ) (n : Size) → AreMapped v a (count_of n) → IsLineMapped v (line_at v a)
line_mapped v a n are = (a, at_first (are 0 (count_of-bounds n).0), refl)
  where
    at_first : v.mapped (a + 0) ≡ true → v.mapped a ≡ true
    at_first is = let same : a ≡ a + 0 = omega arith in ap v.mapped same ∙ is
