-- What the sets of places tell of the accesses.
use Rattle.std.proofs.Common.{◌≡◌, ℕ, zero, suc, ◌+◌, ◌<◌, ◌≤◌, Bool, true, false, cond, not, ◌&&◌, ◌||◌, List, [], ◌∷◌, length, take, find, reverse, Option, None, Some, is_some, slice_get, refl, sym, ap, ⊎_elim, ◌∙◌, arith}
use Rattle.std.specs.List.{list_any}
use Rattle.std.specs.Option.{option_map_or}
use Rattle.std.proofs.lemmas.Bool.{cases_lt}
use Rattle.list_facts.specs.Places.{slice_get_below}
use Rattle.rsim_base.specs.Accesses.{stores}
use Rattle.rsim_base.specs.Bytes.{count_of, starts_in}
use Rattle.rsim_base.specs.declared.memory.Addr.{Addr}
use Rattle.rsim_base.specs.declared.memory.Model.{Model}
use Rattle.rsim_base.specs.declared.memory.Size.{Size}
use Rattle.ring_set.specs.Sets.{aged}
use Rattle.ring_set.specs.declared.set.Places.{Places}
use Rattle.memory_queue.specs.Queues.{QueueView, are_stores_known, binds_now, is_met_at, is_needed, may_bind, may_bind_at, is_load, may_settle, may_settle_at, meets, settles_now}
use Rattle.memory_queue.specs.Steps.{IsNext, IsPrevious}
use Rattle.memory_queue.specs.Rows.{IsRow, is_open, is_settling, is_unknown, is_unplaced, is_waiting, passes_at}
use Rattle.memory_queue.specs.declared.queued.Queued.{Queued}
use Rattle.memory_queue.proofs.Walking.{back-at}

true-of-not : (b : Bool) → not b ≡ false → b ≡ true
true-of-not true is = refl
true-of-not false is = absurd cc

pub false-of-not : (b : Bool) → not b ≡ true → b ≡ false
false-of-not true is = absurd cc
false-of-not false is = refl

-- ---- a test at each place

implied : (p r : Queued → Bool) → ((x : Queued) → p x ≡ false → r x ≡ false) → (xs : List Queued) (j : ℕ) → passes_at p xs j ≡ false → passes_at r xs j ≡ false
implied p r each xs j = by (slice_get xs j)
  where
    by : (o : Option Queued) → option_map_or p o false ≡ false → option_map_or r o false ≡ false
    by None is = is
    by (Some x) is = each x is

pub there-at : (test : Queued → Bool) (xs : List Queued) (j : ℕ) → passes_at test xs j ≡ true → (y : Queued) × (slice_get xs j ≡ Some y) × (test y ≡ true)
there-at test xs j = by (slice_get xs j)
  where
    by : (o : Option Queued) → option_map_or test o false ≡ true → (y : Queued) × (o ≡ Some y) × (test y ≡ true)
    by None is = absurd cc
    by (Some y) is = (y, refl, is)

pub passes-at : (test : Queued → Bool) (xs : List Queued) (j : ℕ) (x : Queued) (b : Bool) → slice_get xs j ≡ Some x → test x ≡ b → passes_at test xs j ≡ b
passes-at test xs j x b at is = ap (λ o. option_map_or test o false) at ∙ is

pub none-any : (test : Queued → Bool) (xs : List Queued) (k : ℕ) → ((j : ℕ) → j < k → passes_at test xs j ≡ false) → list_any test (take k xs) ≡ false
none-any test xs zero none = refl
none-any test [] (suc k) none = refl
none-any test (x ∷ xs) (suc k) none = ap (λ b. b || list_any test (take k xs)) (none zero (omega arith)) ∙ none-any test xs k (λ j lt. none (suc j) (omega (arith, lt)))

pub none-unknown : (xs : List Queued) (k : ℕ) → ((j : ℕ) → j < k → passes_at is_unknown xs j ≡ false) → are_stores_known (take k xs) ≡ true
none-unknown xs zero none = refl
none-unknown [] (suc k) none = refl
none-unknown (x ∷ xs) (suc k) none =
    ap (λ b. b && are_stores_known (take k xs)) (true-of-not (not (stores x.kind) || is_some x.addr) (none zero (omega arith)))
    ∙ none-unknown xs k (λ j lt. none (suc j) (omega (arith, lt)))

-- the youngest of n stands among the m oldest where none behind these passes
pub find-skipped : (test : Queued → Bool) (xs : List Queued) (m n : ℕ) → m ≤ n → n ≤ length xs → ((j : ℕ) → m ≤ j → j < n → passes_at test xs j ≡ false) →
    find test (reverse (take n xs)) ≡ find test (reverse (take m xs))
find-skipped test xs m zero le within none = let same : zero ≡ m = omega (arith, le) in ap (λ i. find test (reverse (take i xs))) same
find-skipped test xs m (suc n) le within none =
    ⊎_elim
    (λ (less : m < suc n).
    let (x, at) = slice_get_below xs n (omega arith) in
    let other = sym (ap (λ o. option_map_or test o false) at) ∙ none n (omega (arith, less)) (omega arith) in
    ap (find test) (back-at xs n x at)
    ∙ (ap (λ b. cond b (Some x) (find test (reverse (take n xs)))) other
    ∙ find-skipped test xs m n (omega (arith, less)) (omega (arith, within)) (λ j past lt. none j past (omega (arith, lt)))))
    (λ (past : suc n ≤ m). let same : suc n ≡ m = omega (arith, le, past) in ap (λ i. find test (reverse (take i xs))) same)
    (cases_lt m (suc n))

-- ---- what is in no set

not-waiting : (q : QueueView) (j : ℕ) → passes_at is_waiting q.accesses j ≡ false → binds_now q j ≡ false
not-waiting q j = implied is_waiting (may_bind q (take j q.accesses)) (λ y. by y (is_load y.kind && not y.bound) y.addr) q.accesses j
  where
    by : (y : Queued) (r : Bool) (o : Option Addr) → (r && is_some o) ≡ false → (r && may_bind_at q (take j q.accesses) y o) ≡ false
    by y false o is = refl
    by y true None is = refl
    by y true (Some a) is = absurd cc

not-settling : (q : QueueView) (j : ℕ) → passes_at is_settling q.accesses j ≡ false → settles_now q j ≡ false
not-settling q j = implied is_settling (may_settle q.model (take j q.accesses)) (λ y is. ap (λ b. b && may_settle_at q.model (take j q.accesses) y y.addr) is) q.accesses j

not-open : (a : Addr) (n : Size) (xs : List Queued) (j : ℕ) → passes_at is_open xs j ≡ false → is_met_at a n xs j ≡ false
not-open a n xs j = implied is_open (meets a n) (λ x. by x (stores x.kind && not x.placed) x.addr) xs j
  where
    by : (x : Queued) (r : Bool) (o : Option Addr) → (r && is_some o) ≡ false → (r && option_map_or (λ b. starts_in b.0 (count_of x.size) a.0 (count_of n)) o false) ≡ false
    by x false o is = refl
    by x true None is = refl
    by x true (Some b) is = absurd cc

-- ---- what is passed by on the way to the next

pub none-waiting : (q : QueueView) (set : Places) (head from k : ℕ) → IsRow set head is_waiting q.accesses → IsNext (aged set head) from 128 k →
    (j : ℕ) → from ≤ j → j < k → binds_now q j ≡ false
none-waiting q set head from k row next j past below = not-waiting q j (sym (row j (omega (arith, below, next.within))) ∙ next.before j past below)

pub none-settling : (q : QueueView) (set : Places) (head from k : ℕ) → IsRow set head is_settling q.accesses → IsNext (aged set head) from 128 k →
    (j : ℕ) → from ≤ j → j < k → settles_now q j ≡ false
none-settling q set head from k row next j past below = not-settling q j (sym (row j (omega (arith, below, next.within))) ∙ next.before j past below)

pub none-holds_back : (m : Model) (a : Addr) (y : Queued) (xs : List Queued) (set : Places) (head from k : ℕ) → IsRow set head is_unplaced xs → IsNext (aged set head) from 128 k →
    (j : ℕ) → from ≤ j → j < k → passes_at (λ x. not x.placed && is_needed m x a y) xs j ≡ false
none-holds_back m a y xs set head from k row next j past below =
    implied is_unplaced (λ x. not x.placed && is_needed m x a y) (λ x is. ap (λ b. b && is_needed m x a y) is) xs j (sym (row j (omega (arith, below, next.within))) ∙ next.before j past below)

pub none-open : (a : Addr) (n : Size) (xs : List Queued) (set : Places) (head k end : ℕ) → k ≤ 128 → IsRow set head is_open xs → IsPrevious (aged set head) k end →
    (j : ℕ) → end ≤ j → j < k → is_met_at a n xs j ≡ false
none-open a n xs set head k end small row previous j past below = not-open a n xs j (sym (row j (omega (arith, below, small))) ∙ previous.behind j past below)

-- none up to the next, where none is before this one, nor is it, and none behind it
pub none-on : (p : ℕ → Bool) (from k next : ℕ) → ((j : ℕ) → from ≤ j → j < k → p j ≡ false) → p k ≡ false → ((j : ℕ) → k + 1 ≤ j → j < next → p j ≡ false) → (j : ℕ) → from ≤ j → j < next → p j ≡ false
none-on p from k next before here behind j past below =
    ⊎_elim (λ (less : j < k). before j past less)
    (λ (more : k ≤ j).
    ⊎_elim (λ (after : k < j). behind j (omega (arith, after)) below)
    (λ (same : j ≤ k). let e : j ≡ k = omega (arith, more, same) in ap p e ∙ here)
    (cases_lt k j))
    (cases_lt j k)
