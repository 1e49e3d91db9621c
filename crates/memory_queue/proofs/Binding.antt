-- Which loads may bind.
use Rattle.std.proofs.Common.{◌≡◌, ℕ, zero, suc, ◌+◌, ◌≤◌, ⊎_elim, ◌<◌, Bool, true, false, not, ◌&&◌, ◌||◌, List, [], ◌∷◌, take, Option, Some, None, is_some, slice_get, refl, sym, ap, ◌∙◌, arith}
use Rattle.std.specs.Option.{option_map_or}
use Rattle.std.specs.List.{list_all}
use Rattle.std.proofs.lemmas.Bool.{cases_lt}
use Rattle.std.proofs.lemmas.List.Folds.{list_all-append}
use Rattle.rsim_base.specs.Accesses.{stores}
use Rattle.rsim_base.specs.declared.memory.Addr.{Addr}
use Rattle.rsim_base.specs.declared.memory.Kind.{Kind}
use Rattle.rsim_base.specs.declared.memory.Kind.TheVariants.{Load, Store, Atomic}
use Rattle.rsim_base.specs.declared.memory.Size.{Size}
use Rattle.memory_queue.specs.Queues.{QueueView, are_stores_known, binds_now, forwarded_to, given_by, gives_way, is_load, is_ready, may_bind, may_bind_at, met_by}
use Rattle.memory_queue.specs.declared.queued.Queued.{Queued}
use Rattle.memory_queue.proofs.Forwarding.{forwarded-at}
use Rattle.memory_queue.proofs.Walking.{take-next}

neither : (b d : Bool) → d ≡ false → (b && d) ≡ false
neither true d is = is
neither false d is = refl

pub left-of : (b d : Bool) → (b && d) ≡ true → b ≡ true
left-of true d both = refl
left-of false d both = both

right-of : (b d : Bool) → (b && d) ≡ true → d ≡ true
right-of true d both = both
right-of false d both = absurd cc

-- ---- behind a store at an address that is not known no load may bind

may_bind-unknown : (q : QueueView) (earlier : List Queued) (y : Queued) → are_stores_known earlier ≡ false → may_bind q earlier y ≡ false
may_bind-unknown q earlier y unknown = neither (is_load y.kind && not y.bound) _ (by y.addr)
  where
    by : (o : Option Addr) → may_bind_at q earlier y o ≡ false
    by None = refl
    by (Some a) = ap (λ b. b && (gives_way a y.size (met_by earlier a y.size) && (q.speculates || is_ready q.model earlier a y))) unknown

pub binds-at : (q : QueueView) (k : ℕ) (y : Queued) → slice_get q.accesses k ≡ Some y → binds_now q k ≡ may_bind q (take k q.accesses) y
binds-at q k y at = ap (λ o. option_map_or (may_bind q (take k q.accesses)) o false) at

binds-unknown : (q : QueueView) (k : ℕ) → are_stores_known (take k q.accesses) ≡ false → binds_now q k ≡ false
binds-unknown q k unknown = by (slice_get q.accesses k)
  where
    by : (o : Option Queued) → option_map_or (may_bind q (take k q.accesses)) o false ≡ false
    by None = refl
    by (Some y) = may_bind-unknown q (take k q.accesses) y unknown

-- one that is not known stays behind
unknown-behind : (xs : List Queued) (k n : ℕ) (y : Queued) → slice_get xs k ≡ Some y → k < n → (not (stores y.kind) || is_some y.addr) ≡ false → are_stores_known (take n xs) ≡ false
unknown-behind [] k n y at behind is = absurd cc
unknown-behind (x ∷ xs) k zero y at behind is = absurd (omega (arith, behind))
unknown-behind (x ∷ xs) zero (suc n) y at behind is =
    let same : x ≡ y = cc in
    ap (λ b. b && are_stores_known (take n xs)) (ap (λ (z : Queued). not (stores z.kind) || is_some z.addr) same ∙ is)
unknown-behind (x ∷ xs) (suc k) (suc n) y at behind is = neither (not (stores x.kind) || is_some x.addr) _ (unknown-behind xs k n y at (omega (arith, behind)) is)

-- the store itself is no load
is_load-unknown : (kind : Kind) (b : Bool) → (not (stores kind) || b) ≡ false → is_load kind ≡ false
is_load-unknown Load b is = absurd cc
is_load-unknown Store b is = refl
is_load-unknown Atomic b is = refl

pub none-from : (q : QueueView) (k : ℕ) (y : Queued) → slice_get q.accesses k ≡ Some y → (not (stores y.kind) || is_some y.addr) ≡ false → (j : ℕ) → k ≤ j → binds_now q j ≡ false
none-from q k y at is j past =
    ⊎_elim (λ (behind : k < j). binds-unknown q j (unknown-behind q.accesses k j y at behind is))
    (λ (up_to : j ≤ k).
    let here : k ≡ j = omega (arith, past, up_to) in
    let no_load = is_load-unknown y.kind (is_some y.addr) is in
    binds-at q j y (sym (ap (slice_get q.accesses) here) ∙ at) ∙ ap (λ b. (b && not y.bound) && may_bind_at q (take j q.accesses) y y.addr) no_load)
    (cases_lt k j)

-- ---- up to it

-- all stores up to a place are known where those before it are, and it
known-more : (xs : List Queued) (k : ℕ) (y : Queued) → slice_get xs k ≡ Some y → are_stores_known (take k xs) ≡ true → (not (stores y.kind) || is_some y.addr) ≡ true → are_stores_known (take (k + 1) xs) ≡ true
known-more xs k y at known is =
    ap are_stores_known (take-next xs k y at)
    ∙ (list_all-append (λ (x : Queued). not (stores x.kind) || is_some x.addr) (take k xs) (y ∷ [])
    ∙ (ap (λ c. c && list_all (λ (x : Queued). not (stores x.kind) || is_some x.addr) (y ∷ [])) known ∙ ap (λ c. c && true) is))

pub known-up-to : (xs : List Queued) (k : ℕ) (y : Queued) → slice_get xs k ≡ Some y → (not (stores y.kind) || is_some y.addr) ≡ true →
    ((j : ℕ) → j ≤ k → are_stores_known (take j xs) ≡ true) → (j : ℕ) → j ≤ k + 1 → are_stores_known (take j xs) ≡ true
known-up-to xs k y at is known j below =
    ⊎_elim (λ (past : k < j). let next : j ≡ k + 1 = omega (arith, past, below) in ap (λ i. are_stores_known (take i xs)) next ∙ known-more xs k y at (known k (omega arith)) is)
    (λ (up_to : j ≤ k). known j up_to)
    (cases_lt k j)

-- ---- what a load that binds meets

-- it gives its value, so where no value is given nothing is met
none-met : (a : Addr) (n : Size) (met : Option Queued) → gives_way a n met ≡ true → given_by a n met ≡ None → met ≡ None
none-met a n None gives none = refl
none-met a n (Some x) gives none = absurd (let some : is_some (given_by a n (Some x)) ≡ false = ap is_some none in cc)

pub ungiven-meets-none : (q : QueueView) (k : ℕ) (y : Queued) (a : Addr) → slice_get q.accesses k ≡ Some y → y.addr ≡ Some a →
    binds_now q k ≡ true → forwarded_to k q.accesses ≡ None → met_by (take k q.accesses) a y.size ≡ None
ungiven-meets-none q k y a at addr binds none =
    let earlier = take k q.accesses in
    let may : may_bind q earlier y ≡ true = sym (binds-at q k y at) ∙ binds in
    let here : may_bind_at q earlier y (Some a) ≡ true = sym (ap (may_bind_at q earlier y) addr) ∙ right-of (is_load y.kind && not y.bound) (may_bind_at q earlier y y.addr) may in
    let gives = left-of (gives_way a y.size (met_by earlier a y.size)) _ (right-of (are_stores_known earlier) _ here) in
    none-met a y.size (met_by earlier a y.size) gives (sym (forwarded-at q.accesses k y a (met_by earlier a y.size) at addr refl) ∙ none)
