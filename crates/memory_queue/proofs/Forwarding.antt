-- What is met: the youngest of the earlier accesses, which decides what is forwarded.
use Rattle.std.proofs.Common.{◌≡◌, ℕ, suc, ◌-◌, ◌<◌, Bool, false, cond, List, take, find, reverse, Option, Some, option_and_then, slice_get, ap, ◌∙◌, arith}
use Rattle.std.specs.Option.{option_map_or}
use Rattle.rsim_base.specs.declared.memory.Addr.{Addr}
use Rattle.rsim_base.specs.declared.memory.Size.{Size}
use Rattle.memory_queue.specs.Queues.{forwarded, forwarded_to, given_by, is_met_at, meets}
use Rattle.memory_queue.specs.declared.queued.Queued.{Queued}
use Rattle.memory_queue.proofs.Walking.{back-at}

-- looking back over the first n, the last of them comes first
pub find-back : (p : Queued → Bool) (xs : List Queued) (n : ℕ) (x : Queued) (b : Bool) → 0 < n → slice_get xs (n - 1) ≡ Some x → p x ≡ b →
    find p (reverse (take n xs)) ≡ cond b (Some x) (find p (reverse (take (n - 1) xs)))
find-back p xs n x b some at is =
    let next : n ≡ suc (n - 1) = omega (arith, some) in
    ap (λ j. find p (reverse (take j xs))) next
    ∙ (ap (find p) (back-at xs (n - 1) x at)
    ∙ ap (λ (b : Bool). cond b (Some x) (find p (reverse (take (n - 1) xs)))) is)

-- the load at a place is given what the one that was found gives
pub forwarded-at : (xs : List Queued) (k : ℕ) (load : Queued) (a : Addr) (found : Option Queued) → slice_get xs k ≡ Some load → load.addr ≡ Some a →
    find (meets a load.size) (reverse (take k xs)) ≡ found → forwarded_to k xs ≡ given_by a load.size found
forwarded-at xs k load a found at addr is =
    ap (option_and_then (forwarded (take k xs))) at
    ∙ (ap (option_and_then (λ (b : Addr). given_by b load.size (find (meets b load.size) (reverse (take k xs))))) addr
    ∙ ap (given_by a load.size) is)

-- one at a place passes where it does
pub met-at : (a : Addr) (n : Size) (xs : List Queued) (j : ℕ) (x : Queued) (b : Bool) → slice_get xs j ≡ Some x → meets a n x ≡ b → is_met_at a n xs j ≡ b
met-at a n xs j x b at is = ap (λ o. option_map_or (meets a n) o false) at ∙ is
