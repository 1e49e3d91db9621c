-- Numbers that rise along the queue, and the one access of a number.
use Rattle.std.proofs.Common.{◌≡◌, ◌≢◌, ℕ, zero, suc, ◌+◌, ◌<◌, ◌≤◌, ◌==◌, true, false, cond, List, [], ◌∷◌, ◌++◌, All, length, get_or, set, map, drop, Some, slice_get, refl, sym, ap, subst, ◌∙◌, ⊎_elim, arith}
use Rattle.std.proofs.lemmas.Bool.{cases_lt, eq-eqb, ne_eqb}
use Rattle.std.proofs.lemmas.List.{length-set}
use Rattle.std.proofs.lemmas.List.Quantifiers.{all_pairs_push}
use Rattle.std.proofs.lemmas.Option.{get_or_from_slice_get, slice_get_within}
use Rattle.memory_queue.specs.Queues.{AreRising}
use Rattle.memory_queue.specs.declared.queued.Queued.{Queued}

-- ---- what keeps them rising

pub rising-rest : (x : Queued) (xs : List Queued) → AreRising (x ∷ xs) → AreRising xs
rising-rest x xs rising i k d below within = rising (suc i) (suc k) d (omega (arith, below)) (omega (arith, within))

pub rising-drop : (xs : List Queued) → AreRising xs → AreRising (drop 1 xs)
rising-drop [] rising = rising
rising-drop (x ∷ xs) rising = rising-rest x xs rising

pub rising-push : (xs : List Queued) (y : Queued) → AreRising xs → All (λ x. x.seq < y.seq) xs → AreRising (xs ++ y ∷ [])
rising-push xs y rising below = all_pairs_push (λ (x z : Queued). x.seq < z.seq) xs y rising (λ k d within. below k d within)

-- the first is below all others
first-below : (x : Queued) (xs : List Queued) → AreRising (x ∷ xs) → All (λ (y : Queued). x.seq < y.seq) xs
first-below x xs rising k d within = rising zero (suc k) d (omega arith) (omega (arith, within))

-- another with the same number in the place of one
number-set : (xs : List Queued) (k : ℕ) (x y : Queued) → slice_get xs k ≡ Some x → y.seq ≡ x.seq → (i : ℕ) (d : Queued) → (get_or (set xs k y) i d).seq ≡ (get_or xs i d).seq
number-set [] k x y at same i d = absurd cc
number-set (z ∷ zs) zero x y at same zero d = let here : x ≡ z = cc in same ∙ ap (λ (w : Queued). w.seq) here
number-set (z ∷ zs) zero x y at same (suc i) d = refl
number-set (z ∷ zs) (suc k) x y at same zero d = refl
number-set (z ∷ zs) (suc k) x y at same (suc i) d = number-set zs k x y at same i d

pub rising-set : (xs : List Queued) (k : ℕ) (x y : Queued) → AreRising xs → slice_get xs k ≡ Some x → y.seq ≡ x.seq → AreRising (set xs k y)
rising-set xs k x y rising at same i j d below within =
    let long : length (set xs k y) ≡ length xs = length-set xs k y in
    let low : (get_or xs i d).seq < (get_or xs j d).seq = rising i j d below (omega (arith, within, long)) in
    omega (arith, low, number-set xs k x y at same i d, number-set xs k x y at same j d)

-- ---- the access of a number

pub unchanged : (seq : ℕ) (f : Queued → Queued) (xs : List Queued) → All (λ (x : Queued). x.seq ≢ seq) xs → map (λ (x : Queued). cond (x.seq == seq) (f x) x) xs ≡ xs
unchanged seq f [] none = refl
unchanged seq f (x ∷ xs) none =
    let here : (x.seq == seq) ≡ false = ne_eqb x.seq seq (none zero x (omega arith)) in
    rw here (ap (λ (ys : List Queued). x ∷ ys) (unchanged seq f xs (λ k d within. none (suc k) d (omega (arith, within)))))

pub changed-at : (seq : ℕ) (f : Queued → Queued) (xs : List Queued) (k : ℕ) (x : Queued) → AreRising xs → slice_get xs k ≡ Some x → x.seq ≡ seq → map (λ (y : Queued). cond (y.seq == seq) (f y) y) xs ≡ set xs k (f x)
changed-at seq f [] k x rising at is = absurd cc
changed-at seq f (z ∷ zs) zero x rising at is =
    let same : z ≡ x = cc in
    let here : (z.seq == seq) ≡ true = eq-eqb z.seq seq (ap (λ (w : Queued). w.seq) same ∙ is) in
    let rest = unchanged seq f zs (λ k d within. λ e. omega (arith, first-below z zs rising k d within, e, is, ap (λ (w : Queued). w.seq) same)) in
    rw here (ap (λ (ys : List Queued). f z ∷ ys) rest ∙ ap (λ (w : Queued). f w ∷ zs) same)
changed-at seq f (z ∷ zs) (suc k) x rising at is =
    let low : z.seq < x.seq = subst (λ (w : Queued). z.seq < w.seq) (get_or_from_slice_get zs k x x at) (first-below z zs rising k x (slice_get_within zs k x at)) in
    let other : (z.seq == seq) ≡ false = ne_eqb z.seq seq (λ e. omega (arith, low, e, is)) in
    rw other (ap (λ (ys : List Queued). z ∷ ys) (changed-at seq f zs k x (rising-rest z zs rising) at is))

-- ---- looking for it

-- none of the first ones has the number, nor has the next
pub none-more : (seq : ℕ) (xs : List Queued) (place : ℕ) (x : Queued) → slice_get xs place ≡ Some x → x.seq ≢ seq → ((k : ℕ) (d : Queued) → k < place → (get_or xs k d).seq ≢ seq) → (k : ℕ) (d : Queued) → k < place + 1 → (get_or xs k d).seq ≢ seq
none-more seq xs place x at other none k d below =
    ⊎_elim (λ (before : k < place). none k d before)
    (λ (past : place ≤ k).
    let here : k ≡ place = omega (arith, past, below) in
    λ e. other (ap (λ (y : Queued). y.seq) (sym (ap (λ j. get_or xs j d) here ∙ get_or_from_slice_get xs place x d at)) ∙ e))
    (cases_lt k place)
