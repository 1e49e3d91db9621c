-- A load once the store that its value came from is performed, and the list of loads where each is so.
use Rattle.std.proofs.Common.{◌≡◌, ℕ, ◌+◌, ◌<◌, ◌++◌, false, List, length, map, take, drop, set, get_or, refl}
use Rattle.std.proofs.lemmas.Bool.{eq-eqb, ne_eqb}
use Rattle.std.proofs.lemmas.List.{get_or_default}
use Rattle.std.proofs.lemmas.List.Edits.{map_over_more}
use Rattle.settle_watch.specs.declared.watch.Watched.{Watched}
use Rattle.settle_watch.specs.Watches.{store_performed}

-- it is another load only where it has this number
pub store_performed-same : (seq : ℕ) (x : Watched) → x.seq ≡ seq → store_performed seq x ≡ record x { from_store = false }
store_performed-same seq x is = rw (eq-eqb x.seq seq is) refl

pub store_performed-other : (seq : ℕ) (x : Watched) → (x.seq ≡ seq → ⊥) → store_performed seq x ≡ x
store_performed-other seq x is_not = rw (ne_eqb x.seq seq is_not) refl

-- the places up to one are done, and so is that place
pub performed_more : (seq i : ℕ) (before now : List Watched) (d : Watched) → i < length before → i < length now → now ≡ map (store_performed seq) (take i before) ++ drop i before → set now i (store_performed seq (get_or now i d)) ≡ map (store_performed seq) (take (i + 1) before) ++ drop (i + 1) before
performed_more seq i before now d lt within so_far = map_over_more (store_performed seq) before now i (get_or now i d) lt so_far (get_or_default now i d (get_or now i d) within)
