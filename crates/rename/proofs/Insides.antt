-- What a core's registers keep, and what clauses see of them, when a register is taken, pushed or mapped, and at first.
use Rattle.std.proofs.Common.{◌≡◌, ℕ, zero, suc, Option, ◌+◌, ◌-◌, ◌<◌, ◌≤◌, Ok, None, Some, All, List, [], ◌∷◌, ◌++◌, length, map, replicate, drop, get_or, set, slice_get, slice_set, sym, ap, ◌∙◌, subst, refl, arith}
use Rattle.std.specs.List.{range_with_len}
use Rattle.std.proofs.lemmas.List.{length_push, map_push, map-set, drop-map, get_or-map}
use Rattle.std.proofs.lemmas.List.Elements.{All-nil, All-set, All-push, All-cons}
use Rattle.std.proofs.lemmas.List.FromFn.{map-range_with_len_more, length-map-range_with_len}
use Rattle.rsim_base.specs.Limits.{arch_registers}
use Rattle.rsim_base.specs.declared.processor.ArchReg.{ArchReg}
use Rattle.rsim_base.specs.declared.processor.PhysReg.{PhysReg}
use Rattle.sparc_meaning.specs.declared.arch.Arch.{Arch}
use Rattle.circular_buffer.specs.Buffer.{Buffer, buffer, keep_last}
use Rattle.rename.specs.Registers.{AreInside, most_extra, registers}
use Rattle.rename.specs.Start.{first_names, registers_of}
use Rattle.rename.specs.Names.{NamesView, Takes, TakesOf, take_of, taken}

-- where there is a place the last of a list and one more are all of them
pub keep_last_all : (n : ℕ) (xs : List PhysReg) (x : PhysReg) → length xs < n → keep_last n (xs ++ x ∷ []) ≡ xs ++ x ∷ []
keep_last_all n xs x h = let e : length (xs ++ x ∷ []) - n ≡ 0 = omega (arith, length_push xs x) in rw e

pub AreInside-push : (current : List PhysReg) (free : Buffer PhysReg) (n : ℕ) (r : PhysReg) → AreInside current free n → r.0 < n → length free.items < free.capacity → AreInside current (record free { items = free.items ++ r ∷ [] }) n
AreInside-push current free n r h low place = record {
  few = h.few;
  room = h.room;
  within = omega (arith, length_push free.items r);
  current_below = h.current_below;
  free_below = All-push (λ r. r.0 < n) free.items r h.free_below low;
}

pub AreInside-set : (current : List PhysReg) (free : Buffer PhysReg) (n i : ℕ) (r : PhysReg) → AreInside current free n → r.0 < n → AreInside (slice_set current i r) free n
AreInside-set current free n i r h low = record {
  few = h.few;
  room = h.room;
  within = h.within;
  current_below = All-set (λ r. r.0 < n) current i r low h.current_below;
  free_below = h.free_below;
}

registers_below : (first n m : ℕ) → first + n ≤ m → All (λ r. r.0 < m) (registers first n)
registers_below first zero m h = All-nil (λ r. r.0 < m)
registers_below first (suc n) m h = All-cons (λ r. r.0 < m) (record { 0 = first }) (registers (first + 1) n) (omega arith) (registers_below (first + 1) n m (omega arith))

pub length-registers : (first n : ℕ) → length (registers first n) ≡ n
length-registers first n = let f : ℕ → PhysReg = λ r. record { 0 = r } in length-map-range_with_len f first n

pub AreInside-first : (extra n : ℕ) (current : List PhysReg) (free : Buffer PhysReg) → extra ≤ most_extra → current ≡ registers 0 arch_registers → free ≡ buffer (registers arch_registers extra) extra → n ≡ arch_registers + extra → AreInside current free n
AreInside-first extra n current free h current_is free_is is =
    let P : List PhysReg → Type 0 = λ xs. All (λ r. r.0 < n) xs in
    let length_is = ap (λ b. length b.items) free_is ∙ length-registers arch_registers extra in
    let capacity_is = ap (λ b. b.capacity) free_is in
    record {
      few = omega arith;
      room = omega arith;
      within = omega arith;
      current_below = subst P (sym current_is) (registers_below 0 arch_registers n (omega arith));
      free_below = subst P (sym (ap (λ b. b.items) free_is)) (registers_below arch_registers extra n (omega arith));
    }

-- one more register
pub registers_more : (first n : ℕ) → registers first (n + 1) ≡ registers first n ++ record { 0 = first + n } ∷ []
registers_more first n = map-range_with_len_more (λ r. record { 0 = r }) first n (first + n) refl

numbers_of_registers : (first n : ℕ) → map (λ r. r.0) (registers first n) ≡ range_with_len first n
numbers_of_registers first zero = refl
numbers_of_registers first (suc n) = ap (λ rs. first ∷ rs) (numbers_of_registers (first + 1) n)

none_is_no_some : (x : ℕ) → None ≡ Some x → ⊥
none_is_no_some x e = cc

nothing_is_no_some : (x : PhysReg) → None ≡ Some x → ⊥
nothing_is_no_some x e = cc

-- what clauses see of these registers
abbrev pub view_of : List PhysReg → List PhysReg → List (Option ℕ) → NamesView
view_of current free values = record { current = map (λ r. r.0) current; free = map (λ r. r.0) free; values = values }

numbers_are : (first n : ℕ) (rs : List PhysReg) → rs ≡ registers first n → map (λ r. r.0) rs ≡ range_with_len first n
numbers_are first n rs is = let f : PhysReg → ℕ = λ r. r.0 in ap (map f) is ∙ numbers_of_registers first n

pub view_of_first : (extra : ℕ) (s : Arch) (current : List PhysReg) (free : Buffer PhysReg) (values : List (Option ℕ)) → current ≡ registers 0 arch_registers → free ≡ buffer (registers arch_registers extra) extra → values ≡ map Some (registers_of s) ++ replicate extra None → view_of current free.items values ≡ first_names extra s
view_of_first extra s current free values current_is free_is values_are =
    let currents = numbers_are 0 arch_registers current current_is in
    let frees = numbers_are arch_registers extra free.items (ap (λ b. b.items) free_is) in
    λ i. record { current = currents i; free = frees i; values = values_are i }

-- what takes the front of the free ones takes a register
takes_front : (r x : ℕ) (v w : NamesView) (free : List ℕ) → slice_get free 0 ≡ Some x → w ≡ taken r x (drop 1 free) v → TakesOf r v free (Ok (take_of r x v)) w
takes_front r x v w [] front is = absurd (none_is_no_some x front)
takes_front r x v w (y ∷ ys) front is =
    let same : y ≡ x = cc in
    (ap (λ n. Ok (take_of r n v)) (sym same), is ∙ ap (λ n. taken r n ys v) (sym same))

slice_get-map : (xs : List PhysReg) (x : PhysReg) → slice_get xs 0 ≡ Some x → slice_get (map (λ r. r.0) xs) 0 ≡ Some x.0
slice_get-map [] x front = absurd (nothing_is_no_some x front)
slice_get-map (y ∷ ys) x front = let same : y ≡ x = cc in ap (λ r. Some r.0) same

pub take_of_front : (r : ArchReg) (x : PhysReg) (current free : List PhysReg) (values : List (Option ℕ)) (v : NamesView) → view_of current free values ≡ v → r.0 < length current → slice_get free 0 ≡ Some x
    → Takes r.0 v (Ok (record { reg = r; new = x; old = get_or current r.0 (record { 0 = 0 }) })) (view_of (set current r.0 x) (drop 1 free) (set values x.0 None))
take_of_front r x current free values v is low front =
    let P : NamesView → Type 0 = λ u. Takes r.0 u (Ok (record { reg = r; new = x; old = get_or current r.0 (record { 0 = 0 }) })) (view_of (set current r.0 x) (drop 1 free) (set values x.0 None)) in
    let f : PhysReg → ℕ = λ q. q.0 in
    let here = view_of current free values in
    let set_is = map-set f current r.0 x in
    let rest_is = sym (drop-map f 1 free) in
    let mapped : view_of (set current r.0 x) (drop 1 free) (set values x.0 None) ≡ taken r.0 x.0 (drop 1 (map f free)) here = λ i. record {
      current = set_is i;
      free = rest_is i;
      values = set values x.0 None;
    } in
    let old : get_or (map f current) r.0 0 ≡ f (get_or current r.0 (record { 0 = 0 })) = get_or-map f current r.0 (record { 0 = 0 }) 0 low in
    let gives = takes_front r.0 x.0 here (view_of (set current r.0 x) (drop 1 free) (set values x.0 None)) (map f free) (slice_get-map free x front) mapped in
    subst P is (rw old at gives)

pub view_of_undone : (current free : List PhysReg) (values : List (Option ℕ)) (i : ℕ) (x y : PhysReg) → view_of (set current i x) (free ++ y ∷ []) values ≡ record { current = slice_set (map (λ r. r.0) current) i x.0; free = map (λ r. r.0) free ++ y.0 ∷ []; values = values }
view_of_undone current free values i x y =
    let f : PhysReg → ℕ = λ r. r.0 in
    let set_is = map-set f current i x in
    let pushed = map_push f free y in
    λ j. record { current = set_is j; free = pushed j; values = values }
