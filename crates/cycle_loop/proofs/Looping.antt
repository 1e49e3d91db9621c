-- The loops over the processors.
use Rattle.std.proofs.Common.{◌≡◌, ◌<◌, ◌≤◌, ◌+◌, ◌++◌, ◌&&◌, not, ℕ, zero, suc, Bool, List, [], ◌∷◌, length, take, drop, get_or, Some, slice_get, refl, sym, ap, subst, ◌∙◌, ⊎_elim, inl, inr, ◌⊎◌, append_assoc, add-one, arith, vec_len, vec_capacity}
use Rattle.std.proofs.Math.ListN.{set}
use Rattle.std.proofs.lemmas.Bool.{cases_lt}
use Rattle.std.proofs.lemmas.Grind.{drop_more_same}
use Rattle.std.proofs.lemmas.Option.{slice_get_within}
use Rattle.std.proofs.lemmas.List.{drop_more, drop-set-lt, length-set, map-append, take_more_set, append-nil}
use Rattle.elf64_load.specs.Image.{ImageView}
use Rattle.memory_contracts.specs.Store.{StoreView}
use Rattle.order_log.specs.Log.{Place}
use Rattle.sparc_meaning.specs.Arch.{IsSound, is_running}
use Rattle.cycle_loop.specs.Ranges.{AreSound, HaveNumbers}
use Rattle.cycle_loop.specs.Machine.{At, CoreView, Turned, next_step, turn, turns}
use Rattle.cycle_loop.specs.Processors.{view_of}
use Rattle.cycle_loop.specs.Ready.{AreCounted, HaveRoom, IsCounted, views_of}
use Rattle.cycle_loop.specs.declared.processor.Processor.{Processor}
use Rattle.cycle_loop.proofs.Cycling.{turn_by}
use Rattle.list_facts.specs.Places.{slice_get_unmapped}
use Rattle.list_facts.specs.Options.{Some-injective}
use Rattle.cycle_loop.proofs.Waiting.{lacks_same}

-- ---- lists

-- what is at a place of a list in which one element was written
slice_get_set : {A : Type 0} (xs : List A) (p : ℕ) (y : A) (i : ℕ) (z : A) → slice_get (set xs p y) i ≡ Some z → ((i ≡ p) × (z ≡ y)) ⊎ ((i ≡ p → ⊥) × (slice_get xs i ≡ Some z))
slice_get_set [] p y i z at = absurd cc
slice_get_set (x ∷ xs) zero y zero z at = inl (refl, cc)
slice_get_set (x ∷ xs) zero y (suc i) z at = inr (λ e. absurd (omega arith), at)
slice_get_set (x ∷ xs) (suc p) y zero z at = inr (λ e. absurd (omega arith), at)
slice_get_set (x ∷ xs) (suc p) y (suc i) z at = ⊎_elim (λ here. inl (ap suc here.0, here.1)) (λ there. inr (λ e. there.0 (omega arith), there.1)) (slice_get_set xs p y i z at)

pub slice_get-get_or : {A : Type 0} (xs : List A) (i : ℕ) (x : A) → i < length xs → x ≡ get_or xs i x → slice_get xs i ≡ Some x
slice_get-get_or [] i x below is = absurd (omega arith)
slice_get-get_or (y ∷ xs) zero x below is = ap Some (sym is)
slice_get-get_or (y ∷ xs) (suc i) x below is = slice_get-get_or xs i x (omega arith) is

slice_get-drop : {A : Type 0} (xs ys : List A) (i : ℕ) (x : A) → drop i xs ≡ drop i ys → slice_get xs i ≡ Some x → slice_get ys i ≡ Some x
slice_get-drop {A = A} xs ys i x same at = sym (first ys i) ∙ ap (λ (zs : List A). slice_get zs 0) (sym same) ∙ first xs i ∙ at
  where
    first : (zs : List A) (i : ℕ) → slice_get (drop i zs) 0 ≡ slice_get zs i
    first [] zero = refl
    first [] (suc i) = refl
    first (z ∷ zs) zero = refl
    first (z ∷ zs) (suc i) = first zs i

-- ---- turns, one after the other

abbrev pub joined : List CoreView → Turned → Turned
joined done t = record t { cores = done ++ t.cores }

turn_same : (image : ImageView) (v w : StoreView) (p : ℕ) (x : At) → w ≡ record v { bytes = w.bytes; wishes = w.wishes } → turn image w p x ≡ turn image v p x
turn_same image v w p x same =
    let s = next_step image x.bytes x.core.arch in
    ap (λ (lacks : Bool). turn_by (is_running x.core.arch.end && not lacks) p s x) (lacks_same v w.bytes w p s.act same)

joined_step : (image : ImageView) (v : StoreView) (p : ℕ) (done : List CoreView) (c : CoreView) (cs : List CoreView) (log : List Place) (bytes : ℕ → ℕ) (x : At) →
    x ≡ turn image v p (record { core = c; log = log; bytes = bytes }) →
    joined done (turns image v p (c ∷ cs) log bytes) ≡ joined (done ++ x.core ∷ []) (turns image v (suc p) cs x.log x.bytes)
joined_step image v p done c cs log bytes x is =
    ap (λ (y : At). let t = turns image v (suc p) cs y.log y.bytes in let r : Turned = record { cores = done ++ y.core ∷ t.cores; log = t.log; bytes = t.bytes } in r) (sym is)
    ∙ ap (λ (cores : List CoreView). let t = turns image v (suc p) cs x.log x.bytes in let r : Turned = record { cores = cores; log = t.log; bytes = t.bytes } in r)
    (sym (append_assoc done (x.core ∷ []) (turns image v (suc p) cs x.log x.bytes).cores))

-- ---- what the loop over the turns keeps

pub record HasTurned (image : ImageView) (v0 v : StoreView) (initial items : List Processor) (log0 log : List Place) (spare p : ℕ) : Type 0 where
  pub rule : turns image v0 0 (views_of initial) log0 v0.bytes ≡ joined (views_of (take p items)) (turns image v0 p (views_of (drop p items)) log v.bytes)
  pub store : v ≡ record v0 { bytes = v.bytes; wishes = v.wishes }
  pub count : length items ≡ length initial
  pub behind : drop p items ≡ drop p initial
  pub spare_left : length initial ≤ spare + p
  pub sound : (i : ℕ) (c : Processor) → i < p → slice_get items i ≡ Some c → IsSound c.arch
  pub counted : (n : ℕ) → AreCounted n (views_of initial) → (i : ℕ) (c : Processor) → i < p → slice_get items i ≡ Some c → IsCounted (n + 1) (view_of c)
  pub numbers : HaveNumbers log0 → HaveNumbers log

-- the processor whose turn is next is as it was
pub HasTurned-next : (image : ImageView) (v0 v : StoreView) (initial items : List Processor) (log0 log : List Place) (spare p : ℕ) (x : Processor) → HasTurned image v0 v initial items log0 log spare p →
    p < length items → x ≡ get_or items p x → slice_get initial p ≡ Some x
HasTurned-next image v0 v initial items log0 log spare p x turned below is = slice_get-drop items initial p x turned.behind (slice_get-get_or items p x below is)

view_at : (items : List Processor) (p : ℕ) (x : Processor) → slice_get items p ≡ Some x → slice_get (views_of items) p ≡ Some (view_of x)
view_at [] p x at = absurd cc
view_at (y ∷ items) zero x at = ap (λ (z : Processor). Some (view_of z)) (Some-injective at)
view_at (y ∷ items) (suc p) x at = view_at items p x at

pub AreCounted-at : (n : ℕ) (items : List Processor) (p : ℕ) (x : Processor) → AreCounted n (views_of items) → slice_get items p ≡ Some x → IsCounted n (view_of x)
AreCounted-at n items p x all at = all p (view_of x) (view_at items p x at)

pub AreSound-at : (items : List Processor) (p : ℕ) (x : Processor) → AreSound (views_of items) → slice_get items p ≡ Some x → IsSound x.arch
AreSound-at items p x all at = all p (view_of x) (view_at items p x at)

-- what the turn of one has made of it
pub record IsTurned (image : ImageView) (v w : StoreView) (x y : Processor) (log new : List Place) (spare left p : ℕ) : Type 0 where
  pub rule : ◌≡◌ {A = At} (record { core = view_of y; log = new; bytes = w.bytes }) (turn image v p (record { core = view_of x; log = log; bytes = v.bytes }))
  pub store : w ≡ record v { bytes = w.bytes; wishes = w.wishes }
  pub sound : IsSound y.arch
  pub fewer : y.accesses ≤ y.retired
  pub retired : y.retired ≤ x.retired + 1
  pub spare_left : spare ≤ left + 1
  pub numbers : HaveNumbers log → HaveNumbers new

pub HasTurned-more : (image : ImageView) (v0 v w : StoreView) (initial items : List Processor) (log0 log new : List Place) (spare left p : ℕ) (x y : Processor) → HasTurned image v0 v initial items log0 log spare p →
    p < length items → x ≡ get_or items p x → IsTurned image v w x y log new spare left p → HasTurned image v0 w initial (set items p y) log0 new left (p + 1)
HasTurned-more image v0 v w initial items log0 log new spare left p x y turned below is t = record {
  rule =
      let z : At = record { core = view_of y; log = new; bytes = w.bytes } in
      let here : z ≡ turn image v0 p (record { core = view_of x; log = log; bytes = v.bytes }) = t.rule ∙ turn_same image v0 v p (record { core = view_of x; log = log; bytes = v.bytes }) turned.store in
      let split : views_of (drop p items) ≡ view_of x ∷ views_of (drop (suc p) items) =
      ap views_of (drop_more items p x below) ∙ ap (λ (h : Processor). view_of h ∷ views_of (drop (p + 1) items)) (sym is) ∙ ap (λ (k : ℕ). view_of x ∷ views_of (drop k items)) (add-one p) in
      let front : views_of (take (suc p) (set items p y)) ≡ views_of (take p items) ++ view_of y ∷ [] =
      ap (λ (k : ℕ). views_of (take k (set items p y))) (sym (add-one p)) ∙ ap views_of (take_more_set items p y below) ∙ map-append view_of (take p items) (y ∷ []) in
      let behind : drop (suc p) (set items p y) ≡ drop (suc p) items = drop-set-lt (suc p) items p y (omega arith) in
      rw add-one (turned.rule
      ∙ ap (λ (cs : List CoreView). joined (views_of (take p items)) (turns image v0 p cs log v.bytes)) split
      ∙ joined_step image v0 p (views_of (take p items)) (view_of x) (views_of (drop (suc p) items)) log v.bytes z here
      ∙ ap (λ (done : List CoreView). joined done (turns image v0 (suc p) (views_of (drop (suc p) items)) new w.bytes)) (sym front)
      ∙ ap (λ (rest : List Processor). joined (views_of (take (suc p) (set items p y))) (turns image v0 (suc p) (views_of rest) new w.bytes)) (sym behind));
  store = t.store ∙ ap (λ (u : StoreView). let r : StoreView = record u { bytes = w.bytes; wishes = w.wishes } in r) turned.store;
  count = length-set items p y ∙ turned.count;
  behind = drop-set-lt (p + 1) items p y (omega arith) ∙ next_drop items initial turned.behind;
  spare_left = let a = turned.spare_left in let b = t.spare_left in omega arith;
  sound = λ i c low at. ⊎_elim (λ here. subst (λ (z : Processor). IsSound z.arch) (sym here.1) t.sound) (λ there. turned.sound i c (other i low there.0) there.1) (slice_get_set items p y i c at);
  counted = λ n all i c low at. ⊎_elim
      (λ here. subst (λ (z : Processor). IsCounted (n + 1) (view_of z)) (sym here.1) (counts n (AreCounted-at n initial p x all (HasTurned-next image v0 v initial items log0 log spare p x turned below is))))
      (λ there. turned.counted n all i c (other i low there.0) there.1) (slice_get_set items p y i c at);
  numbers = λ has. t.numbers (turned.numbers has);
}
  where
    other : (i : ℕ) → i < p + 1 → (i ≡ p → ⊥) → i < p
    other i low ne = ⊎_elim (λ lt. lt) (λ ge. absurd (ne (omega arith))) (cases_lt i p)

    counts : (n : ℕ) → IsCounted n (view_of x) → IsCounted (n + 1) (view_of y)
    counts n is = record { accesses = t.fewer; retired = let a = is.retired in let b = t.retired in omega arith }

    next_drop : (xs ys : List Processor) → drop p xs ≡ drop p ys → drop (p + 1) xs ≡ drop (p + 1) ys
    next_drop xs ys same = drop_more_same xs ys p same

-- after the last one all have had their turns
pub record HaveTurned (image : ImageView) (v0 v : StoreView) (initial items : List Processor) (log0 log : List Place) : Type 0 where
  pub rule : ◌≡◌ {A = Turned} (record { cores = views_of items; log = log; bytes = v.bytes }) (turns image v0 0 (views_of initial) log0 v0.bytes)
  pub sound : AreSound (views_of items)
  pub counted : (n : ℕ) → AreCounted n (views_of initial) → AreCounted (n + 1) (views_of items)

take_all : {A : Type 0} (xs : List A) (n : ℕ) → length xs ≤ n → take n xs ≡ xs
take_all [] zero all = refl
take_all [] (suc n) all = refl
take_all (x ∷ xs) zero all = absurd (omega arith)
take_all (x ∷ xs) (suc n) all = ap (λ ys. x ∷ ys) (take_all xs n (omega arith))

drop_all : {A : Type 0} (xs : List A) (n : ℕ) → length xs ≤ n → drop n xs ≡ []
drop_all [] zero all = refl
drop_all [] (suc n) all = refl
drop_all (x ∷ xs) zero all = absurd (omega arith)
drop_all (x ∷ xs) (suc n) all = drop_all xs n (omega arith)

viewed_at : (items : List Processor) (p : ℕ) (c : CoreView) → slice_get (views_of items) p ≡ Some c → (x : Processor) × (slice_get items p ≡ Some x) × (c ≡ view_of x)
viewed_at items p c at = slice_get_unmapped view_of items p c at

pub HasTurned-all : (image : ImageView) (v0 v : StoreView) (initial items : List Processor) (log0 log : List Place) (spare p : ℕ) → HasTurned image v0 v initial items log0 log spare p → length items ≤ p →
    HaveTurned image v0 v initial items log0 log
HasTurned-all image v0 v initial items log0 log spare p turned all = record {
  rule = sym (turned.rule
      ∙ ap (λ (xs : List Processor). joined (views_of xs) (turns image v0 p (views_of (drop p items)) log v.bytes)) (take_all items p all)
      ∙ ap (λ (xs : List Processor). joined (views_of items) (turns image v0 p (views_of xs) log v.bytes)) (drop_all items p all)
      ∙ ap (λ (cores : List CoreView). let r : Turned = record { cores = cores; log = log; bytes = v.bytes } in r) (append-nil (views_of items)));
  sound = λ i c at. let from = viewed_at items i c at in let low = slice_get_within items i from.0 from.1 in
      subst (λ (d : CoreView). IsSound d.arch) (sym from.2) (turned.sound i from.0 (omega arith) from.1);
  counted = λ n counts i c at. let from = viewed_at items i c at in let low = slice_get_within items i from.0 from.1 in
      subst (IsCounted (n + 1)) (sym from.2) (turned.counted n counts i from.0 (omega arith) from.1);
}

-- ---- the loop that makes room

pub record HasRoomBelow (initial items : List Processor) (p : ℕ) : Type 0 where
  pub count : length items ≡ length initial
  pub views : views_of items ≡ views_of initial
  pub room : (i : ℕ) (c : Processor) → i < p → slice_get items i ≡ Some c → vec_len c.output + 21 ≤ vec_capacity c.output

views_of-set : (items : List Processor) (p : ℕ) (x y : Processor) → p < length items → x ≡ get_or items p x → view_of y ≡ view_of x → views_of (set items p y) ≡ views_of items
views_of-set [] p x y below is same = absurd (omega arith)
views_of-set (z ∷ items) zero x y below is same = ap (λ (c : CoreView). c ∷ views_of items) (same ∙ ap view_of is)
views_of-set (z ∷ items) (suc p) x y below is same = ap (λ (cs : List CoreView). view_of z ∷ cs) (views_of-set items p x y (omega arith) is same)

pub HasRoomBelow-more : (initial items : List Processor) (p : ℕ) (x y : Processor) → HasRoomBelow initial items p → p < length items → x ≡ get_or items p x → view_of y ≡ view_of x →
    vec_len y.output + 21 ≤ vec_capacity y.output → HasRoomBelow initial (set items p y) (p + 1)
HasRoomBelow-more initial items p x y has below is same room = record {
  count = length-set items p y ∙ has.count;
  views = views_of-set items p x y below is same ∙ has.views;
  room = λ i c low at. ⊎_elim (λ here. subst (λ (z : Processor). vec_len z.output + 21 ≤ vec_capacity z.output) (sym here.1) room)
      (λ there. has.room i c (⊎_elim (λ lt. lt) (λ ge. absurd (there.0 (omega arith))) (cases_lt i p)) there.1) (slice_get_set items p y i c at);
}

pub HasRoomBelow-err : (initial items : List Processor) (p : ℕ) (x y : Processor) → HasRoomBelow initial items p → p < length items → x ≡ get_or items p x → view_of y ≡ view_of x → views_of (set items p y) ≡ views_of initial
HasRoomBelow-err initial items p x y has below is same = views_of-set items p x y below is same ∙ has.views

pub HasRoomBelow-all : (initial items : List Processor) (p : ℕ) → HasRoomBelow initial items p → length items ≤ p → HaveRoom items
HasRoomBelow-all initial items p has all i c at = let low = slice_get_within items i c at in has.room i c (omega arith) at
