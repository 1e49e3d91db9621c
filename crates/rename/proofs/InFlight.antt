-- Takes in flight: what one more, the oldest's release and the youngest's undoing change.
use Rattle.std.proofs.Common.{◌≡◌, ◌≢◌, ℕ, ◌+◌, ◌<◌, ◌≤◌, ◌==◌, All, Ok, Err, None, Some, replicate, if◌then◌else◌, List, [], ◌∷◌, ◌++◌, length, map, Option, get_or, set, cond, ◌⊎◌, inl, inr, ⊎_elim, sym, ap, ◌∙◌, subst, refl, arith, length-append, length-set, get_or-set_other, get_or-set_same}
use Rattle.std.proofs.lemmas.Bool.{cases_eq, cases_lt, eq-eqb}
use Rattle.std.proofs.lemmas.Bool.Decides.{nat_tests}
use Rattle.std.proofs.lemmas.List.{map_push, length-map, length-replicate}
use Rattle.std.proofs.lemmas.List.Elements.{All-nil, All-cons, All-head, All-tail}
use Rattle.std.proofs.lemmas.List.FromFn.{length-range_with_len, get_or-range_with_len}
use Rattle.std.specs.List.{range_with_len}
use Rattle.rsim_base.specs.Limits.{arch_registers}
use Rattle.rsim_base.specs.declared.processor.Renamed.{Renamed}
use Rattle.rsim_base.specs.declared.refusals.NoneFree.{NoneFree}
use Rattle.sparc_meaning.specs.declared.arch.Arch.{Arch}
use Rattle.rename.specs.Names.{NamesView, TakesOf, take_of, taken}
use Rattle.rename.specs.Laws.{FirstIsRenaming, NumbersAreWithin, OperandsNameWriters, RegistersAreApart, ReleasedIsRenaming, RoomForEach, TakenIsRenaming, UndoneIsRenaming}
use Rattle.rename.specs.Start.{first_names, registers_of}
use Rattle.rename.specs.Renaming.{IsRenaming, OldsAreBefore, named, olds, times}
use Rattle.rename.proofs.Times.{one, one_same, times-cons, times-append, times_push, times-set, times_before, times_behind, times_within, length_each_once, times_held, times_two_places}

-- what holds r after t, where `held` held it before
abbrev pub after : Renamed → ℕ → ℕ → ℕ
after t r held = if t.reg.0 == r then t.new.0 else held

after_same : (t : Renamed) (r held : ℕ) → t.reg.0 ≡ r → after t r held ≡ t.new.0
after_same t r held e = ap (λ b. cond b t.new.0 held) (eq-eqb t.reg.0 r e)

after_other : (t : Renamed) (r held : ℕ) → t.reg.0 ≢ r → after t r held ≡ held
after_other t r held d = grind (arith, nat_tests)

pub named-append : (r : ℕ) (ts us : List Renamed) (held : ℕ) → named r (ts ++ us) held ≡ named r us (named r ts held)
named-append r [] us held = refl
named-append r (t ∷ ts) us held = named-append r ts us (after t r held)

named_none : (r : ℕ) (ts : List Renamed) (held : ℕ) → All (λ u. u.reg.0 ≢ r) ts → named r ts held ≡ held
named_none r [] held none = refl
named_none r (t ∷ ts) held none =
    let P : Renamed → Type 0 = λ u. u.reg.0 ≢ r in
    named_none r ts (after t r held) (All-tail P t ts none) ∙ after_other t r held (All-head P t ts none)

OldsAreBefore_push : (ts : List Renamed) (t : Renamed) (held : ℕ → ℕ) → OldsAreBefore ts held → t.reg.0 < arch_registers → t.old.0 ≡ named t.reg.0 ts (held t.reg.0) → OldsAreBefore (ts ++ t ∷ []) held
OldsAreBefore_push [] t held h low e = (low, e, tt)
OldsAreBefore_push (u ∷ ts) t held h low e = (h.0, h.1, OldsAreBefore_push ts t (λ r. after u r (held r)) h.2 low e)

pub record IsYoungest (ts : List Renamed) (t : Renamed) (held : ℕ → ℕ) : Type 0 where
  pub others : OldsAreBefore ts held
  pub low : t.reg.0 < arch_registers
  pub old_is : t.old.0 ≡ named t.reg.0 ts (held t.reg.0)

youngest : (ts : List Renamed) (t : Renamed) (held : ℕ → ℕ) → OldsAreBefore (ts ++ t ∷ []) held → IsYoungest ts t held
youngest [] t held h = record { others = tt; low = h.0; old_is = h.1 }
youngest (u ∷ ts) t held h =
    let rest = youngest ts t (λ r. after u r (held r)) h.2 in
    record { others = (h.0, h.1, rest.others); low = rest.low; old_is = rest.old_is }

-- how often x is mapped, kept as old, or free
abbrev places : ℕ → List ℕ → List ℕ → List ℕ → ℕ
places x current old free = times x current + (times x old + times x free)

places_taken : (x r n : ℕ) (current old rest : List ℕ) → r < length current → places x (set current r n) (old ++ get_or current r 0 ∷ []) rest ≡ places x current old (n ∷ rest)
places_taken x r n current old rest low =
    omega (arith, times-set x current r n low, times_push x old (get_or current r 0), times-cons x n rest)

places_released : (x o : ℕ) (current old free : List ℕ) → places x current old (free ++ o ∷ []) ≡ places x current (o ∷ old) free
places_released x o current old free = omega (arith, times_push x free o, times-cons x o old)

places_undone : (x r o n : ℕ) (current old free : List ℕ) → r < length current → get_or current r 0 ≡ n → places x (set current r o) old (free ++ n ∷ []) ≡ places x current (old ++ o ∷ []) free
places_undone x r o n current old free low is =
    let same = ap (one x) is in
    omega (arith, times-set x current r o low, times_push x free n, times_push x old o, same)

-- a list in which r is held by n has what holds each after a take that gives n to r
set_after : (current : List ℕ) (t : Renamed) (q : ℕ) → t.reg.0 < length current → get_or (set current t.reg.0 t.new.0) q 0 ≡ after t q (get_or current q 0)
set_after current t q low =
    ⊎_elim
    (λ (e : t.reg.0 ≡ q). ap (λ k. get_or (set current t.reg.0 t.new.0) k 0) (sym e) ∙ get_or-set_same current t.reg.0 t.new.0 0 low ∙ sym (after_same t q (get_or current q 0) e))
    (λ (d : t.reg.0 ≡ q → ⊥). get_or-set_other current t.reg.0 q t.new.0 0 (λ e. d (sym e)) ∙ sym (after_other t q (get_or current q 0) d))
    (cases_eq t.reg.0 q)

-- ---- one more take

take_first : (retired : ℕ → ℕ) (ts : List Renamed) (v : NamesView) (r x : ℕ) (rest : List ℕ) → IsRenaming retired ts v → r < arch_registers → v.free ≡ x ∷ rest → IsRenaming retired (ts ++ take_of r x v ∷ []) (taken r x rest v)
take_first retired ts v r x rest h low first =
    let t = take_of r x v in
    let within : r < length v.current = omega (arith, h.count) in
    let kept = length-set v.values x None in
    let pushed : olds (ts ++ t ∷ []) ≡ olds ts ++ t.old.0 ∷ [] = map_push (λ (u : Renamed). u.old.0) ts t in
    let same = λ (y : ℕ). ap (λ os. places y (set v.current r x) os rest) pushed ∙ places_taken y r x v.current (olds ts) rest within ∙ ap (places y v.current (olds ts)) (sym first) in
    record {
      count = length-set v.current r x ∙ h.count;
      names = λ q less. set_after v.current t q within ∙ ap (after t q) (h.names q less) ∙ sym (named-append q ts (t ∷ []) (retired q));
      olds_are = OldsAreBefore_push ts t retired h.olds_are low (h.names r low);
      once = λ y less. same y ∙ h.once y (omega (arith, kept));
      no_more = λ y more. same y ∙ h.no_more y (omega (arith, kept));
    }

pub ok_is_no_err : (t : Renamed) (e : NoneFree) → Ok t ≡ Err e → ⊥
ok_is_no_err t e h = cc

take_by : (retired : ℕ → ℕ) (ts : List Renamed) (v w : NamesView) (r : ℕ) (t : Renamed) → IsRenaming retired ts v → r < arch_registers → (free : List ℕ) → v.free ≡ free → TakesOf r v free (Ok t) w → IsRenaming retired (ts ++ t ∷ []) w
take_by retired ts v w r t h low [] e takes = absurd (ok_is_no_err t (record {}) takes.0)
take_by retired ts v w r t h low (x ∷ rest) e takes =
    let given : take_of r x v ≡ t = cc in
    let P : Renamed → Type 0 = λ u. IsRenaming retired (ts ++ u ∷ []) w in
    let Q : NamesView → Type 0 = λ u. IsRenaming retired (ts ++ take_of r x v ∷ []) u in
    subst P given (subst Q (sym takes.1) (take_first retired ts v r x rest h low e))

pub taken_is_renaming : TakenIsRenaming
taken_is_renaming retired ts v w r t h low takes = take_by retired ts v w r t h low v.free refl takes

-- ---- the oldest take retires

pub released_is_renaming : ReleasedIsRenaming
released_is_renaming retired t ts v h = record {
  count = h.count;
  names = h.names;
  olds_are = h.olds_are.2;
  once = λ x less. places_released x t.old.0 v.current (olds ts) v.free ∙ h.once x less;
  no_more = λ x more. places_released x t.old.0 v.current (olds ts) v.free ∙ h.no_more x more;
}

-- ---- the youngest take is undone

pub undone_is_renaming : UndoneIsRenaming
undone_is_renaming retired ts t v h =
    let y = youngest ts t retired h.olds_are in
    let within : t.reg.0 < length v.current = omega (arith, h.count, y.low) in
    let back : Renamed = record { reg = t.reg; new = t.old; old = t.new } in
    let last = λ (q : ℕ) (less : q < arch_registers). h.names q less ∙ named-append q ts (t ∷ []) (retired q) in
    let is : get_or v.current t.reg.0 0 ≡ t.new.0 = last t.reg.0 y.low ∙ after_same t t.reg.0 (named t.reg.0 ts (retired t.reg.0)) refl in
    let pushed : olds (ts ++ t ∷ []) ≡ olds ts ++ t.old.0 ∷ [] = map_push (λ (u : Renamed). u.old.0) ts t in
    let same = λ (x : ℕ). places_undone x t.reg.0 t.old.0 t.new.0 v.current (olds ts) v.free within is ∙ ap (λ os. places x v.current os v.free) (sym pushed) in
    record {
      count = length-set v.current t.reg.0 t.old.0 ∙ h.count;
      names = λ q less. set_after v.current back q within ∙ ⊎_elim
          (λ (e : t.reg.0 ≡ q). after_same back q (get_or v.current q 0) e ∙ y.old_is ∙ ap (λ k. named k ts (retired k)) e)
          (λ (d : t.reg.0 ≡ q → ⊥). after_other back q (get_or v.current q 0) d ∙ last q less ∙ after_other t q (named q ts (retired q)) d)
          (cases_eq t.reg.0 q);
      olds_are = y.others;
      once = λ x less. same x ∙ h.once x less;
      no_more = λ x more. same x ∙ h.no_more x more;
    }

-- ---- what is read

pub operands_name_writers : OperandsNameWriters
operands_name_writers retired ts v r h low = (
  λ before later t is reg none.
      h.names r low
      ∙ ap (λ us. named r us (retired r)) is
      ∙ named-append r before (t ∷ later) (retired r)
      ∙ named_none r later (after t r (named r before (retired r))) none
      ∙ after_same t r (named r before (retired r)) reg,
  λ none. h.names r low ∙ named_none r ts (retired r) none,
)

at_most_once : (retired : ℕ → ℕ) (ts : List Renamed) (v : NamesView) (x : ℕ) → IsRenaming retired ts v → times x v.current ≤ 1
at_most_once retired ts v x h =
    ⊎_elim
    (λ (less : x < length v.values). omega (arith, h.once x less))
    (λ (more : length v.values ≤ x). omega (arith, h.no_more x more))
    (cases_lt x (length v.values))

pub registers_are_apart : RegistersAreApart
registers_are_apart retired ts v r q h low below same =
    ⊎_elim
    (λ (e : r ≡ q). e)
    (λ (d : r ≡ q → ⊥). absurd (omega (arith, times_two_places v.current r q (omega (arith, h.count)) (omega (arith, h.count)) d same, at_most_once retired ts v (get_or v.current r 0) h)))
    (cases_eq r q)

pub room_for_each : RoomForEach
room_for_each retired ts v h =
    let all = v.current ++ (olds ts ++ v.free) in
    let count_is = λ (x : ℕ). times-append x v.current (olds ts ++ v.free) ∙ ap (λ n. times x v.current + n) (times-append x (olds ts) v.free) in
    let n = length_each_once (length v.values) all (λ x less. count_is x ∙ h.once x less) (λ x more. count_is x ∙ h.no_more x more) in
    omega (arith, n, length-append v.current (olds ts ++ v.free), length-append (olds ts) v.free, length-map ts (λ (u : Renamed). u.old.0), h.count)

-- ---- which numbers there are

-- what held r before these takes still holds it, or one of them kept it as old
pub kept_or_named : (ts : List Renamed) (held : ℕ → ℕ) (r : ℕ) → OldsAreBefore ts held → (named r ts (held r) ≡ held r) ⊎ (1 ≤ times (held r) (olds ts))
kept_or_named [] held r h = inl refl
kept_or_named (t ∷ ts) held r h =
    let rest = kept_or_named ts (λ q. after t q (held q)) r h.2 in
    ⊎_elim
    (λ (e : t.reg.0 ≡ r). inr (omega (arith, times-cons (held r) t.old.0 (olds ts), one_same (held r) t.old.0 (h.1 ∙ ap held e))))
    (λ (d : t.reg.0 ≡ r → ⊥).
    let stays = after_other t r (held r) d in
    ⊎_elim
    (λ (e : named r ts (after t r (held r)) ≡ after t r (held r)). inl (e ∙ stays))
    (λ (k : 1 ≤ times (after t r (held r)) (olds ts)). let later = rw stays at k in inr (omega (arith, later, times-cons (held r) t.old.0 (olds ts))))
    rest)
    (cases_eq t.reg.0 r)

abbrev IsWithin : ℕ → Renamed → Type 0
IsWithin n t = (t.reg.0 < arch_registers) × (t.new.0 < n) × (t.old.0 < n)

takes_within : (n : ℕ) (ts : List Renamed) (held : ℕ → ℕ) → OldsAreBefore ts held → ((r : ℕ) → r < arch_registers → named r ts (held r) < n) → ((x : ℕ) → 1 ≤ times x (olds ts) → x < n) → All (IsWithin n) ts
takes_within n [] held h named_low olds_low = All-nil (IsWithin n)
takes_within n (t ∷ ts) held h named_low olds_low =
    let behind = λ (q : ℕ). after t q (held q) in
    let less : (x : ℕ) → 1 ≤ times x (olds ts) → x < n = λ x k. olds_low x (omega (arith, times-cons x t.old.0 (olds ts))) in
    let given = after_same t t.reg.0 (held t.reg.0) refl in
    let new_low = ⊎_elim
    (λ (e : named t.reg.0 ts (behind t.reg.0) ≡ behind t.reg.0). let low : t.new.0 < n = omega (arith, named_low t.reg.0 h.0, e, given) in low)
    (λ (k : 1 ≤ times (behind t.reg.0) (olds ts)). let low : t.new.0 < n = omega (arith, less (behind t.reg.0) k, given) in low)
    (kept_or_named ts behind t.reg.0 h.2) in
    let old_low = olds_low t.old.0 (omega (arith, times-cons t.old.0 t.old.0 (olds ts), one_same t.old.0 t.old.0 refl)) in
    All-cons (IsWithin n) t ts (h.0, new_low, old_low) (takes_within n ts behind h.2 named_low less)

pub numbers_are_within : NumbersAreWithin
numbers_are_within retired ts v h =
    let n = length v.values in
    let current_low : (r : ℕ) → r < arch_registers → get_or v.current r 0 < n = λ r low. ⊎_elim
    (λ (less : get_or v.current r 0 < n). less)
    (λ (more : n ≤ get_or v.current r 0). absurd (omega (arith, h.no_more (get_or v.current r 0) more, times_held v.current r (omega (arith, h.count)))))
    (cases_lt (get_or v.current r 0) n) in
    let olds_low : (x : ℕ) → 1 ≤ times x (olds ts) → x < n = λ x k. ⊎_elim
    (λ (less : x < n). less)
    (λ (more : n ≤ x). absurd (omega (arith, h.no_more x more)))
    (cases_lt x n) in
    (current_low, takes_within n ts retired h.olds_are (λ r low. omega (arith, h.names r low, current_low r low)) olds_low)

-- ---- at first

first_of : (extra : ℕ) (v : NamesView) (n : ℕ) → n ≡ arch_registers → v.current ≡ range_with_len 0 n → v.free ≡ range_with_len n extra → length v.values ≡ n + extra → IsRenaming (λ r. r) [] v
first_of extra v n is current free values =
    let count_is = λ (x : ℕ). ap (times x) current in
    let free_is = λ (x : ℕ). ap (times x) free in
    record {
      count = ap length current ∙ length-range_with_len 0 n ∙ is;
      names = λ r low. ap (λ xs. get_or xs r 0) current ∙ get_or-range_with_len 0 n r 0 (omega arith) ∙ omega arith;
      olds_are = tt;
      once = λ x less. ⊎_elim
          (λ (h : x < n). omega (arith, count_is x, free_is x, times_within x 0 n (omega arith) (omega arith), times_before x n extra h))
          (λ (h : n ≤ x). omega (arith, count_is x, free_is x, times_behind x 0 n (omega arith), times_within x n extra h (omega arith)))
          (cases_lt x n);
      no_more = λ x more. omega (arith, count_is x, free_is x, times_behind x 0 n (omega arith), times_behind x n extra (omega arith));
    }

values_of : (extra : ℕ) (s : Arch) → length s.globals ≡ 8 → length s.windowed ≡ 128 → length (map Some (registers_of s) ++ replicate extra None) ≡ arch_registers + extra
values_of extra s globals windowed =
    let last = s.cc ∷ s.y ∷ [] in
    let none : Option ℕ = None in
    omega (arith, length-append (map Some (registers_of s)) (replicate extra None), length-map (registers_of s) Some, length-replicate extra none, length-append s.globals (s.windowed ++ last), length-append s.windowed last)

pub first_is_renaming : FirstIsRenaming
first_is_renaming extra s globals windowed =
    first_of extra (first_names extra s) arch_registers refl refl refl (values_of extra s globals windowed)
